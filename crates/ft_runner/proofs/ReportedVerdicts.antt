-- The verdict on a transcript is what is reported, or memory runs out.
use Rattle.std.proofs.Common.{◌≡◌, ◌⊎◌, ℕ, List, refl, sym, ap, inl, inr}
use Rattle.ft_history.specs.declared.verdict.Verdict.{Verdict}
use Rattle.ft_history.specs.declared.verdict.Verdict.TheVariants as verdict
use Rattle.ft_model.specs.declared.entry.Entry.{Entry}
use Rattle.ft_model.specs.declared.script.ScriptParts.{ScriptParts}
use Rattle.ft_runner.specs.declared.report.Fault.{Fault}
use Rattle.ft_runner.specs.declared.report.Fault.TheVariants as fault
use Rattle.ft_runner.specs.FaultCauses.{IsCheckCause}
use Rattle.ft_runner.specs.Checking.{IsWithinLimits}
use Rattle.ft_runner.specs.Findings.{IsInput, IsVerdictOn}
use Rattle.ft_runner.specs.Reports.{reported_of}
use Rattle.ft_runner.proofs.SeparatorLemmas.{past_within}
use Rattle.ft_runner.proofs.OneFinding.{no_bad_line, no_script_fault, one_finding}

module _ (text : List ℕ) (script : ScriptParts) (entries : List Entry) (lines : List (List ℕ)) (found : Verdict) (within : IsWithinLimits text) (input : IsInput text script entries lines) (on : IsVerdictOn script entries lines found) where
  pub reported : (f : Fault) → IsCheckCause text f → (f ≡ reported_of found) ⊎ (f ≡ fault.Memory)
  reported fault.Clean cause = inl (ap reported_of (sym (one_finding text script entries lines input found verdict.Legal on cause.1)))
  reported (fault.NotLegal place rule) cause = inl (ap reported_of (sym (one_finding text script entries lines input found (verdict.Not place rule) on cause.1)))
  reported fault.Memory cause = inr refl
  reported (fault.Transcript line) cause = absurd (no_bad_line text script entries lines input line cause.1)
  reported (fault.Script line kind) cause = absurd (no_script_fault text script entries lines input (record { line = line; kind = kind; which = cause.1 }) cause.2)
  reported fault.TooLong cause = absurd (past_within text cause within)
  reported fault.Usage cause = absurd cause
  reported fault.Read cause = absurd cause
  reported fault.Write cause = absurd cause
