use Rattle.std.proofs.Common.{◌≡◌, ◌⊎◌, ◌∙◌, ℕ, List, Result, Ok, refl, sym, ap, subst, inl, inr}
use Rattle.std.proofs.lemmas.Bool.{true≢false}
use Rattle.std.specs.Prelude.{is_ok}
use Rattle.ft_model.specs.declared.script.ScriptParts.{ScriptParts}
use Rattle.ft_script.specs.declared.fault.ScriptFault.{ScriptFault}
use Rattle.ft_script.specs.ReadScripts.{read_script}
use Rattle.ft_runner.specs.declared.command.Subcommand.TheVariants as subcommand
use Rattle.ft_runner.specs.declared.report.Fault.{Fault}
use Rattle.ft_runner.specs.declared.report.Fault.TheVariants as fault
use Rattle.ft_runner.specs.FaultCauses.{IsCheckCause}
use Rattle.ft_runner.specs.Checking.{IsScriptPart, IsWithinLimits}
use Rattle.ft_runner.specs.Reports.{status_of}
use Rattle.ft_runner.proofs.CauseLemmas.{cause_of}
use Rattle.ft_runner.proofs.SeparatorLemmas.{one_script, past_within}
use Rattle.ft_runner.proofs.laws.transcripts_are_checked.Goals as goal

abbrev EndsWell : ℕ → Type 0
EndsWell status = (status ≡ 0) ⊎ (status ≡ 5) ⊎ (status ≡ 7) ⊎ (status ≡ 8)

ends_well : (f : Fault) (text part : List ℕ) (script : ScriptParts) → IsCheckCause text f → IsWithinLimits text → IsScriptPart text part → read_script part ≡ Ok script → EndsWell (status_of f)
ends_well fault.Clean text part script cause within is read = inl refl
ends_well fault.Memory text part script cause within is read = inr (inl refl)
ends_well (fault.NotLegal place rule) text part script cause within is read = inr (inr (inl refl))
ends_well (fault.Transcript line) text part script cause within is read = inr (inr (inr refl))
ends_well fault.TooLong text part script cause within is read = absurd (past_within text cause within)
ends_well (fault.Script line kind) text part script cause within is read =
    let first = cause.2 in
    absurd (true≢false (ap (λ (r : Result ScriptParts ScriptFault). is_ok r) (sym read ∙ ap read_script (one_script text part first.0 is first.1) ∙ first.2.first)))
ends_well fault.Usage text part script cause within is read = absurd cause
ends_well fault.Read text part script cause within is read = absurd cause
ends_well fault.Write text part script cause within is read = absurd cause

pub returns : goal.returns
returns c text part report script on within is read =
    subst EndsWell (sym on.is.status) (ends_well report.fault text part script (cause_of subcommand.Check text report on) within is read)
