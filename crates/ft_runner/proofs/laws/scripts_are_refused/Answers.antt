use Rattle.std.proofs.Common.{◌≡◌, ◌≤◌, ◌<◌, ◌⊎◌, ◌∙◌, ℕ, true, false, List, Result, Err, length, refl, sym, ap, subst, arith, inl, inr, if◌then◌else◌}
use Rattle.std.specs.Prelude.{◌==◌, is_ok}
use Rattle.std.proofs.lemmas.Bool.{eqb-true, true≢false}
use Rattle.ft_model.specs.declared.script.ScriptParts.{ScriptParts}
use Rattle.ft_script.specs.declared.fault.ScriptFault.{ScriptFault}
use Rattle.ft_script.specs.ReadScripts.{read_script}
use Rattle.ft_runner.specs.declared.report.Fault.{Fault}
use Rattle.ft_runner.specs.declared.report.Fault.TheVariants as fault
use Rattle.ft_runner.specs.declared.outcome.Outcome.TheVariants as outcome
use Rattle.ft_runner.specs.FaultCauses.{IsRunCause}
use Rattle.ft_runner.specs.Reports.{fault_of, refusal_of, IsFirstFault}
use Rattle.ft_runner.specs.Transfers.{script_limit}
use Rattle.ft_runner.proofs.CauseLemmas.{cause_of, run_cause_of}
use Rattle.ft_runner.proofs.laws.scripts_are_refused.Goals as goal

-- the first fault is this one
one_fault : (text : List ℕ) (reported refused : ScriptFault) → IsFirstFault text reported → read_script text ≡ Err refused → fault.Script reported.line reported.kind ≡ fault_of (refusal_of refused)
one_fault text reported refused is found =
    let same : ◌≡◌ {A = Result ScriptParts ScriptFault} (Err reported) (Err refused) = sym is.first ∙ found in
    let it : reported ≡ refused = cc in
    subst (λ (f : ScriptFault). fault.Script reported.line reported.kind ≡ fault_of (refusal_of f)) it
    (elim (reported.kind == 14) as (λ b. (reported.kind == 14) ≡ b → fault.Script reported.line reported.kind ≡ fault_of (if b then outcome.Memory else outcome.Script reported)) [
      | true ↦ λ memory. absurd (is.in_text (eqb-true reported.kind 14 memory))
      | false ↦ λ other. refl
    ] refl)

refuses : (f : Fault) (text : List ℕ) (refused : ScriptFault) → IsRunCause text f → length text ≤ script_limit → read_script text ≡ Err refused → (f ≡ fault_of (refusal_of refused)) ⊎ (f ≡ fault.Memory)
refuses (fault.Script line kind) text refused cause few read = inl (one_fault text (record { line = line; kind = kind; which = cause.1 }) refused cause.2 read)
refuses fault.Memory text refused cause few read = inr refl
refuses fault.TooLong text refused cause few read = absurd (omega arith)
refuses fault.Clean text refused cause few read = absurd (true≢false (ap (λ (r : Result ScriptParts ScriptFault). is_ok r) (sym cause.2 ∙ read)))
refuses fault.Usage text refused cause few read = absurd cause
refuses fault.Read text refused cause few read = absurd cause
refuses fault.Write text refused cause few read = absurd cause
refuses (fault.NotLegal place rule) text refused cause few read = absurd cause
refuses (fault.Transcript line) text refused cause few read = absurd cause

stops : (f : Fault) (text : List ℕ) → IsRunCause text f → script_limit < length text → (f ≡ fault.TooLong) ⊎ (f ≡ fault.Memory)
stops fault.TooLong text cause long = inl refl
stops fault.Memory text cause long = inr refl
stops fault.Clean text cause long = absurd (omega (arith, cause.0))
stops (fault.Script line kind) text cause long = absurd (omega (arith, cause.0))
stops fault.Usage text cause long = absurd cause
stops fault.Read text cause long = absurd cause
stops fault.Write text cause long = absurd cause
stops (fault.NotLegal place rule) text cause long = absurd cause
stops (fault.Transcript line) text cause long = absurd cause

pub returns-clause-faulty : goal.returns-clause-faulty
returns-clause-faulty c command text report refused on runs few read = refuses report.fault text refused (run_cause_of command runs text report.fault (cause_of command text report on)) few read

pub returns-clause-long : goal.returns-clause-long
returns-clause-long c command text report on runs long = stops report.fault text (run_cause_of command runs text report.fault (cause_of command text report on)) long
