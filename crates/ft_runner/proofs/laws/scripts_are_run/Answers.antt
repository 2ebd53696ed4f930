use Rattle.std.proofs.Common.{◌≡◌, ◌≤◌, ◌⊎◌, ◌∙◌, ℕ, List, Result, Ok, length, refl, sym, ap, arith, inl, inr}
use Rattle.std.proofs.lemmas.Bool.{true≢false}
use Rattle.std.specs.Prelude.{is_ok}
use Rattle.ft_model.specs.declared.script.ScriptParts.{ScriptParts}
use Rattle.ft_script.specs.declared.fault.ScriptFault.{ScriptFault}
use Rattle.ft_script.specs.ReadScripts.{read_script}
use Rattle.ft_runner.specs.declared.report.Fault.{Fault}
use Rattle.ft_runner.specs.declared.report.Fault.TheVariants as fault
use Rattle.ft_runner.specs.FaultCauses.{IsRunCause}
use Rattle.ft_runner.specs.Transfers.{script_limit}
use Rattle.ft_runner.proofs.CauseLemmas.{cause_of, run_cause_of}
use Rattle.ft_runner.proofs.laws.scripts_are_run.Goals as goal

ends_well : (f : Fault) (text : List ℕ) (script : ScriptParts) → IsRunCause text f → length text ≤ script_limit → read_script text ≡ Ok script → (f ≡ fault.Clean) ⊎ (f ≡ fault.Memory)
ends_well fault.Clean text script cause few read = inl refl
ends_well fault.Memory text script cause few read = inr refl
ends_well fault.TooLong text script cause few read = absurd (omega arith)
ends_well (fault.Script line kind) text script cause few read = absurd (true≢false (ap (λ (r : Result ScriptParts ScriptFault). is_ok r) (sym read ∙ cause.2.first)))
ends_well fault.Usage text script cause few read = absurd cause
ends_well fault.Read text script cause few read = absurd cause
ends_well fault.Write text script cause few read = absurd cause
ends_well (fault.NotLegal place rule) text script cause few read = absurd cause
ends_well (fault.Transcript line) text script cause few read = absurd cause

pub returns : goal.returns
returns c command text report script on runs few read = ends_well report.fault text script (run_cause_of command runs text report.fault (cause_of command text report on)) few read
