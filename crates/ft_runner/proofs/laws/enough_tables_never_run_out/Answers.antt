use Rattle.std.proofs.Common.{◌≡◌, ◌∙◌, ℕ, List, Result, Ok, sym, subst}
use Rattle.ft_history.proofs.EnoughTables.{never_out}
use Rattle.ft_model.specs.declared.script.ScriptParts.{ScriptParts}
use Rattle.ft_script.specs.declared.fault.ScriptFault.{ScriptFault}
use Rattle.ft_script.specs.Generator.{made_text}
use Rattle.ft_script.specs.ReadScripts.{read_script}
use Rattle.ft_script.proofs.ReadScripts.{script_read}
use Rattle.ft_runner.specs.Findings.{stored}
use Rattle.ft_model.specs.Histories.{IsLegal}
use Rattle.ft_runner.proofs.WrittenReports.{summed_up, text_of_written}
use Rattle.ft_runner.proofs.laws.enough_tables_never_run_out.Goals as goal

same_script : (text : List ℕ) (one other : ScriptParts) → read_script text ≡ Ok one → read_script text ≡ Ok other → one ≡ other
same_script text one other read again =
    let both : ◌≡◌ {A = Result ScriptParts ScriptFault} (Ok one) (Ok other) = sym read ∙ again in
    cc

pub returns-clause-written : goal.returns-clause-written
returns-clause-written c command text written script runs wrote read enough within places =
    let of = text_of_written command text written runs wrote in
    never_out script wrote.report.history.items (script_read text script read) (subst (λ (s : ScriptParts). IsLegal stored s wrote.report.history.items) (same_script text of.script script of.read read) of.legal) enough within places

pub returns-clause-made : goal.returns-clause-made
returns-clause-made c calls text report script on clean read enough within places =
    let of = (summed_up calls text report on clean).2 in
    never_out script report.history.items (script_read (made_text calls) script read) (subst (λ (s : ScriptParts). IsLegal stored s report.history.items) (same_script (made_text calls) of.script script of.read read) of.legal) enough within places
