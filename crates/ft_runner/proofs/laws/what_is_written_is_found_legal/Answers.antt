use Rattle.std.proofs.Common.{◌≡◌, ◌⊎◌, ◌≤◌, ℕ, List, Ok, length, sym, subst, inl, inr}
use Rattle.ft_history.specs.declared.verdict.Verdict.TheVariants as verdict
use Rattle.ft_io.specs.Streams.{added}
use Rattle.ft_model.specs.declared.entry.Entry.{Entry}
use Rattle.ft_model.specs.declared.script.ScriptParts.{ScriptParts}
use Rattle.ft_model.specs.Histories.{writes, world_at, IsLegal}
use Rattle.ft_script.specs.ReadScripts.{read_script}
use Rattle.ft_script.specs.Texts.{transcript}
use Rattle.ft_runner.specs.declared.command.Subcommand.TheVariants as subcommand
use Rattle.ft_runner.specs.declared.report.Fault.TheVariants as fault
use Rattle.ft_runner.specs.declared.report.Report.{Report}
use Rattle.ft_runner.specs.FaultCauses.{IsReportOn}
use Rattle.ft_runner.specs.Checking.{IsSeparator, IsWithinLimits}
use Rattle.ft_runner.specs.Findings.{legal_line, stored, IsInput}
use Rattle.ft_runner.specs.Transfers.{input_limit, script_limit}
use Rattle.ft_runner.specs.Written.{checked_text, EndsLine}
use Rattle.ft_runner.proofs.CauseLemmas.{cause_of}
use Rattle.ft_runner.proofs.ReadableWorlds.{lines_of_world}
use Rattle.ft_runner.proofs.ReportedVerdicts.{reported}
use Rattle.ft_runner.proofs.WrittenReports.{text_of_written, writes_legal}
use Rattle.ft_runner.proofs.WrittenTexts.{is_found_legal, is_read_back, separator_there}
use Rattle.ft_runner.proofs.laws.what_is_written_is_found_legal.Goals as goal

-- the text of a legal history of the script is found legal
found_legal : (text written : List ℕ) (script : ScriptParts) (history : List Entry) → read_script text ≡ Ok script → IsLegal stored script history → length text ≤ script_limit → written ≡ transcript script history → EndsLine text → length (checked_text text written) ≤ input_limit
    → (report : Report) (on : IsReportOn subcommand.Check (checked_text text written) report) → ((report.fault ≡ fault.Clean) × (on.sink'.content ≡ added on.sink.content legal_line)) ⊎ (report.fault ≡ fault.Memory)
found_legal text written script history read legal few_text is ended few report on =
    let lines = lines_of_world script (world_at script history (length (writes history))) in
    let whole = checked_text text written in
    let input = subst (λ (w : List ℕ). IsInput (checked_text text w) script history lines) (sym is) (is_read_back text script read ended history legal) in
    let separator = subst (λ (w : List ℕ). IsSeparator (checked_text text w) (length text)) (sym is) (separator_there text script read ended history legal) in
    let within : IsWithinLimits whole = record { few = few; script_few = inr (length text, few_text, separator) } in
    let found = is_found_legal text script read ended history legal in
    elim (reported whole script history lines verdict.Legal within input found report.fault (cause_of subcommand.Check whole report on)) [
      | inl clean ↦ inl (clean, writes_legal whole report on clean)
      | inr memory ↦ inr memory
    ]

pub returns : goal.returns
returns c command text written report runs wrote ended few on =
    let of = text_of_written command text written runs wrote in
    found_legal text written of.script wrote.report.history.items of.read of.legal of.few of.is ended few report on
