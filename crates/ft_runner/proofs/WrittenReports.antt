-- What a clean report of a run says of what was written, and one of a check.
use Rattle.std.proofs.Common.{◌≡◌, ◌∙◌, ℕ, ◌≤◌, true, false, List, [], length, Option, Some, Ok, refl, sym, ap, subst}
use Rattle.std.proofs.lemmas.Bool.{false≢true}
use Rattle.ft_bank.specs.declared.closed.Closed.{Closed}
use Rattle.ft_io.specs.Streams.{added, Stream}
use Rattle.ft_model.specs.declared.entry.Entry.{Entry}
use Rattle.ft_model.specs.declared.script.ScriptParts.{ScriptParts}
use Rattle.ft_model.specs.Histories.{IsLegal}
use Rattle.ft_script.specs.ReadScripts.{read_script}
use Rattle.ft_script.specs.Texts.{transcript}
use Rattle.ft_runner.specs.declared.command.Subcommand.{Subcommand}
use Rattle.ft_runner.specs.declared.command.Subcommand.TheVariants as subcommand
use Rattle.ft_runner.specs.declared.outcome.Outcome.{Outcome}
use Rattle.ft_runner.specs.declared.outcome.Outcome.TheVariants as outcome
use Rattle.ft_runner.specs.declared.report.Fault.TheVariants as fault
use Rattle.ft_runner.specs.declared.report.Report.{Report}
use Rattle.ft_runner.specs.FaultCauses.{IsReportOn, IsRunCause}
use Rattle.ft_runner.specs.Commands.{runs_script}
use Rattle.ft_runner.specs.Findings.{legal_line, stored}
use Rattle.ft_runner.specs.Making.{IsSummary}
use Rattle.ft_runner.specs.Reports.{closed_of, fault_of, history_of, is_read_outcome, DoesCheck, DoesMake, DoesRun, IsCommandDone, IsCommandHistory, PutsFor}
use Rattle.ft_runner.specs.Transfers.{script_limit, GivesBytes}
use Rattle.ft_runner.specs.Written.{IsWritten}
use Rattle.ft_runner.proofs.CauseLemmas.{cause_of, gives_all, run_cause_of}

-- what was written is the text of this history of the script that the text is
pub record IsTextOf (command : Subcommand) (text written : List ℕ) (history : List Entry) : Type 0 where
  pub script : ScriptParts
  pub read : read_script text ≡ Ok script
  pub legal : IsLegal stored script history
  pub few : length text ≤ script_limit
  pub is : written ≡ transcript script history

module _ (source source' sink sink' : Stream) (text : List ℕ) (has : source.content ≡ Some text) where
  -- what went into an empty sink is what it has
  put_is : (put written : List ℕ) → sink.content ≡ Some [] → sink'.content ≡ added sink.content put → sink'.content ≡ Some written → put ≡ written
  put_is put written empty gets got =
      let both : ◌≡◌ {A = Option (List ℕ)} (Some put) (Some written) = sym (gets ∙ ap (λ (o : Option (List ℕ)). added o put) empty) ∙ got in
      cc

  clean_run : (command : Subcommand) (ended : Outcome) (came put written : List ℕ) → fault_of ended ≡ fault.Clean → GivesBytes source came (is_read_outcome ended) source' → PutsFor ended sink put sink' → DoesRun command ended came source' put
      → sink.content ≡ Some [] → sink'.content ≡ Some written → IsCommandHistory command text (history_of ended) written
  clean_run command (outcome.Clean history closed) came put written clean gives puts does empty got =
      let whole = gives_all source source' came text false gives has (does.to_end refl) in
      let same = put_is put written empty puts.content got in
      subst (λ (w : List ℕ). IsCommandHistory command text history.items w) same (subst (λ (t : List ℕ). IsCommandHistory command t history.items put) whole does.means.0)
  clean_run command (outcome.Script refused) came put written clean gives puts does empty got = absurd cc
  clean_run command outcome.Usage came put written clean gives puts does empty got = absurd cc
  clean_run command outcome.Read came put written clean gives puts does empty got = absurd cc
  clean_run command (outcome.Write history closed) came put written clean gives puts does empty got = absurd cc
  clean_run command outcome.Memory came put written clean gives puts does empty got = absurd cc
  clean_run command outcome.TooLong came put written clean gives puts does empty got = absurd cc
  clean_run command (outcome.NotLegal place rule) came put written clean gives puts does empty got = absurd cc
  clean_run command (outcome.Transcript line) came put written clean gives puts does empty got = absurd cc

  any_run : (command : Subcommand) → runs_script command ≡ true → (ended : Outcome) (written : List ℕ) → IsCommandDone (Some command) source source' sink sink' ended → fault_of ended ≡ fault.Clean
      → sink.content ≡ Some [] → sink'.content ≡ Some written → IsCommandHistory command text (history_of ended) written
  any_run subcommand.Run runs ended written done clean empty got = clean_run subcommand.Run ended done.came done.put written clean done.reading done.writing done.own empty got
  any_run subcommand.Turns runs ended written done clean empty got = clean_run subcommand.Turns ended done.came done.put written clean done.reading done.writing done.own empty got
  any_run subcommand.Check runs ended written done clean empty got = absurd (false≢true runs)
  any_run (subcommand.Make calls) runs ended written done clean empty got = absurd (false≢true runs)
  any_run (subcommand.MakeTurns calls) runs ended written done clean empty got = absurd (false≢true runs)

  clean_check : (ended : Outcome) (came put : List ℕ) → fault_of ended ≡ fault.Clean → PutsFor ended sink put sink' → DoesCheck ended source came source' put → sink'.content ≡ added sink.content legal_line
  clean_check (outcome.Clean history closed) came put clean puts does = puts.content ∙ ap (added sink.content) does.means.3
  clean_check (outcome.Script refused) came put clean puts does = absurd cc
  clean_check outcome.Usage came put clean puts does = absurd cc
  clean_check outcome.Read came put clean puts does = absurd cc
  clean_check (outcome.Write history closed) came put clean puts does = absurd cc
  clean_check outcome.Memory came put clean puts does = absurd cc
  clean_check outcome.TooLong came put clean puts does = absurd cc
  clean_check (outcome.NotLegal place rule) came put clean puts does = absurd cc
  clean_check (outcome.Transcript line) came put clean puts does = absurd cc

done_of : (command : Subcommand) (text : List ℕ) (report : Report) (on : IsReportOn command text report) → IsCommandDone (Some command) on.source on.source' on.sink on.sink' on.is.ended
done_of command text report on = subst (λ asked. IsCommandDone asked on.source on.source' on.sink on.sink' on.is.ended) on.asked on.is.done

pub text_of_written : (command : Subcommand) (text written : List ℕ) → runs_script command ≡ true → (w : IsWritten command text written) → IsTextOf command text written w.report.history.items
text_of_written command text written runs w =
    let on = w.on in
    let there = any_run on.source on.source' on.sink on.sink' text on.has command runs on.is.ended written (done_of command text w.report on) (sym on.is.fault ∙ w.clean) w.empty w.got in
    let here = subst (λ (h : List Entry). IsCommandHistory command text h written) (sym on.is.history) there in
    let cause = run_cause_of command runs text w.report.fault (cause_of command text w.report on) in
    let few = subst (IsRunCause text) w.clean cause in
    record { script = here.script; read = here.read; legal = here.legal; few = few.0; is = here.written }

pub writes_legal : (text : List ℕ) (report : Report) (on : IsReportOn subcommand.Check text report) → report.fault ≡ fault.Clean → on.sink'.content ≡ added on.sink.content legal_line
writes_legal text report on clean =
    let done = done_of subcommand.Check text report on in
    clean_check on.source on.source' on.sink on.sink' text on.has on.is.ended done.came done.put (sym on.is.fault ∙ clean) done.writing done.own

-- ---- a made script that is summed up

clean_summary : (calls : ℕ) (ended : Outcome) (source : Stream) (came : List ℕ) (source' : Stream) (put : List ℕ) → fault_of ended ≡ fault.Clean → DoesMake (IsSummary calls) ended source came source' put → IsSummary calls (history_of ended) (closed_of ended) put
clean_summary calls (outcome.Clean history closed) source came source' put clean does = does.means
clean_summary calls (outcome.Script refused) source came source' put clean does = absurd cc
clean_summary calls outcome.Usage source came source' put clean does = absurd cc
clean_summary calls outcome.Read source came source' put clean does = absurd cc
clean_summary calls (outcome.Write history closed) source came source' put clean does = absurd cc
clean_summary calls outcome.Memory source came source' put clean does = absurd cc
clean_summary calls outcome.TooLong source came source' put clean does = absurd cc
clean_summary calls (outcome.NotLegal place rule) source came source' put clean does = absurd cc
clean_summary calls (outcome.Transcript line) source came source' put clean does = absurd cc

-- what was put is the summary of the history that is reported
pub summed_up : (calls : ℕ) (text : List ℕ) (report : Report) → IsReportOn (subcommand.MakeTurns calls) text report → report.fault ≡ fault.Clean → (closed : Option Closed) × (put : List ℕ) × IsSummary calls report.history.items closed put
summed_up calls text report on clean =
    let ended = on.is.ended in
    let done = done_of (subcommand.MakeTurns calls) text report on in
    let is = clean_summary calls ended on.source done.came on.source' done.put (sym on.is.fault ∙ clean) done.own in
    (closed_of ended, done.put, subst (λ (history : List Entry). IsSummary calls history (closed_of ended) done.put) (sym on.is.history) is)
