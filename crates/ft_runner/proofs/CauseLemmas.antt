-- From a report to what the source has.
use Rattle.std.proofs.Common.{◌≡◌, ◌≢◌, ◌∙◌, ◌≤◌, ℕ, Bool, true, false, List, [], ◌++◌, length, Option, Some, None, refl, sym, ap, subst, arith, inl, inr}
use Rattle.std.specs.Prelude.{IfSome, nat_lt}
use Rattle.ft_runner.specs.Making.{IsMadeScript, IsSummary}
use Rattle.ft_bank.specs.declared.closed.Closed.{Closed}
use Rattle.ft_model.specs.declared.entry.Entry.{Entry}
use Rattle.ft_script.specs.ReadScripts.{read_script}
use Rattle.std.proofs.lemmas.Bool.{ltb-false, ltb-true, true≢false}
use Rattle.std.proofs.lemmas.List.{append-nil, length-append}
use Rattle.ft_history.specs.declared.verdict.Verdict.TheVariants as verdict
use Rattle.ft_io.specs.Streams.{raised, prepended, Stream}
use Rattle.ft_runner.specs.declared.command.Subcommand.{Subcommand}
use Rattle.ft_runner.specs.declared.command.Subcommand.TheVariants as subcommand
use Rattle.ft_runner.specs.declared.report.Fault.{Fault}
use Rattle.ft_runner.specs.declared.outcome.Outcome.{Outcome}
use Rattle.ft_runner.specs.declared.outcome.Outcome.TheVariants as outcome
use Rattle.ft_runner.specs.declared.report.Report.{Report}
use Rattle.ft_runner.specs.FaultCauses.{IsCause, IsCheckCause, IsMakeCause, IsReportOn, IsRunCause}
use Rattle.ft_runner.specs.Checking.{IsPastLimit, IsTooLong, IsWithinLimits}
use Rattle.ft_runner.specs.Commands.{runs_script}
use Rattle.ft_runner.specs.Findings.{IsBadAt, IsFound}
use Rattle.ft_runner.specs.Reports.{fault_of, is_read_outcome, DoesCheck, DoesMake, DoesRun, IsCommandDone, IsFirstFault, IsScriptFault, PutsFor}
use Rattle.ft_runner.specs.Transfers.{script_limit, GivesBytes, HasEnded}
use Rattle.ft_runner.proofs.ReportLemmas.{some_none}

-- ---- what came is the front of what the source has

rest_of : (after : Option (List ℕ)) (came text : List ℕ) → Some text ≡ prepended came after → (rest : List ℕ) × (after ≡ Some rest) × (came ++ rest ≡ text)
rest_of None came text same = absurd (some_none same)
rest_of (Some rest) came text same = (rest, refl, let bytes : Some text ≡ Some (came ++ rest) = same in cc)

gives_rest : (before after : Stream) (came text : List ℕ) (failed : Bool) → GivesBytes before came failed after → before.content ≡ Some text → (rest : List ℕ) × (after.content ≡ Some rest) × (came ++ rest ≡ text)
gives_rest before after came text failed gives has = rest_of after.content came text (sym has ∙ gives.content)

-- and all of it, where the source has ended
pub gives_all : (before after : Stream) (came text : List ℕ) (failed : Bool) → GivesBytes before came failed after → before.content ≡ Some text → HasEnded after → came ≡ text
gives_all before after came text failed gives has ended =
    let there = gives_rest before after came text failed gives has in
    let none : there.0 ≡ [] = subst (λ left. IfSome left (λ rest. rest ≡ [])) there.1 ended in
    sym (append-nil came) ∙ ap (λ (rest : List ℕ). came ++ rest) (sym none) ∙ there.2

too_long_text : (before after : Stream) (came text : List ℕ) (failed : Bool) → GivesBytes before came failed after → before.content ≡ Some text → IsTooLong before came after → IsPastLimit text
too_long_text before after came text failed gives has (inl whatever) = let there = gives_rest before after came text failed gives has in subst IsPastLimit there.2 (whatever there.0)
too_long_text before after came text failed gives has (inr whole) = subst IsPastLimit (gives_all before after came text false whole.1.gives has whole.1.ended) whole.0

-- ---- the cause of each fault

module _ (source source' sink sink' : Stream) (text : List ℕ) (has : source.content ≡ Some text) (source_stood : source'.faults ≢ raised source.faults) (sink_stood : sink'.faults ≢ raised sink.faults) where
  -- a text that was read to its end and was not too long is within the limit
  few_of : (came : List ℕ) → came ≡ text → false ≡ nat_lt script_limit (length came) → length text ≤ script_limit
  few_of came whole few = omega (arith, ap length whole, ltb-false 4194304 (length came) (sym few))

  run_cause : (command : Subcommand) (ended : Outcome) (came put : List ℕ) → GivesBytes source came (is_read_outcome ended) source' → PutsFor ended sink put sink' → DoesRun command ended came source' put → IsRunCause text (fault_of ended)
  run_cause command (outcome.Clean history closed) came put gives written does =
      let whole = gives_all source source' came text false gives has (does.to_end refl) in
      (few_of came whole does.too_long, does.means.0.script, ap read_script (sym whole) ∙ does.means.0.read)
  run_cause command (outcome.Script refused) came put gives written does =
      let whole = gives_all source source' came text false gives has (does.to_end refl) in
      (few_of came whole does.too_long, refused.which, subst (λ bytes. IsFirstFault bytes refused) whole does.means.0)
  run_cause command outcome.TooLong came put gives written does =
      let there = gives_rest source source' came text false gives has in
      omega (arith, ltb-true 4194304 (length came) (sym does.too_long), ap length there.2, length-append came there.0)
  run_cause command outcome.Memory came put gives written does = tt
  run_cause command outcome.Read came put gives written does = absurd (source_stood gives.faults)
  run_cause command (outcome.Write history closed) came put gives written does = absurd (sink_stood written.faults)
  run_cause command outcome.Usage came put gives written does = absurd does.means
  run_cause command (outcome.NotLegal place rule) came put gives written does = absurd does.means
  run_cause command (outcome.Transcript line) came put gives written does = absurd does.means

  check_cause : (ended : Outcome) (came put : List ℕ) → GivesBytes source came (is_read_outcome ended) source' → PutsFor ended sink put sink' → DoesCheck ended source came source' put → IsCheckCause text (fault_of ended)
  check_cause (outcome.Clean history closed) came put gives written does =
      let whole = gives_all source source' came text false gives has (does.to_end refl) in
      (subst IsWithinLimits whole (does.within refl), subst (λ bytes. IsFound bytes verdict.Legal) whole does.means.0)
  check_cause (outcome.NotLegal place rule) came put gives written does =
      let whole = gives_all source source' came text false gives has (does.to_end refl) in
      (subst IsWithinLimits whole (does.within refl), subst (λ bytes. IsFound bytes (verdict.Not place rule)) whole does.means)
  check_cause (outcome.Transcript line) came put gives written does =
      let whole = gives_all source source' came text false gives has (does.to_end refl) in
      (subst IsWithinLimits whole (does.within refl), subst (λ bytes. IsBadAt bytes line) whole does.means.0)
  check_cause (outcome.Script refused) came put gives written does =
      let whole = gives_all source source' came text false gives has (does.to_end refl) in
      (subst IsWithinLimits whole (does.within refl), refused.which, subst (λ bytes. IsScriptFault bytes refused) whole does.means.0)
  check_cause outcome.TooLong came put gives written does = too_long_text source source' came text false gives has (does.too_long refl)
  check_cause outcome.Memory came put gives written does = tt
  check_cause outcome.Read came put gives written does = absurd (source_stood gives.faults)
  check_cause (outcome.Write history closed) came put gives written does = absurd (sink_stood written.faults)
  check_cause outcome.Usage came put gives written does = absurd does.means

  make_cause : (IsWhole : List Entry → Option Closed → List ℕ → Type 0) (ended : Outcome) (came put : List ℕ) → PutsFor ended sink put sink' → DoesMake IsWhole ended source came source' put → IsMakeCause (fault_of ended)
  make_cause IsWhole (outcome.Clean history closed) came put written does = tt
  make_cause IsWhole outcome.Memory came put written does = tt
  make_cause IsWhole (outcome.Write history closed) came put written does = absurd (sink_stood written.faults)
  make_cause IsWhole (outcome.Script refused) came put written does = absurd does.means
  make_cause IsWhole outcome.Usage came put written does = absurd does.means
  make_cause IsWhole outcome.Read came put written does = absurd does.means
  make_cause IsWhole outcome.TooLong came put written does = absurd does.means
  make_cause IsWhole (outcome.NotLegal place rule) came put written does = absurd does.means
  make_cause IsWhole (outcome.Transcript line) came put written does = absurd does.means

  any_cause : (command : Subcommand) (ended : Outcome) → IsCommandDone (Some command) source source' sink sink' ended → IsCause command text (fault_of ended)
  any_cause subcommand.Run ended done = run_cause subcommand.Run ended done.came done.put done.reading done.writing done.own
  any_cause subcommand.Turns ended done = run_cause subcommand.Turns ended done.came done.put done.reading done.writing done.own
  any_cause subcommand.Check ended done = check_cause ended done.came done.put done.reading done.writing done.own
  any_cause (subcommand.Make calls) ended done = make_cause (IsMadeScript calls) ended done.came done.put done.writing done.own
  any_cause (subcommand.MakeTurns calls) ended done = make_cause (IsSummary calls) ended done.came done.put done.writing done.own

pub cause_of : (command : Subcommand) (text : List ℕ) (report : Report) → IsReportOn command text report → IsCause command text report.fault
cause_of command text report on =
    let done = subst (λ asked. IsCommandDone asked on.source on.source' on.sink on.sink' on.is.ended) on.asked on.is.done in
    subst (IsCause command text) (sym on.is.fault) (any_cause on.source on.source' on.sink on.sink' text on.has on.source_stood on.sink_stood command on.is.ended done)

pub run_cause_of : (command : Subcommand) → runs_script command ≡ true → (text : List ℕ) (reported : Fault) → IsCause command text reported → IsRunCause text reported
run_cause_of subcommand.Run runs text reported cause = cause
run_cause_of subcommand.Turns runs text reported cause = cause
run_cause_of subcommand.Check runs text reported cause = absurd (true≢false (sym runs))
run_cause_of (subcommand.Make calls) runs text reported cause = absurd (true≢false (sym runs))
run_cause_of (subcommand.MakeTurns calls) runs text reported cause = absurd (true≢false (sym runs))
