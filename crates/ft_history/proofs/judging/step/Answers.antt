use Rattle.std.proofs.Common.{◌≡◌, ℕ, ◌<◌, ◌≤◌, List, length, take, Some, refl, sym, subst, ◌∙◌, arith}
use Rattle.std.specs.Prelude.{slice_get, slice_index_or, All}
use Rattle.ft_model.specs.Calls.{containers_of}
use Rattle.std.proofs.lemmas.Option.{slice_get_read, same_Some}
use Rattle.ft_model.specs.declared.entry.Entry.{Entry}
use Rattle.ft_model.specs.declared.entry.Rule.TheVariants as rule
use Rattle.ft_history.specs.Internal.Steps.{BreaksFirst, FindsBroken}
use Rattle.ft_model.specs.Histories.{writes, entries_of}
use Rattle.ft_history.proofs.Judged.{few_made, few_boxed}
use Rattle.ft_history.proofs.FewEntries.{room_before}
use Rattle.ft_history.proofs.AccountLemmas.{earned_no_cursor, few_takings}
use Rattle.ft_history.proofs.ScriptLemmas.{await_of, earlier_named, unsplit_start}
use Rattle.ft_history.proofs.GoesAfterLemmas.{state_after, askable_at, of_kind_at, within_containers, thread_within, few_writes, few_marks, breaks_reply, holds_four, finds_all, where_none}
use Rattle.ft_history.proofs.judging.step.Goals as goal

-- the entry that stands at the place
here : (entries : List Entry) (place : ℕ) (entry : Entry) → place < length entries → entry ≡ slice_index_or entries place entry → slice_get entries place ≡ Some entry
here entries place entry low read = slice_get_read entries (length entries) place entry refl low read

pub returns-in-Some-clause-found : goal.returns-in-Some-clause-found
returns-in-Some-clause-found c = λ entry at.
    let same = same_Some _ _ (sym (here c.args.entries.now c.args.place c.index-entries-place.result c.requires.place c.index-entries-place.is) ∙ at) in
    subst (λ e. BreaksFirst c.args.storage c.args.parts.now c.args.entries.now c.args.place e c.in-Some.rule) same (c.in-Some.ensures c.args.storage)

pub late_rule-late-requires-clause-thread : goal.late_rule-late-requires-clause-thread
late_rule-late-requires-clause-thread c =
    let at = here c.args.entries.now c.args.place c.index-entries-place.result c.requires.place c.index-entries-place.is in
    let next = c.in_default.ensures c.args.storage rule.Whole (omega arith) in
    omega (arith, c.args.state.now.threads.ok.0, thread_within c.args.parts.now c.requires.script c.args.entries.now c.args.place c.index-entries-place.result at next c.args.state.now c.requires.state)

pub late_rule-late-requires-clause-awaits : goal.late_rule-late-requires-clause-awaits
late_rule-late-requires-clause-awaits c =
    let next = c.in_default.ensures c.args.storage rule.Whole (omega arith) in
    earlier_named c.args.parts.now _ _ c.index-entries-place.result.call (await_of c.args.parts.now c.requires.script _ _ c.index-entries-place.result.call next.call) (late_rule-late-requires-clause-thread c)

pub late_rule-late-requires-clause-unsplit : goal.late_rule-late-requires-clause-unsplit
late_rule-late-requires-clause-unsplit c = unsplit_start c.args.parts.now c.requires.script

pub late_rule-late-requires-clause-kinds : goal.late_rule-late-requires-clause-kinds
late_rule-late-requires-clause-kinds c =
    let at = here c.args.entries.now c.args.place c.index-entries-place.result c.requires.place c.index-entries-place.is in
    let next = c.in_default.ensures c.args.storage rule.Whole (omega arith) in
    of_kind_at c.args.parts.now c.requires.script c.args.entries.now c.args.place c.index-entries-place.result at next c.args.state.now c.requires.state

pub go_after-requires-clause-account : goal.go_after-requires-clause-account
go_after-requires-clause-account c = omega (arith, c.args.state.now.account.takings.ok.0, c.requires.state.account.classes)

pub go_after-requires-clause-takings : goal.go_after-requires-clause-takings
go_after-requires-clause-takings c =
    few_takings c.args.parts.now (writes (take c.args.place c.args.entries.now)) c.args.state.now.account c.requires.state.account
    (omega (arith, few_writes c.args.entries.now c.args.place (omega (arith, c.requires.place)), c.requires.few, c.requires.place))

pub go_after-requires-clause-thread : goal.go_after-requires-clause-thread
go_after-requires-clause-thread c =
    let at = here c.args.entries.now c.args.place c.index-entries-place.result c.requires.place c.index-entries-place.is in
    let next = c.in_default.ensures c.args.storage rule.Whole (omega arith) in
    omega (arith, c.args.state.now.threads.ok.0, thread_within c.args.parts.now c.requires.script c.args.entries.now c.args.place c.index-entries-place.result at next c.args.state.now c.requires.state)

pub go_after-requires-clause-askable : goal.go_after-requires-clause-askable
go_after-requires-clause-askable c = λ progress made.
    let at = here c.args.entries.now c.args.place c.index-entries-place.result c.requires.place c.index-entries-place.is in
    let next = c.in_default.ensures c.args.storage rule.Whole (omega arith) in
    askable_at c.args.parts.now c.requires.script c.args.entries.now c.args.place c.index-entries-place.result at next c.args.state.now progress c.requires.state made

pub go_after-requires-clause-room : goal.go_after-requires-clause-room
go_after-requires-clause-room c = λ progress made.
    room_before c.args.parts.now c.args.entries.now c.args.place c.args.state.now.world progress.hands c.index-entries-place.result.call (omega (arith, c.requires.place)) c.requires.calls c.requires.state.world

pub go_after-requires-clause-few : goal.go_after-requires-clause-few
go_after-requires-clause-few c = λ progress made.
    let so_far = c.requires.state.progress c.index-entries-place.result.thread progress made in
    let within : c.args.place ≤ length c.args.entries.now = omega (arith, c.requires.place) in (
      omega (arith, so_far.made, few_made c.args.entries.now c.args.place c.index-entries-place.result.thread within, c.requires.few, c.requires.place),
      omega (arith, so_far.marks, few_marks c.args.entries.now c.args.place c.index-entries-place.result.thread within, c.requires.few, c.requires.place),
      omega (arith, few_boxed c.args.parts.now c.args.entries.now c.args.place c.index-entries-place.result.thread progress.boxed within so_far.boxed, c.requires.few, c.requires.place),
    )

pub go_after-requires-clause-writes : goal.go_after-requires-clause-writes
go_after-requires-clause-writes c = omega (arith, c.requires.state.count, few_writes c.args.entries.now c.args.place (omega (arith, c.requires.place)), c.requires.few, c.requires.place)

pub go_after-requires-clause-containers : goal.go_after-requires-clause-containers
go_after-requires-clause-containers c =
    let at = here c.args.entries.now c.args.place c.index-entries-place.result c.requires.place c.index-entries-place.is in
    let next = c.in_default.ensures c.args.storage rule.Whole (omega arith) in
    subst (λ n. All (λ container. container < n) (containers_of c.index-entries-place.result.call)) (sym c.args.state.now.containers.ok.0)
    (within_containers c.args.parts.now c.requires.script c.args.entries.now c.args.place c.index-entries-place.result at next c.args.state.now c.requires.state)

pub returns-then-right-clause-found : goal.returns-then-right-clause-found
returns-then-right-clause-found c = λ entry at'.
    let at = here c.args.entries.now c.args.place c.index-entries-place.result c.requires.place c.index-entries-place.is in
    let goes = c.in_ok-right.ensures in
    let first = holds_four c.args.storage c.args.parts.now c.args.entries.now c.args.place c.index-entries-place.result c.in_ok-right.right goes.0 goes.1 c.args.state.now c.go_after.new.state c.requires.state goes.2 (c.in_default.ensures c.args.storage) c.if-right.true in
    subst (λ e. FindsBroken c.args.storage c.args.parts.now c.args.entries.now c.args.place e c.late_rule-late.result) (same_Some _ _ (sym at ∙ at'))
    (finds_all c.args.storage c.args.parts.now c.args.entries.now c.args.place c.index-entries-place.result c.late_rule-late.result first (c.late_rule-late.ensures c.args.entries.now c.args.place at c.requires.users c.requires.state))

pub returns-then-right-clause-state : goal.returns-then-right-clause-state
returns-then-right-clause-state c =
    let at = here c.args.entries.now c.args.place c.index-entries-place.result c.requires.place c.index-entries-place.is in
    let goes = c.in_ok-right.ensures in
    let first = c.in_default.ensures c.args.storage in
    where_none c.args.storage c.args.parts.now c.args.entries.now c.args.place c.index-entries-place.result _ c.late_rule-late.result (c.late_rule-late.ensures c.args.entries.now c.args.place at c.requires.users c.requires.state)
    (λ late. state_after c.args.parts.now c.requires.script c.args.entries.now c.args.place c.index-entries-place.result at (first rule.Whole (omega arith)) (first rule.Stamp (omega arith)) (earned_no_cursor c.args.storage c.args.parts.now (writes (take c.args.place c.args.entries.now)) (entries_of c.index-entries-place.result.thread (take c.args.place c.args.entries.now)) c.index-entries-place.result late.memory) c.in_ok-right.right goes.0 goes.1 c.args.state.now c.go_after.new.state c.requires.state goes.2 c.if-right.true)

pub returns-else-right-clause-found : goal.returns-else-right-clause-found
returns-else-right-clause-found c = λ entry at'.
    let at = here c.args.entries.now c.args.place c.index-entries-place.result c.requires.place c.index-entries-place.is in
    let goes = c.in_ok-right.ensures in
    subst (λ e. BreaksFirst c.args.storage c.args.parts.now c.args.entries.now c.args.place e rule.Reply) (same_Some _ _ (sym at ∙ at'))
    (breaks_reply c.args.storage c.args.parts.now c.args.entries.now c.args.place c.index-entries-place.result c.in_ok-right.right goes.0 goes.1 c.args.state.now c.go_after.new.state c.requires.state goes.2 (c.in_default.ensures c.args.storage) c.if-right.false)
