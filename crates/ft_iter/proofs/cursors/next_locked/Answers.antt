use Rattle.std.proofs.Common.{◌<◌, refl, sym, subst}
use Rattle.ft_model.specs.declared.call.Call.TheVariants as call
use Rattle.ft_model.specs.declared.cursor.Cursor.{Cursor}
use Rattle.ft_model.specs.declared.reply.Reply.{Reply}
use Rattle.ft_model.specs.Worlds.{container_of, cursor_kind}
use Rattle.ft_trace.specs.declared.Shape.{Shape}
use Rattle.ft_trace.specs.Addresses.{container_count}
use Rattle.ft_trace.specs.Hands.{cursor_in, MovesCursor}
use Rattle.ft_trace.specs.Holds.{known_state}
use Rattle.ft_bank.specs.Answered.{AnsweredCursor}
use Rattle.ft_bank.specs.Passes.{view}
use Rattle.ft_bank.specs.Whole.{OnlyLoaded}
use Rattle.ft_search.proofs.LoadedLooks.{looks_did}
use Rattle.ft_search.proofs.Running.{did_log}
use Rattle.ft_iter.specs.CursorCalls.{step_in, IsOver}
use Rattle.ft_iter.proofs.Moves.{next-moves, step-over}
use Rattle.ft_iter.proofs.CursorEntries.{cursor-shown, answered-moved}
use Rattle.ft_iter.proofs.cursors.next_locked.Goals as goal

pub answer_moved-answered-requires-clause-shown : goal.answer_moved-answered-requires-clause-shown
answer_moved-answered-requires-clause-shown c n =
    let walker = c.args.cursor.now in
    let o = container_of walker in
    let number = c.args.number in
    let v = view c.args.pass.now in
    let u = view c.step-advanced.new.pass in
    let looks = c.step-advanced.ensures.looks in
    let loaded : OnlyLoaded v u = looks_did looks.0 c.args.pass.now c.step-advanced.new.pass looks.1 looks.2 in
    let low = subst (λ (z : Shape). o < container_count z) (sym c.requires.pass.1) c.requires.container in
    let s = step_in (known_state o v).content walker in
    cursor-shown v u o n number (call.Next number) c.step-advanced.result.reply c.step-advanced.result.cursor loaded c.requires.left refl low c.requires.locked
    (λ world holds. subst (λ (x : Reply × Cursor). MovesCursor world (call.Next number) number (cursor_in number v.log) x.0 x.1) (sym (λ d. (c.step-advanced.ensures.next.0 d, c.step-advanced.ensures.next.1 d)))
    (next-moves world (known_state o v).content walker number (cursor_in number v.log) holds c.requires.cursor))

pub returns-clause-answered : goal.returns-clause-answered
returns-clause-answered c =
    let number = c.args.number in
    let v = view c.args.pass.now in
    let u = view c.step-advanced.new.pass in
    let z = view c.answer_moved-answered.new.pass in
    let n = c.answer_moved-answered.result.1.number in
    let looks = c.step-advanced.ensures.looks in
    let loaded : OnlyLoaded v u = looks_did looks.0 c.args.pass.now c.step-advanced.new.pass looks.1 looks.2 in
    subst (λ (said : Reply). AnsweredCursor (call.Next number) said n number c.step-advanced.result.cursor v z) (sym c.answer_moved-answered.ensures.said.0)
    (answered-moved v u z (call.Next number) c.step-advanced.result.reply n number c.step-advanced.result.cursor looks.0 loaded (did_log looks.0 c.args.pass.now c.step-advanced.new.pass looks.2) c.answer_moved-answered.ensures.did.1 c.answer_moved-answered.ensures.seen)

pub returns-clause-over : goal.returns-clause-over
returns-clause-over c =
    let walker = c.args.cursor.now in
    let o = container_of walker in
    subst (IsOver (cursor_kind walker) o) (sym c.step-advanced.ensures.next.1) (step-over (known_state o (view c.args.pass.now)).content walker c.requires.landed)
