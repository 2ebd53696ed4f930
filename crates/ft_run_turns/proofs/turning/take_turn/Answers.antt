use Rattle.std.proofs.Common.{◌≡◌, ◌+◌, ◌<◌, ℕ, List, Option, length, sym, subst, ap, ◌∙◌, arith}
use Rattle.std.specs.Prelude.{if◌then◌else◌}
use Rattle.std.proofs.lemmas.List.{length-map}
use Rattle.ft_model.specs.declared.script.ScriptParts.{ScriptParts}
use Rattle.ft_bank.specs.Passes.{shape_of}
use Rattle.ft_engine.specs.declared.engine.Engine.{Engine}
use Rattle.ft_engine.specs.Callers.{bank_of}
use Rattle.ft_run_turns.specs.declared.seats.Seat.{Seat}
use Rattle.ft_run_turns.specs.Internal.CallerSeats.{IsAwaitState, AwaitsNone, next_in, standing_at, standings_of}
use Rattle.ft_run_turns.proofs.AwaitedTurns.{awake_finished, awake_nothing, made_same, next_same, spent_all, turned_same}
use Rattle.ft_run_turns.proofs.NewSeats.{if_ok}
use Rattle.ft_run_turns.proofs.SeatRows.{seat_low}
use Rattle.ft_run_turns.proofs.turning.take_turn.Goals as goal

pub returns-in-Unfinished-clause-made : goal.returns-in-Unfinished-clause-made
returns-in-Unfinished-clause-made c =
    let same = made_same c.args.engine.now c.args.script.now c.args.seats.now c.awaited_of.new.seats c.awaited_of.ensures.same in
    omega (arith, same)

pub returns-in-Unfinished-clause-turn : goal.returns-in-Unfinished-clause-turn
returns-in-Unfinished-clause-turn c = λ turns turned.
    let e = c.args.engine.now in
    let script = c.args.script.now in
    let seats = c.args.seats.now in
    let low = seat_low script (shape_of (bank_of e)) seats c.args.thread c.requires.bank c.requires.count c.requires.thread in
    let within = c.requires.thread in
    turned_same e script seats c.awaited_of.new.seats c.awaited_of.ensures.same _ c.args.tokens
    (spent_all e script c.requires.script seats c.args.thread c.requires.seats low turns c.args.tokens (omega (arith, within)) turned
    (subst (IsAwaitState e script seats c.args.thread) c.in-Unfinished.is c.awaited_of.ensures.awaited))

-- the seats after what the thread awaits was asked, as they were before
next_is : (e : Engine) (script : ScriptParts) (seats after : List (Option Seat)) (thread : ℕ) → thread < length seats → standings_of after ≡ standings_of seats → next_in script after thread ≡ next_in script seats thread
next_is e script seats after thread low same = next_same e script seats after same thread low (sym (length-map after standing_at) ∙ (ap length same ∙ length-map seats standing_at))

pub turn_seat-requires-clause-note : goal.turn_seat-requires-clause-note
turn_seat-requires-clause-note c =
    let e = c.args.engine.now in
    let script = c.args.script.now in
    let seats = c.args.seats.now in
    let low = seat_low script (shape_of (bank_of e)) seats c.args.thread c.requires.bank c.requires.count c.requires.thread in
    let has = subst (IsAwaitState e script seats c.args.thread) c.in-Finished.is c.awaited_of.ensures.awaited in
    (has.0, next_is e script seats c.awaited_of.new.seats c.args.thread low c.awaited_of.ensures.same ∙ has.1, has.2, has.3)

pub returns-in-Finished-clause-made : goal.returns-in-Finished-clause-made
returns-in-Finished-clause-made c =
    let same = made_same c.args.engine.now c.args.script.now c.args.seats.now c.awaited_of.new.seats c.awaited_of.ensures.same in
    if_ok c.turn_seat.result (λ made is. is ∙ ap (λ n. n + (if made.1 then 1 else 0)) same) c.turn_seat.ensures.made

pub returns-in-Finished-clause-turn : goal.returns-in-Finished-clause-turn
returns-in-Finished-clause-turn c =
    let e = c.args.engine.now in
    let script = c.args.script.now in
    let seats = c.args.seats.now in
    let low = seat_low script (shape_of (bank_of e)) seats c.args.thread c.requires.bank c.requires.count c.requires.thread in
    let within = c.requires.thread in
    let has = subst (IsAwaitState e script seats c.args.thread) c.in-Finished.is c.awaited_of.ensures.awaited in
    if_ok c.turn_seat.result (λ made goes turns turned. goes turns
    (awake_finished e script c.requires.script seats c.args.thread c.requires.seats low turns c.args.tokens (omega (arith, within)) turned c.in-Finished.note has)
    (turned_same e script seats c.awaited_of.new.seats c.awaited_of.ensures.same turns c.args.tokens turned)) c.turn_seat.ensures.turn

pub turn_seat-requires-in-Nothing-clause-note : goal.turn_seat-requires-in-Nothing-clause-note
turn_seat-requires-in-Nothing-clause-note c =
    let e = c.args.engine.now in
    let script = c.args.script.now in
    let seats = c.args.seats.now in
    let low = seat_low script (shape_of (bank_of e)) seats c.args.thread c.requires.bank c.requires.count c.requires.thread in
    subst AwaitsNone (sym (next_is e script seats c.awaited_of.new.seats c.args.thread low c.awaited_of.ensures.same))
    (subst (IsAwaitState e script seats c.args.thread) c.in-Nothing.is c.awaited_of.ensures.awaited)

pub returns-in-Nothing-clause-made : goal.returns-in-Nothing-clause-made
returns-in-Nothing-clause-made c =
    let same = made_same c.args.engine.now c.args.script.now c.args.seats.now c.awaited_of.new.seats c.awaited_of.ensures.same in
    if_ok c.turn_seat-in-Nothing.result (λ made is. is ∙ ap (λ n. n + (if made.1 then 1 else 0)) same) c.turn_seat-in-Nothing.ensures.made

pub returns-in-Nothing-clause-turn : goal.returns-in-Nothing-clause-turn
returns-in-Nothing-clause-turn c =
    let e = c.args.engine.now in
    let script = c.args.script.now in
    let seats = c.args.seats.now in
    let low = seat_low script (shape_of (bank_of e)) seats c.args.thread c.requires.bank c.requires.count c.requires.thread in
    let within = c.requires.thread in
    let has = subst (IsAwaitState e script seats c.args.thread) c.in-Nothing.is c.awaited_of.ensures.awaited in
    if_ok c.turn_seat-in-Nothing.result (λ made goes turns turned. goes turns
    (awake_nothing e script c.requires.script seats c.args.thread c.requires.seats low turns c.args.tokens (omega (arith, within)) turned has)
    (turned_same e script seats c.awaited_of.new.seats c.awaited_of.ensures.same turns c.args.tokens turned)) c.turn_seat-in-Nothing.ensures.turn
