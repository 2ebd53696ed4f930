use Rattle.std.proofs.Common.{◌≡◌, ◌++◌, ◌∷◌, [], length, Option, None, Some, ap, sym, subst, ◌∙◌}
use Rattle.std.specs.Prelude.{slice_get, slice_set}
use Rattle.std.proofs.lemmas.List.{set-set}
use Rattle.std.proofs.lemmas.Option.{get_or_from_slice_get}
use Rattle.ft_model.specs.Histories.{calls_of}
use Rattle.ft_bank.specs.Passes.{shape_of}
use Rattle.ft_engine.specs.Callers.{bank_of}
use Rattle.ft_run_turns.specs.Internal.CallerSeats.{AreSeats, HaveTurned, IsNoteOfAwaited, entries_made, seat_entries}
use Rattle.ft_run_turns.specs.declared.seats.Seat.{Seat}
use Rattle.ft_run_turns.proofs.SeatRows.{made_put, seat_low, seats_put, some_seat, taken_seat, turn_of_all}
use Rattle.ft_run_turns.proofs.turning.turn_seat.Goals as goal

pub bounds-seats-thread : goal.bounds-seats-thread
bounds-seats-thread c = seat_low c.args.script.now (shape_of (bank_of c.args.engine.now)) c.args.seats.now c.args.thread c.requires.bank c.requires.count c.requires.thread

pub unreachable-requires : goal.unreachable-requires
unreachable-requires c =
    let seats = c.args.seats.now in
    let low = seat_low c.args.script.now (shape_of (bank_of c.args.engine.now)) seats c.args.thread c.requires.bank c.requires.count c.requires.thread in
    some_seat c.args.engine.now c.args.script.now seats c.args.thread c.index-seats-thread.result c.requires.seats low c.index-seats-thread.is
    (λ s is. c.in_default.not-Some s (c.take.ensures.value ∙ (sym c.index-seats-thread.is ∙ is)))

pub turn_of-requires-clause-seat : goal.turn_of-requires-clause-seat
turn_of-requires-clause-seat c =
    let seats = c.args.seats.now in
    let low = seat_low c.args.script.now (shape_of (bank_of c.args.engine.now)) seats c.args.thread c.requires.bank c.requires.count c.requires.thread in
    (taken_seat c.args.engine.now c.args.script.now seats c.args.thread c.index-seats-thread.result c.in-Some.seat c.requires.seats low c.index-seats-thread.is (c.index-seats-thread.is ∙ (sym c.take.ensures.value ∙ c.in-Some.is))).1

pub returns-clause-seats : goal.returns-clause-seats
returns-clause-seats c =
    let e = c.args.engine.now in
    let script = c.args.script.now in
    let seats = c.args.seats.now in
    let thread = c.args.thread in
    let s = c.in-Some.seat in
    let r = c.in_ok-seat.seat in
    let low = seat_low script (shape_of (bank_of e)) seats thread c.requires.bank c.requires.count c.requires.thread in
    let own = taken_seat e script seats thread c.index-seats-thread.result s c.requires.seats low c.index-seats-thread.is (c.index-seats-thread.is ∙ (sym c.take.ensures.value ∙ c.in-Some.is)) in
    let twice : slice_set (slice_set seats thread c.take.new.self) thread (Some r) ≡ slice_set seats thread (Some r) = set-set seats thread c.take.new.self (Some r) in
    subst (AreSeats e script) (sym twice) (seats_put e script seats thread s r own.0 low c.requires.seats c.in_ok-seat.ensures.seat)

pub returns-clause-made : goal.returns-clause-made
returns-clause-made c =
    let e = c.args.engine.now in
    let script = c.args.script.now in
    let seats = c.args.seats.now in
    let thread = c.args.thread in
    let s = c.in-Some.seat in
    let r = c.in_ok-seat.seat in
    let low = seat_low script (shape_of (bank_of e)) seats thread c.requires.bank c.requires.count c.requires.thread in
    let own = taken_seat e script seats thread c.index-seats-thread.result s c.requires.seats low c.index-seats-thread.is (c.index-seats-thread.is ∙ (sym c.take.ensures.value ∙ c.in-Some.is)) in
    let twice : slice_set (slice_set seats thread c.take.new.self) thread (Some r) ≡ slice_set seats thread (Some r) = set-set seats thread c.take.new.self (Some r) in
    ap entries_made twice ∙ made_put e script seats thread s r own.0 low _ c.in_ok-seat.ensures.count

pub returns-clause-turn : goal.returns-clause-turn
returns-clause-turn c = λ turns awake turned.
    let e = c.args.engine.now in
    let script = c.args.script.now in
    let seats = c.args.seats.now in
    let thread = c.args.thread in
    let s = c.in-Some.seat in
    let r = c.in_ok-seat.seat in
    let low = seat_low script (shape_of (bank_of e)) seats thread c.requires.bank c.requires.count c.requires.thread in
    let own = taken_seat e script seats thread c.index-seats-thread.result s c.requires.seats low c.index-seats-thread.is (c.index-seats-thread.is ∙ (sym c.take.ensures.value ∙ c.in-Some.is)) in
    let twice : slice_set (slice_set seats thread c.take.new.self) thread (Some r) ≡ slice_set seats thread (Some r) = set-set seats thread c.take.new.self (Some r) in
    subst (λ l. HaveTurned e script (turns ++ thread ∷ []) l c.in_ok-seat.tokens) (sym twice)
    (turn_of_all e script turns seats thread s r c.args.tokens c.in_ok-seat.tokens own.0 low c.in_ok-seat.ensures.turn awake turned)

pub turn_of-requires-clause-note : goal.turn_of-requires-clause-note
turn_of-requires-clause-note c =
    let seats = c.args.seats.now in
    let low = seat_low c.args.script.now (shape_of (bank_of c.args.engine.now)) seats c.args.thread c.requires.bank c.requires.count c.requires.thread in
    let own = taken_seat c.args.engine.now c.args.script.now seats c.args.thread c.index-seats-thread.result c.in-Some.seat c.requires.seats low c.index-seats-thread.is (c.index-seats-thread.is ∙ (sym c.take.ensures.value ∙ c.in-Some.is)) in
    subst (λ (o : Option Seat). IsNoteOfAwaited c.args.engine.now (slice_get (calls_of c.args.script.now c.args.thread) (length (seat_entries o))) c.args.note) (get_or_from_slice_get seats c.args.thread (Some c.in-Some.seat) None own.0) c.requires.note
