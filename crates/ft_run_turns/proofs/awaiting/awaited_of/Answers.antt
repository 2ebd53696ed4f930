use Rattle.std.proofs.Common.{◌≡◌, ◌<◌, ◌≤◌, ℕ, length, List, Option, None, Some, IfSome, IfNone, get_or, ap, arith, sym, subst, ◌∙◌}
use Rattle.std.specs.Prelude.{slice_get, slice_set}
use Rattle.std.proofs.lemmas.List.{length-set, set-set}
use Rattle.ft_model.specs.declared.call.Call.TheVariants as call
use Rattle.ft_model.specs.declared.script.ScriptParts.{ScriptParts}
use Rattle.ft_model.specs.Histories.{calls_of}
use Rattle.ft_model.specs.Scripts.{IsScript}
use Rattle.ft_history.proofs.ScriptLemmas.{await_of}
use Rattle.ft_bank.specs.declared.note.Note.{Note}
use Rattle.ft_bank.specs.Notes.{IsNoteOf, TellsOf}
use Rattle.ft_bank.specs.Passes.{shape_of}
use Rattle.ft_engine.specs.declared.engine.Engine.{Engine}
use Rattle.ft_engine.specs.Callers.{bank_of}
use Rattle.ft_run_threads.specs.Workers.{IsBankFor}
use Rattle.ft_run_turns.specs.declared.seats.Seat.{Seat}
use Rattle.ft_run_turns.specs.Internal.CallerSeats.{AreSeats, made_in, standing_in, standings_of}
use Rattle.ft_run_turns.proofs.AwaitedCalls.{made_there}
use Rattle.ft_run_turns.proofs.SeatRows.{seat_low, seats_put, some_seat, standing_there, standings_put, taken_seat}
use Rattle.ft_run_turns.proofs.Seated.{set_found}
use Rattle.ft_run_turns.proofs.awaiting.awaited_of.Goals as goal

pub unreachable-requires : goal.unreachable-requires
unreachable-requires c =
    let seats = c.args.seats.now in
    let low = seat_low c.args.script.now (shape_of (bank_of c.args.engine.now)) seats c.args.thread c.requires.bank c.requires.count c.requires.thread in
    some_seat c.args.engine.now c.args.script.now seats c.args.thread c.index-seats-thread.result c.requires.seats low c.index-seats-thread.is
    (λ s is. c.in_default.not-Some s (sym c.index-seats-thread.is ∙ is))

-- the seat of the thread that the next call names is there
named_low : (e : Engine) (script : ScriptParts) (seats : List (Option Seat)) (thread made named index : ℕ) → IsScript script → IsBankFor script (shape_of (bank_of e)) → length seats ≡ (shape_of (bank_of e)).passes → thread < length script.threads → slice_get (calls_of script thread) made ≡ Some (call.Await named index) → named < length seats
named_low e script seats thread made named index rule bank count within at =
    let low = seat_low script (shape_of (bank_of e)) seats thread bank count within in
    let names = await_of script rule thread made (call.Await named index) at in
    let earlier = names.0 in
    omega (arith, low, earlier)

pub bounds-seats-named : goal.bounds-seats-named
bounds-seats-named c = named_low c.args.engine.now c.args.script.now c.args.seats.now c.args.thread c.len.result c.in-Some-next_await.named c.in-Some-next_await.index c.requires.script c.requires.bank c.requires.count c.requires.thread c.in-Some-next_await.ensures.some

pub unreachable-requires-in_default-take : goal.unreachable-requires-in_default-take
unreachable-requires-in_default-take c =
    let seats = c.args.seats.now in
    some_seat c.args.engine.now c.args.script.now seats c.in-Some-next_await.named c.index-seats-named.result c.requires.seats (named_low c.args.engine.now c.args.script.now c.args.seats.now c.args.thread c.len.result c.in-Some-next_await.named c.in-Some-next_await.index c.requires.script c.requires.bank c.requires.count c.requires.thread c.in-Some-next_await.ensures.some) c.index-seats-named.is
    (λ s is. c.in_default-take.not-Some s (c.take.ensures.value ∙ (sym c.index-seats-named.is ∙ is)))

pub note_of-seat-requires : goal.note_of-seat-requires
note_of-seat-requires c =
    record {
      seat = (taken_seat c.args.engine.now c.args.script.now c.args.seats.now c.in-Some-next_await.named c.index-seats-named.result c.in-Some-take.seat c.requires.seats (named_low c.args.engine.now c.args.script.now c.args.seats.now c.args.thread c.len.result c.in-Some-next_await.named c.in-Some-next_await.index c.requires.script c.requires.bank c.requires.count c.requires.thread c.in-Some-next_await.ensures.some) c.index-seats-named.is
          (c.index-seats-named.is ∙ (sym c.take.ensures.value ∙ c.in-Some-take.is))).1;
    }

pub bounds-seats-named-2 : goal.bounds-seats-named-2
bounds-seats-named-2 c =
    let long = length-set c.args.seats.now c.in-Some-next_await.named c.take.new.self in
    let low = named_low c.args.engine.now c.args.script.now c.args.seats.now c.args.thread c.len.result c.in-Some-next_await.named c.in-Some-next_await.index c.requires.script c.requires.bank c.requires.count c.requires.thread c.in-Some-next_await.ensures.some in
    omega (arith, long, low)

pub returns-in-Some-note-clause-seats : goal.returns-in-Some-note-clause-seats
returns-in-Some-note-clause-seats c =
    let e = c.args.engine.now in
    let script = c.args.script.now in
    let seats = c.args.seats.now in
    let named = c.in-Some-next_await.named in
    let s = c.in-Some-take.seat in
    let r = c.note_of-seat.result.0 in
    let low = named_low c.args.engine.now c.args.script.now c.args.seats.now c.args.thread c.len.result c.in-Some-next_await.named c.in-Some-next_await.index c.requires.script c.requires.bank c.requires.count c.requires.thread c.in-Some-next_await.ensures.some in
    let own = taken_seat e script seats named c.index-seats-named.result s c.requires.seats low c.index-seats-named.is (c.index-seats-named.is ∙ (sym c.take.ensures.value ∙ c.in-Some-take.is)) in
    let twice : slice_set (slice_set seats named c.take.new.self) named (Some r) ≡ slice_set seats named (Some r) = set-set seats named c.take.new.self (Some r) in
    subst (AreSeats e script) (sym twice) (seats_put e script seats named s r own.0 low c.requires.seats c.note_of-seat.ensures.seat)

pub returns-in-Some-note-clause-same : goal.returns-in-Some-note-clause-same
returns-in-Some-note-clause-same c =
    let e = c.args.engine.now in
    let script = c.args.script.now in
    let seats = c.args.seats.now in
    let named = c.in-Some-next_await.named in
    let s = c.in-Some-take.seat in
    let r = c.note_of-seat.result.0 in
    let low = named_low c.args.engine.now c.args.script.now c.args.seats.now c.args.thread c.len.result c.in-Some-next_await.named c.in-Some-next_await.index c.requires.script c.requires.bank c.requires.count c.requires.thread c.in-Some-next_await.ensures.some in
    let own = taken_seat e script seats named c.index-seats-named.result s c.requires.seats low c.index-seats-named.is (c.index-seats-named.is ∙ (sym c.take.ensures.value ∙ c.in-Some-take.is)) in
    let twice : slice_set (slice_set seats named c.take.new.self) named (Some r) ≡ slice_set seats named (Some r) = set-set seats named c.take.new.self (Some r) in
    ap standings_of twice
    ∙ (standings_put e script seats named s r own.0 low
    ∙ (ap (slice_set (standings_of seats) named) c.note_of-seat.ensures.same
    ∙ set_found (standings_of seats) named (standing_in s) (standing_there e script seats named s r own.0 low)))

pub returns-in-None-clause-seats : goal.returns-in-None-clause-seats
returns-in-None-clause-seats c =
    let e = c.args.engine.now in
    let script = c.args.script.now in
    let seats = c.args.seats.now in
    let named = c.in-Some-next_await.named in
    let s = c.in-Some-take.seat in
    let r = c.note_of-seat.result.0 in
    let low = named_low c.args.engine.now c.args.script.now c.args.seats.now c.args.thread c.len.result c.in-Some-next_await.named c.in-Some-next_await.index c.requires.script c.requires.bank c.requires.count c.requires.thread c.in-Some-next_await.ensures.some in
    let own = taken_seat e script seats named c.index-seats-named.result s c.requires.seats low c.index-seats-named.is (c.index-seats-named.is ∙ (sym c.take.ensures.value ∙ c.in-Some-take.is)) in
    let twice : slice_set (slice_set seats named c.take.new.self) named (Some r) ≡ slice_set seats named (Some r) = set-set seats named c.take.new.self (Some r) in
    subst (AreSeats e script) (sym twice) (seats_put e script seats named s r own.0 low c.requires.seats c.note_of-seat.ensures.seat)

pub returns-in-None-clause-same : goal.returns-in-None-clause-same
returns-in-None-clause-same c =
    let e = c.args.engine.now in
    let script = c.args.script.now in
    let seats = c.args.seats.now in
    let named = c.in-Some-next_await.named in
    let s = c.in-Some-take.seat in
    let r = c.note_of-seat.result.0 in
    let low = named_low c.args.engine.now c.args.script.now c.args.seats.now c.args.thread c.len.result c.in-Some-next_await.named c.in-Some-next_await.index c.requires.script c.requires.bank c.requires.count c.requires.thread c.in-Some-next_await.ensures.some in
    let own = taken_seat e script seats named c.index-seats-named.result s c.requires.seats low c.index-seats-named.is (c.index-seats-named.is ∙ (sym c.take.ensures.value ∙ c.in-Some-take.is)) in
    let twice : slice_set (slice_set seats named c.take.new.self) named (Some r) ≡ slice_set seats named (Some r) = set-set seats named c.take.new.self (Some r) in
    ap standings_of twice
    ∙ (standings_put e script seats named s r own.0 low
    ∙ (ap (slice_set (standings_of seats) named) c.note_of-seat.ensures.same
    ∙ set_found (standings_of seats) named (standing_in s) (standing_there e script seats named s r own.0 low)))

-- the seats of the thread and of the one whose call it awaits
own_seat : (e : Engine) (script : ScriptParts) (seats : List (Option Seat)) (thread : ℕ) (seat : Option Seat) (s : Seat) → AreSeats e script seats → thread < length seats → seat ≡ get_or seats thread seat → get_or seats thread seat ≡ Some s → slice_get seats thread ≡ Some (Some s)
own_seat e script seats thread seat s are low read is = (taken_seat e script seats thread seat s are low read (read ∙ is)).0

pub returns-in-Some-note-clause-awaited : goal.returns-in-Some-note-clause-awaited
returns-in-Some-note-clause-awaited c =
    let e = c.args.engine.now in
    let script = c.args.script.now in
    let seats = c.args.seats.now in
    let named = c.in-Some-next_await.named in
    let index = c.in-Some-next_await.index in
    let low = seat_low script (shape_of (bank_of e)) seats c.args.thread c.requires.bank c.requires.count c.requires.thread in
    let own = own_seat e script seats c.args.thread c.index-seats-thread.result c.in-Some.own c.requires.seats low c.index-seats-thread.is c.in-Some.is in
    let other = own_seat e script seats named c.index-seats-named.result c.in-Some-take.seat c.requires.seats (named_low c.args.engine.now c.args.script.now c.args.seats.now c.args.thread c.len.result c.in-Some-next_await.named c.in-Some-next_await.index c.requires.script c.requires.bank c.requires.count c.requires.thread c.in-Some-next_await.ensures.some) c.index-seats-named.is (sym c.take.ensures.value ∙ c.in-Some-take.is) in
    let made : c.len.result ≡ made_in seats c.args.thread = c.len.ensures ∙ (c.in-Some.own.entries.ok.0 ∙ sym (made_there seats c.args.thread c.in-Some.own own)) in
    let few : index ≤ length c.in-Some-take.seat.entries.items = subst (λ (o : Option Note). IfSome o (λ note. index ≤ length c.in-Some-take.seat.entries.items)) c.in-Some-note.is c.note_of-seat.ensures.made in (
      record { thread = named; index = index },
      ap (slice_get (calls_of script c.args.thread)) (sym made) ∙ c.in-Some-next_await.ensures.some,
      subst (λ (o : Option Note). IfSome o (λ note. IsNoteOf (bank_of e) note)) c.in-Some-note.is c.note_of-seat.ensures.note,
      subst (λ (o : Option Note). IfSome o (λ note. TellsOf note named index)) c.in-Some-note.is c.note_of-seat.ensures.tells,
      subst (λ n. index ≤ n) (sym (made_there seats named c.in-Some-take.seat other)) few,
    )

pub returns-in-None-clause-awaited : goal.returns-in-None-clause-awaited
returns-in-None-clause-awaited c =
    let e = c.args.engine.now in
    let script = c.args.script.now in
    let seats = c.args.seats.now in
    let named = c.in-Some-next_await.named in
    let index = c.in-Some-next_await.index in
    let low = seat_low script (shape_of (bank_of e)) seats c.args.thread c.requires.bank c.requires.count c.requires.thread in
    let own = own_seat e script seats c.args.thread c.index-seats-thread.result c.in-Some.own c.requires.seats low c.index-seats-thread.is c.in-Some.is in
    let other = own_seat e script seats named c.index-seats-named.result c.in-Some-take.seat c.requires.seats (named_low c.args.engine.now c.args.script.now c.args.seats.now c.args.thread c.len.result c.in-Some-next_await.named c.in-Some-next_await.index c.requires.script c.requires.bank c.requires.count c.requires.thread c.in-Some-next_await.ensures.some) c.index-seats-named.is (sym c.take.ensures.value ∙ c.in-Some-take.is) in
    let made : c.len.result ≡ made_in seats c.args.thread = c.len.ensures ∙ (c.in-Some.own.entries.ok.0 ∙ sym (made_there seats c.args.thread c.in-Some.own own)) in
    let few : length c.in-Some-take.seat.entries.items < index = subst (λ (o : Option Note). IfNone o (length c.in-Some-take.seat.entries.items < index)) c.in-None.is c.note_of-seat.ensures.none in (
      record { thread = named; index = index },
      ap (slice_get (calls_of script c.args.thread)) (sym made) ∙ c.in-Some-next_await.ensures.some,
      subst (λ n. n < index) (sym (made_there seats named c.in-Some-take.seat other)) few,
    )
