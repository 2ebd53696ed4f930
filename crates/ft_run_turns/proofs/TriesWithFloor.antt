-- One try with the floor: it is a turn, and there is a number for its entry.
use Rattle.std.proofs.Common.{◌≡◌, ℕ, ◌+◌, ◌-◌, ◌<◌, ◌≤◌, ◌^◌, List, ◌++◌, length, map, reverse, ap, ◌∙◌, arith}
use Rattle.std.proofs.lemmas.List.{length-map, length-reverse}
use Rattle.ft_model.specs.declared.call.Call.{Call}
use Rattle.ft_model.specs.declared.entry.Entry.{Entry as NamedEntry}
use Rattle.ft_trace.specs.declared.Entry.{Entry}
use Rattle.ft_trace.specs.OwnCursors.{plain_entry}
use Rattle.ft_bank.specs.Passes.{view}
use Rattle.ft_engine.specs.declared.attempts.Tried.{Tried}
use Rattle.ft_engine.specs.declared.attempts.Tried.TheVariants as tried
use Rattle.ft_engine.specs.declared.caller.Caller.{Caller}
use Rattle.ft_engine.specs.declared.caller.Flight.{Flight}
use Rattle.ft_engine.specs.declared.caller.Flight.TheVariants as flight
use Rattle.ft_engine.specs.declared.engine.Engine.{Engine}
use Rattle.ft_engine.specs.Attempts.{MayAttempt}
use Rattle.ft_engine.specs.Callers.{IsCallerOf}
use Rattle.ft_engine.specs.Calling.{IsTried}
use Rattle.ft_engine.specs.Flights.{IsFlightAnswered, AllowsCall}
use Rattle.ft_engine.specs.Keeping.{WasAnswered, pending}
use Rattle.ft_engine.specs.Resting.{HasFloor}
use Rattle.ft_turn_laws.specs.Turns.{IsTurnOf}

pub tried_turn : (e : Engine) (called : Call) (t : Tried) (c d : Caller) → IsCallerOf e c → MayAttempt e c called → HasFloor c → (t ≡ tried.NoMemory → ⊥) → IsTried e called t c d → IsTurnOf e called t c d
tried_turn e called t c d caller may floor memory is =
    record { caller = caller; may = may; floor = floor; memory = memory; tried = is }

own_count : (mine : List NamedEntry) → length (reverse (map plain_entry mine)) ≡ length mine
own_count mine = length-reverse (map plain_entry mine) ∙ length-map mine plain_entry

few : (called : Call) (f : Flight) (mine : List NamedEntry) (entries : List Entry) (made calls : ℕ) → AllowsCall f called → entries ≡ pending f ++ reverse (map plain_entry mine) → made ≡ length entries → made ≤ calls
    → ((IsFlightAnswered f → ⊥) → 0 < calls - made) → length mine + 1 ≤ calls
few called flight.Idle mine entries made calls next same counted small left =
    let some = left (λ no. no) in let long = ap length same in let own = own_count mine in omega (arith, some, long, own, counted)
few called (flight.Tried before) mine entries made calls next same counted small left =
    let some = left (λ no. no) in let long = ap length same in let own = own_count mine in omega (arith, some, long, own, counted)
few called (flight.Answered before said stamp) mine entries made calls next same counted small left =
    let long = ap length same in let own = own_count mine in omega (arith, small, long, own, counted)
few called (flight.Refused before) mine entries made calls next same counted small left = absurd next

pub index_fits : (e : Engine) (called : Call) (c : Caller) (mine : List NamedEntry) → IsCallerOf e c → MayAttempt e c called → WasAnswered c mine → length mine + 1 < 2 ^ 32
index_fits e called c mine is may kept =
    let low = few called c.flight mine (view c.pass).entries c.made c.calls may.next kept.0.same is.made is.few may.left in
    let word = is.word in
    omega (arith, low, word)
