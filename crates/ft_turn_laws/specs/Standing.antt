-- The callers of an engine that take turns, beside the machine of turns: what the machine says of each thread is so of
-- the thread's caller.
use Rattle.std.specs.Prelude.{◌≡◌, ℕ, ◌<◌, Bool, true, false, List, length, map, take, Option, Some, slice_get}
use Rattle.ft_model.specs.declared.call.Call.{Call}
use Rattle.ft_model.specs.declared.entry.Entry.{Entry}
use Rattle.ft_model.specs.declared.script.ScriptParts.{ScriptParts}
use Rattle.ft_model.specs.Histories.{calls_of}
use Rattle.ft_bank.specs.PassSections.{Stack, stack_of}
use Rattle.ft_engine.specs.declared.caller.Caller.{Caller}
use Rattle.ft_engine.specs.declared.caller.Flight.{Flight}
use Rattle.ft_engine.specs.declared.caller.Flight.TheVariants as flight
use Rattle.ft_engine.specs.Callers.{flight_of, pass_of}
use Rattle.ft_turns.specs.Orders.{Machine, ThreadState, holder_of, thread_at}
use Rattle.ft_turn_laws.specs.MatchingStacks.{IsAsStack}

-- what is to be seen of a caller between two turns: the call that it is in, its open sections with the locks that it
-- has, and the entries that it was answered
pub record Standing : Type 0 where
  pub flight : Flight
  pub stack : Stack
  pub entries : List Entry

abbrev pub standing_of : Caller → List Entry → Standing
standing_of c mine = record { flight = flight_of c; stack = stack_of (pass_of c); entries = mine }

-- The caller is in no call, or in the thread's next one, and has its answer where the machine has fixed it.
abbrev pub IsAsFlight : Option Call → Bool → Flight → Type 0
IsAsFlight next fixed flight.Idle = fixed ≡ false
IsAsFlight next fixed (flight.Tried called) = (fixed ≡ false) × (next ≡ Some called)
IsAsFlight next fixed (flight.Answered called said stamp) = (fixed ≡ true) × (next ≡ Some called)
IsAsFlight next fixed (flight.Refused called) = ⊥

-- A thread with these calls is a caller: it was answered the calls that have finished, with the same marks; it is in
-- the same call; and it has the same sections and locks.
pub record IsAsThread (calls : List Call) (state : ThreadState) (standing : Standing) : Type 0 where
  pub made : map (λ entry. entry.call) standing.entries ≡ take (length state.marks) calls
  pub marks : map (λ entry. entry.waited) standing.entries ≡ state.marks
  pub flight : IsAsFlight (slice_get calls (length state.marks)) state.fixed standing.flight
  pub stack : IsAsStack state standing.stack

-- Each thread of the machine is a caller, and each lock is that thread's which has it in the bank.
pub record AreAsMachine (script : ScriptParts) (machine : Machine) (owners : ℕ → Option ℕ)
    (standings : List Standing) : Type 0 where
  pub count : length standings ≡ length script.threads
  pub threads : (thread : ℕ) (standing : Standing) → slice_get standings thread ≡ Some standing
      → IsAsThread (calls_of script thread) (thread_at machine thread) standing
  pub locks : (o : ℕ) → o < length script.containers → holder_of machine.holders o ≡ owners o
