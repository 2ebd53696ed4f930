-- Turns of callers, one after the other, beside those of the machine.
use Rattle.std.specs.Prelude.{◌≡◌, ℕ, true, List, [], ◌∷◌, ◌++◌, None, Some, slice_get, slice_set}
use Rattle.ft_model.specs.declared.call.Call.{Call}
use Rattle.ft_model.specs.declared.call.Call.TheVariants as call
use Rattle.ft_model.specs.declared.entry.Entry.{Entry}
use Rattle.ft_model.specs.declared.reply.Reply.TheVariants as reply
use Rattle.ft_model.specs.declared.script.ScriptParts.{ScriptParts}
use Rattle.ft_trace.specs.declared.View.{View}
use Rattle.ft_trace.specs.Acts.{seen_writes}
use Rattle.ft_bank.specs.Passes.{shape_of, view}
use Rattle.ft_bank_history.specs.Numbering.{IsFor}
use Rattle.ft_section.specs.declared.answers.Stamp.{Stamp}
use Rattle.ft_engine.specs.declared.attempts.Tried.{Tried}
use Rattle.ft_engine.specs.declared.attempts.Tried.TheVariants as tried
use Rattle.ft_engine.specs.declared.caller.Caller.{Caller}
use Rattle.ft_engine.specs.declared.caller.Flight.TheVariants as flight
use Rattle.ft_engine.specs.declared.engine.Engine.{Engine}
use Rattle.ft_engine.specs.Attempts.{MayAttempt, entries_with_answer}
use Rattle.ft_engine.specs.Calling.{IsTried}
use Rattle.ft_engine.specs.Callers.{IsCallerOf, bank_of, flight_of, pass_of, thread_of}
use Rattle.ft_engine.specs.Keeping.{WasAnswered}
use Rattle.ft_turns.specs.Ends.{after_turns}
use Rattle.ft_turns.specs.Orders.{next_call, ready_call, thread_at}
use Rattle.ft_turn_laws.specs.Ordered.{AreAnswersInOrder}
use Rattle.ft_turn_laws.specs.LockOwners.{owners_in}
use Rattle.ft_turn_laws.specs.Standing.{AreAsMachine, Standing, standing_of}

-- a caller that has the floor has tried a call, and there was memory for it
pub record IsTurnOf (e : Engine) (called : Call) (t : Tried) (c d : Caller) : Type 0 where
  pub caller : IsCallerOf e c
  pub may : MayAttempt e c called
  pub floor : (view (pass_of c)).has_floor ≡ true
  pub memory : t ≡ tried.NoMemory → ⊥
  pub tried : IsTried e called t c d

-- Callers stand as the threads of the machine do after these turns, and their answers came in the order that the
-- machine says, where this is what the pass knows that has the floor.
pub record AreInStep (script : ScriptParts) (turns : List ℕ) (v : View) (standings : List Standing) : Type 0 where
  pub machine : AreAsMachine script (after_turns script turns) (owners_in v) standings
  pub order : AreAnswersInOrder (after_turns script turns).answered standings (seen_writes v)

-- Where the caller of a thread tries the thread's next call, they do so after one more turn of that thread.
abbrev pub TriesAreTurns : Type 0
TriesAreTurns =
    (script : ScriptParts) (e : Engine) (turns : List ℕ) (standings : List Standing) (called : Call) (t : Tried)
    (c d : Caller) (mine : List Entry)
    → IsFor script (shape_of (bank_of e)) → IsTurnOf e called t c d → WasAnswered c mine
    → slice_get standings (thread_of c) ≡ Some (standing_of c mine)
    → next_call script (thread_of c) (thread_at (after_turns script turns) (thread_of c)) ≡ Some called
    → AreInStep script turns (view (pass_of c)) standings
    → AreInStep script (turns ++ thread_of c ∷ []) (view (pass_of d))
    (slice_set standings (thread_of c) (standing_of d (entries_with_answer (thread_of c) called t mine)))

-- ---- awaits

-- a caller that has the floor, and is in no call, was answered an `await`, and waited for nobody
pub record IsLearnOf (e : Engine) (called : Call) (stamp : Stamp) (c d : Caller) : Type 0 where
  pub caller : IsCallerOf e c
  pub floor : (view (pass_of c)).has_floor ≡ true
  pub idle : flight_of c ≡ flight.Idle
  pub tried : IsTried e called (tried.Done reply.Done stamp None) c d

-- Where the call that is awaited has finished, this is one turn of the thread too.
abbrev pub LearnsAreTurns : Type 0
LearnsAreTurns =
    (script : ScriptParts) (e : Engine) (turns : List ℕ) (standings : List Standing) (named index : ℕ) (stamp : Stamp)
    (c d : Caller) (mine : List Entry)
    → IsFor script (shape_of (bank_of e)) → IsLearnOf e (call.Await named index) stamp c d → WasAnswered c mine
    → slice_get standings (thread_of c) ≡ Some (standing_of c mine)
    → ready_call script (after_turns script turns) (thread_of c) ≡ Some (call.Await named index)
    → AreInStep script turns (view (pass_of c)) standings
    → AreInStep script (turns ++ thread_of c ∷ []) (view (pass_of d))
    (slice_set standings (thread_of c)
    (standing_of d
    (entries_with_answer (thread_of c) (call.Await named index) (tried.Done reply.Done stamp None) mine)))

-- And a turn of a thread that awaits a call which has not finished, or has no call left, changes nothing.
abbrev pub SpentTurnsChangeNothing : Type 0
SpentTurnsChangeNothing =
    (script : ScriptParts) (turns : List ℕ) (thread : ℕ) (v : View) (standings : List Standing)
    → ready_call script (after_turns script turns) thread ≡ None → AreInStep script turns v standings
    → AreInStep script (turns ++ thread ∷ []) v standings
