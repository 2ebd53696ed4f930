-- What a whole look and a whole call leave of their caller: all that `look` and `call` promise, for the call that it is.
use Rattle.std.specs.Prelude.{◌≡◌, List}
use Rattle.ft_model.specs.declared.call.Call.{Call}
use Rattle.ft_model.specs.declared.entry.Entry.{Entry as NamedEntry}
use Rattle.ft_bank.specs.Passes.{view}
use Rattle.ft_bank.specs.PassSections.{stack_of}
use Rattle.ft_bank_history.specs.SoFar.{MemoryErrorsAreFound}
use Rattle.ft_section.specs.declared.answers.Look.{Look}
use Rattle.ft_engine.specs.declared.caller.Caller.{Caller}
use Rattle.ft_engine.specs.declared.calling.Called.{Called}
use Rattle.ft_engine.specs.declared.engine.Engine.{Engine}
use Rattle.ft_engine.specs.Answering.{IsLooked, IsUncontended}
use Rattle.ft_engine.specs.Attempts.{StaysCaller, entries_with_answer, entries_with_look, flight_after, flight_looked}
use Rattle.ft_engine.specs.Callers.{IsCallerOf, flight_of, pass_of, thread_of}
use Rattle.ft_engine.specs.Calling.{IsCalled, last_of}
use Rattle.ft_engine.specs.Keeping.{WasAnswered}
use Rattle.ft_engine.specs.OwnAnswers.{HasOwnAnswer}
use Rattle.ft_engine.specs.Resting.{HasFloor}
use Rattle.ft_engine.specs.SoFar.{IsAnsweredRight}

-- A look at this call led from the first caller to the second: the same caller, with the same sections. Only a look
-- that was refused memory leaves a call in flight. Where it gave a reply, the caller has that entry more; its entries
-- are right by the writes so far. With the floor no look is contended. (PEP 703, Optimistically avoiding locking)
pub record IsLookFor (e : Engine) (called : Call) (answer : Look) (c d : Caller) : Type 0 where
  pub caller : IsCallerOf e d
  pub same : StaysCaller c d
  pub flight : flight_of d ≡ flight_looked called answer
  pub sections : stack_of (pass_of d) ≡ stack_of (pass_of c)
  pub kept : (mine : List NamedEntry) → WasAnswered c mine
      → WasAnswered d (entries_with_look (thread_of c) called answer mine)
  pub looked : IsLooked called (view (pass_of c)) (view (pass_of d)) answer
  pub floor : HasFloor c → IsUncontended answer
  pub right : (mine : List NamedEntry) → WasAnswered c mine
      → IsAnsweredRight d (entries_with_look (thread_of c) called answer mine)

-- This call led from the first caller to the second, tried until it was done: the same caller, with the entry of its
-- answer more, which is of this very call. Its entries are right by the writes so far, and only a call that was refused
-- memory is still in flight. (profile)
pub record IsCallFor (e : Engine) (asked : Call) (answer : Called) (c d : Caller) : Type 0 where
  pub caller : IsCallerOf e d
  pub same : StaysCaller c d
  pub flight : flight_after asked (last_of answer) (flight_of d)
  pub kept : (mine : List NamedEntry) → WasAnswered c mine
      → WasAnswered d (entries_with_answer (thread_of c) asked (last_of answer) mine)
  pub called : IsCalled e asked answer c d
  pub own : HasOwnAnswer asked (last_of answer) c d
  pub right : (mine : List NamedEntry) → WasAnswered c mine
      → IsAnsweredRight d (entries_with_answer (thread_of c) asked (last_of answer) mine)
  pub found_none : MemoryErrorsAreFound (view (pass_of d))
