-- A call that is tried until it is done: a row of tries after which the same call came next, and then one that it ended
-- with.
use Rattle.std.specs.Prelude.{◌≡◌, ℕ, List, [], ◌∷◌, Option, Some}
use Rattle.ft_model.specs.declared.call.Call.{Call}
use Rattle.ft_model.specs.declared.entry.Entry.{Entry as NamedEntry}
use Rattle.ft_bank.specs.Passes.{view}
use Rattle.ft_bank.specs.PassSections.{stack_of}
use Rattle.ft_section.specs.Locking.{first_mark}
use Rattle.ft_engine.specs.declared.attempts.Tried.{Tried}
use Rattle.ft_engine.specs.declared.attempts.Tried.TheVariants as tried
use Rattle.ft_engine.specs.declared.caller.Caller.{Caller}
use Rattle.ft_engine.specs.declared.calling.Called.{Called}
use Rattle.ft_engine.specs.declared.calling.Called.TheVariants as called
use Rattle.ft_engine.specs.declared.engine.Engine.{Engine}
use Rattle.ft_engine.specs.Attempts.{ComesAgain, HasFoundOwner, HasLookedFirst, IsMarkOf, MayAttempt, StaysCaller, flight_after, entries_with_answer}
use Rattle.ft_engine.specs.Callers.{IsCallerOf, flight_of, pass_of, thread_of}
use Rattle.ft_engine.specs.Flights.{IsFlightAnswered}
use Rattle.ft_engine.specs.Halves.{HasHalves}
use Rattle.ft_engine.specs.Keeping.{WasAnswered}
use Rattle.ft_engine.specs.OwnAnswers.{HasOwnAnswer, HasOwnAnswerIn}

-- What one try of a call leaves of its caller.
pub record IsTried (e : Engine) (called : Call) (t : Tried) (c d : Caller) : Type 0 where
  pub caller : IsCallerOf e d
  pub same : StaysCaller c d
  pub flight : flight_after called t (flight_of d)
  pub kept : (mine : List NamedEntry) → WasAnswered c mine
      → WasAnswered d (entries_with_answer (thread_of c) called t mine)
  pub mark : IsMarkOf t (stack_of (pass_of c)).mark (stack_of (pass_of d)).mark
  pub found : HasFoundOwner t c d
  pub looked : HasLookedFirst called t c d
  pub halves : HasHalves e called c d t
  pub own : HasOwnAnswer called t c d
  pub again : ComesAgain t → MayAttempt e d called

-- what a try answered, and the caller as it was before
pub record Try : Type 0 where
  pub before : Caller
  pub answer : Tried

-- These tries, the latest first, led from the first caller to the second, and after each of them the same call came
-- next.
abbrev pub AreWaits : Engine → Call → Caller → List Try → Caller → Type 0
AreWaits e called c [] d = d ≡ c
AreWaits e called c (t ∷ earlier) d =
    AreWaits e called c earlier t.before × ComesAgain t.answer × IsTried e called t.answer t.before d

-- the thread that was found first: the one that is marked already, or else the first that a try found with a lock
abbrev pub mark_after : Option ℕ → Tried → Option ℕ
mark_after mark (tried.NotYet o owner) = Some (first_mark mark owner)
mark_after mark (tried.Done said stamp waited) = mark
mark_after mark (tried.Moved first second) = mark
mark_after mark tried.NoMemory = mark

abbrev pub mark_after_tries : Option ℕ → List Try → Option ℕ
mark_after_tries mark [] = mark
mark_after_tries mark (t ∷ earlier) = mark_after (mark_after_tries mark earlier) t.answer

-- The call isn't done, and the same call comes next: so far these tries led from the first caller to the second.
pub record IsBetween (e : Engine) (called : Call) (c d : Caller) : Type 0 where
  pub caller : IsCallerOf e d
  pub may : MayAttempt e d called
  pub same : StaysCaller c d
  pub kept : (mine : List NamedEntry) → WasAnswered c mine → WasAnswered d mine
  pub waits : List Try
  pub are : AreWaits e called c waits d
  pub mark : (stack_of d.pass).mark ≡ mark_after_tries (stack_of c.pass).mark waits
  pub own : (IsFlightAnswered c.flight → ⊥) → HasOwnAnswerIn d.flight (view c.pass) (view d.pass)

-- what the last try answered
abbrev pub last_of : Called → Tried
last_of (called.Done said stamp mark) = tried.Done said stamp mark
last_of called.NoMemory = tried.NoMemory

-- the mark of a call that has ended
abbrev pub HasMark : Called → Option ℕ → Type 0
HasMark (called.Done said stamp mark) first = mark ≡ first
HasMark called.NoMemory first = Unit {0}

-- The call was tried until it was done, and its mark is the first thread that a try found. (C API, critical sections;
-- marks: profile)
pub record IsCalled (e : Engine) (called : Call) (answer : Called) (c d : Caller) : Type 0 where
  pub waits : List Try
  pub last : Caller
  pub are : AreWaits e called c waits last
  pub done : IsTried e called (last_of answer) last d
  pub mark : HasMark answer (mark_after_tries (stack_of (pass_of c)).mark waits)
