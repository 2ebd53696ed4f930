-- One try of a call: what it asks of the caller, and what it answers.
use Rattle.std.specs.Prelude.{◌≡◌, ◌⊎◌, ℕ, suc, ◌+◌, ◌<◌, true, List, [], ◌∷◌, ◌++◌, length, Option, Some, None}
use Rattle.ft_model.specs.declared.call.Call.{Call}
use Rattle.ft_model.specs.declared.entry.Entry.{Entry as NamedEntry}
use Rattle.ft_trace.specs.declared.View.{View}
use Rattle.ft_trace.specs.Acts.{announces}
use Rattle.ft_bank.specs.Passes.{shape_of, view}
use Rattle.ft_bank.specs.PassSections.{stack_of}
use Rattle.ft_section.specs.declared.answers.Look.{Look}
use Rattle.ft_section.specs.declared.answers.Look.TheVariants as look
use Rattle.ft_section.specs.Locking.{FoundOwner, first_mark}
use Rattle.ft_engine.specs.declared.attempts.Tried.{Tried}
use Rattle.ft_engine.specs.declared.attempts.Tried.TheVariants as tried
use Rattle.ft_engine.specs.declared.caller.Caller.{Caller}
use Rattle.ft_engine.specs.declared.caller.Flight.{Flight}
use Rattle.ft_engine.specs.declared.caller.Flight.TheVariants as flight
use Rattle.ft_engine.specs.declared.engine.Engine.{Engine}
use Rattle.ft_engine.specs.Answering.{StaysPass}
use Rattle.ft_engine.specs.Callers.{flight_of, left_of}
use Rattle.ft_engine.specs.Contentions.{WasContended, may_look}
use Rattle.ft_engine.specs.Flights.{IsFlightAnswered, AllowsCall}
use Rattle.ft_engine.specs.Keeping.{named_entry}
use Rattle.ft_engine.specs.Asked.{FitsSections, IsCallIn}

-- ---- what it asks

-- The call comes next, and the pass is online. Where the call has no answer yet, what it names is there, the caller
-- has a call left, and the sections allow it.
pub record MayAttempt (e : Engine) (c : Caller) (called : Call) : Type 0 where
  pub next : AllowsCall c.flight called
  pub names : (IsFlightAnswered c.flight → ⊥) → IsCallIn (shape_of e.bank) c.cursors.items called
  pub left : (IsFlightAnswered c.flight → ⊥) → 0 < left_of c
  pub sections : (IsFlightAnswered c.flight → ⊥) → FitsSections (stack_of c.pass) called
  pub online : 0 < announces (view c.pass).log

-- ---- what it answers

-- the call that the caller is in after an answer: none, this one, or one that was refused memory
abbrev pub flight_after : Call → Tried → Flight → Type 0
flight_after called (tried.Done said stamp mark) f = f ≡ flight.Idle
flight_after called (tried.NotYet o owner) f = AllowsCall f called × (f ≡ flight.Idle → ⊥)
flight_after called (tried.Moved first second) f = f ≡ flight.Tried called
flight_after called tried.NoMemory f = f ≡ flight.Refused called

-- the entries that the caller was answered, with that of this answer
abbrev pub entries_with_answer : ℕ → Call → Tried → List NamedEntry → List NamedEntry
entries_with_answer thread called (tried.Done said stamp mark) mine =
    mine ++ named_entry thread mine called said stamp mark ∷ []
entries_with_answer thread called (tried.NotYet o owner) mine = mine
entries_with_answer thread called (tried.Moved first second) mine = mine
entries_with_answer thread called tried.NoMemory mine = mine

-- The mark of a call is the first pass that it found with a lock that it needed, and none where it found none; while it
-- waits, that stands in the caller's pass. (C API, critical sections; marks: profile)
abbrev pub IsMarkOf : Tried → Option ℕ → Option ℕ → Type 0
IsMarkOf (tried.Done said stamp mark) before after = mark ≡ before
IsMarkOf (tried.NotYet o owner) before after = after ≡ Some (first_mark before owner)
IsMarkOf (tried.Moved first second) before after = after ≡ before
IsMarkOf tried.NoMemory before after = after ≡ before

-- where it waits, a step found another pass with the lock, after the first of these moments and before the second
abbrev pub FoundIn : Tried → View → View → Type 0
FoundIn (tried.NotYet o owner) v w = FoundOwner o owner v w
FoundIn (tried.Done said stamp mark) v w = Unit {0}
FoundIn (tried.Moved first second) v w = Unit {0}
FoundIn tried.NoMemory v w = Unit {0}

-- it was a step of the try; or one after the entry that the try made
abbrev pub HasFoundOwner : Tried → Caller → Caller → Type 0
HasFoundOwner t c d =
    FoundIn t (view c.pass) (view d.pass)
    ⊎ ((mid : View) × (length mid.entries ≡ suc (length (view c.pass).entries)) × FoundIn t mid (view d.pass))

-- A call that may be made without a lock, and whose answer isn't fixed yet, waits only where a look at it in this try
-- was contended. (PEP 703, Optimistically avoiding locking)
abbrev pub HasLookedFirst : Call → Tried → Caller → Caller → Type 0
HasLookedFirst called (tried.NotYet o owner) c d =
    may_look called ≡ true → flight_of d ≡ flight.Tried called → WasContended called (view c.pass) (view d.pass)
HasLookedFirst called (tried.Done said stamp mark) c d = Unit {0}
HasLookedFirst called (tried.Moved first second) c d = Unit {0}
HasLookedFirst called tried.NoMemory c d = Unit {0}

-- the same call comes next
abbrev pub ComesAgain : Tried → Type 0
ComesAgain (tried.NotYet o owner) = Unit {0}
ComesAgain (tried.Moved first second) = Unit {0}
ComesAgain (tried.Done said stamp mark) = ⊥
ComesAgain tried.NoMemory = ⊥

-- it is the same caller, with as many cursors; it is online where it was, has taken in the same callers, and has seen
-- no fewer writes (profile)
pub record StaysCaller (c d : Caller) : Type 0 where
  pub pass : StaysPass (view c.pass) (view d.pass)
  pub room : length d.cursors.items ≡ length c.cursors.items

-- ---- looks

-- a call that was refused memory is in flight until the caller gives up; after any other look none is
abbrev pub flight_looked : Call → Look → Flight
flight_looked called (look.Done said stamp) = flight.Idle
flight_looked called (look.Contended first second) = flight.Idle
flight_looked called look.NoMemory = flight.Refused called

-- the entries that the caller was answered, with that of the look if it gave a reply; no lock was waited for
abbrev pub entries_with_look : ℕ → Call → Look → List NamedEntry → List NamedEntry
entries_with_look thread called (look.Done said stamp) mine =
    mine ++ named_entry thread mine called said stamp None ∷ []
entries_with_look thread called (look.Contended first second) mine = mine
entries_with_look thread called look.NoMemory mine = mine

-- the caller once a look of its pass has answered so
abbrev pub after_look : Call → Look → Caller → Caller
after_look called (look.Done said stamp) c = record c { made = c.made + 1 }
after_look called (look.Contended first second) c = c
after_look called look.NoMemory c = record c { flight = flight.Refused called }
