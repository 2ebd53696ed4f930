-- The two halves of one try of a call: its answer is made, and then the innermost section is taken up again.
use Rattle.std.specs.Prelude.{◌≡◌, ◌⊎◌, ℕ, true, List, [], ◌∷◌, ◌++◌, Option, None, Some}
use Rattle.ft_model.specs.declared.call.Call.{Call}
use Rattle.ft_model.specs.declared.cursor.Cursor.{Cursor}
use Rattle.ft_model.specs.declared.reply.Reply.{Reply}
use Rattle.ft_bank.specs.declared.bank.Bank.{Bank}
use Rattle.ft_bank.specs.declared.pass.Pass.{Pass}
use Rattle.ft_bank.specs.declared.sections.OpenSection.{OpenSection}
use Rattle.ft_bank.specs.Passes.{view}
use Rattle.ft_bank.specs.PassSections.{stack_of}
use Rattle.ft_section.specs.declared.answers.Stamp.{Stamp}
use Rattle.ft_section.specs.declared.answers.Step.TheVariants as step
use Rattle.ft_section.specs.Floors.{first_owned}
use Rattle.ft_section.specs.Locking.{KeepsLower, TakenUp, waiting, with_own}
use Rattle.ft_engine.specs.declared.attempts.Tried.{Tried}
use Rattle.ft_engine.specs.declared.attempts.Tried.TheVariants as tried
use Rattle.ft_engine.specs.declared.caller.Caller.{Caller}
use Rattle.ft_engine.specs.declared.caller.Flight.{Flight}
use Rattle.ft_engine.specs.declared.caller.Flight.TheVariants as flight
use Rattle.ft_engine.specs.declared.engine.Engine.{Engine}
use Rattle.ft_engine.specs.Answering.{HasLooked, IsTryOfCall}

-- ---- the innermost section

-- with the floor, the lock words known say which of the locks of the innermost section another pass has first
abbrev pub KnewTop : Pass → Option (ℕ × ℕ) → Type 0
KnewTop p found =
    (view p).has_floor ≡ true → (outer : List OpenSection) (top : OpenSection)
    → (stack_of p).sections ≡ outer ++ top ∷ [] → first_owned top.locks.lower top.locks.upper (view p) ≡ found

-- while it has to wait for the innermost section it keeps at most the lock of the lower container of that
abbrev pub KeepsTopLower : ℕ → Pass → Pass → Type 0
KeepsTopLower o p q =
    (outer : List OpenSection) (top : OpenSection) → (stack_of p).sections ≡ outer ++ top ∷ []
    → KeepsLower top.locks.lower o p q

-- the container is one of the innermost section's
abbrev pub IsOfTop : ℕ → Pass → Type 0
IsOfTop o p =
    (outer : List OpenSection) × (top : OpenSection) × ((stack_of p).sections ≡ outer ++ top ∷ [])
    × ((o ≡ top.locks.lower) ⊎ (o ≡ top.locks.upper))

-- The innermost section is taken up again, and the call ends with this answer and the mark that the pass has; or
-- another pass has a lock of that section. (C API, critical sections)
abbrev pub IsTakenUp : Reply → Stamp → Pass → Pass → Tried → Type 0
IsTakenUp said stamp p q (tried.Done reply at mark) =
    (reply ≡ said) × (at ≡ stamp) × (mark ≡ (stack_of p).mark) × TakenUp (stack_of p) (stack_of q)
    × KnewTop p None
IsTakenUp said stamp p q (tried.NotYet o owner) =
    (stack_of q ≡ waiting (with_own (stack_of p) (stack_of q).own) owner) × KeepsTopLower o p q
    × KnewTop p (Some (o, owner)) × IsOfTop o p
IsTakenUp said stamp p q (tried.Moved first second) = ⊥
IsTakenUp said stamp p q tried.NoMemory = ⊥

-- ---- the answer

-- The answer isn't made: the try of the call ends without the second half. A call that is looked first waits only where
-- its look was contended.
abbrev pub HasNoAnswer : Bank → List (Option Cursor) → Call → Pass → Pass → Tried → Type 0
HasNoAnswer b hands called p q (tried.Done said stamp mark) = ⊥
HasNoAnswer b hands called p q (tried.NotYet o owner) =
    IsTryOfCall b hands called p q (step.NotYet o owner) × HasLooked called (view p) (view q) (step.NotYet o owner)
HasNoAnswer b hands called p q (tried.Moved first second) = IsTryOfCall b hands called p q (step.Moved first second)
HasNoAnswer b hands called p q tried.NoMemory = IsTryOfCall b hands called p q step.NoMemory

-- ---- the call in flight

-- a call that has to wait still has no answer
abbrev pub WaitsUnanswered : Call → Tried → Flight → Type 0
WaitsUnanswered called (tried.Done said stamp mark) f = Unit {0}
WaitsUnanswered called (tried.NotYet o owner) f = f ≡ flight.Tried called
WaitsUnanswered called (tried.Moved first second) f = Unit {0}
WaitsUnanswered called tried.NoMemory f = Unit {0}

-- a call that has to wait has this answer
abbrev pub WaitsAnswered : Call → Reply → Stamp → Tried → Flight → Type 0
WaitsAnswered called said stamp (tried.Done reply at mark) f = Unit {0}
WaitsAnswered called said stamp (tried.NotYet o owner) f = f ≡ flight.Answered called said stamp
WaitsAnswered called said stamp (tried.Moved first second) f = Unit {0}
WaitsAnswered called said stamp tried.NoMemory f = Unit {0}

-- ---- both halves

-- the call has its answer in between
pub record HasBothHalves (b : Bank) (hands : List (Option Cursor)) (called : Call) (p q : Pass) (t : Tried)
    (after : Flight) : Type 0 where
  pub mid : Pass
  pub said : Reply
  pub stamp : Stamp
  pub answer : IsTryOfCall b hands called p mid (step.Done said stamp)
  pub taken : IsTakenUp said stamp mid q t
  pub waits : WaitsAnswered called said stamp t after

-- A call that has no answer yet is tried; where it gets its answer, or has had it, the innermost section is taken up
-- again. (C API, critical sections)
abbrev pub IsInHalves : Flight → Bank → List (Option Cursor) → Call → Pass → Pass → Tried → Flight → Type 0
IsInHalves (flight.Answered first said stamp) b hands called p q t after =
    IsTakenUp said stamp p q t × WaitsAnswered called said stamp t after
IsInHalves flight.Idle b hands called p q t after =
    (HasNoAnswer b hands called p q t × WaitsUnanswered called t after) ⊎ HasBothHalves b hands called p q t after
IsInHalves (flight.Tried first) b hands called p q t after =
    (HasNoAnswer b hands called p q t × WaitsUnanswered called t after) ⊎ HasBothHalves b hands called p q t after
IsInHalves (flight.Refused first) b hands called p q t after = ⊥

-- one try of a call of a caller
abbrev pub HasHalves : Engine → Call → Caller → Caller → Tried → Type 0
HasHalves e called c d t = IsInHalves c.flight e.bank c.cursors.items called c.pass d.pass t d.flight
