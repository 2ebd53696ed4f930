-- What the try of a call on containers leaves of the pass's sections.
use Rattle.std.specs.Prelude.{◌≡◌, ℕ}
use Rattle.ft_bank.specs.declared.bank.Bank.{Bank}
use Rattle.ft_bank.specs.declared.pass.Pass.{Pass}
use Rattle.ft_bank.specs.Passes.{view}
use Rattle.ft_bank.specs.PassSections.{stack_of, nothing_taken}
use Rattle.ft_section.specs.declared.answers.Got.TheVariants as got
use Rattle.ft_section.specs.declared.answers.Objects.{Objects}
use Rattle.ft_section.specs.declared.answers.Step.{Step}
use Rattle.ft_section.specs.declared.answers.Step.TheVariants as step
use Rattle.ft_section.specs.Floors.{KnewOwners}
use Rattle.ft_section.specs.Locking.{KeepsLower, LocksWithin, with_own, waiting}
use Rattle.ft_section.specs.Ready.{IsWaiting, MayTry, MayResume}
use Rattle.ft_section.specs.LockTakings.{lower_of}

-- The call in flight has let go of the locks that it took itself; the same sections are open, and its mark stays. Any
-- call on containers may be tried then, or the innermost section be taken up again. (C API, critical sections)
pub record HasLetGo (b : Bank) (p q : Pass) : Type 0 where
  pub stack : stack_of q ≡ with_own (stack_of p) nothing_taken
  pub may : (objects : Objects) → MayTry b q objects
  pub resume : MayResume b q

-- The pass has taken the locks of a call on these containers: the same sections are open, and its mark stays. (C API,
-- critical sections)
pub record HasTaken (objects : Objects) (p q : Pass) : Type 0 where
  pub stack : stack_of q ≡ with_own (stack_of p) (stack_of q).own
  pub known : KnewOwners objects (view p) got.Have

-- A call on these containers has to wait, since a step found the pass `owner` with the lock of o: all sections have let
-- their locks go, and the call keeps at most the lock of the lower of its containers. (C API, critical sections)
pub record WaitsFor (b : Bank) (objects : Objects) (o owner : ℕ) (p q : Pass) : Type 0 where
  pub waits : IsWaiting b q objects
  pub stack : stack_of q ≡ waiting (with_own (stack_of p) (stack_of q).own) owner
  pub kept : KeepsLower (lower_of objects) o p q
  pub within : LocksWithin objects (view p) (view q)
  pub known : KnewOwners objects (view p) (got.NotYet o owner)

-- The call had its locks, and has let go of those that it took itself. (C API, critical sections)
abbrev pub HasHadLocks : Bank → Objects → Pass → Pass → Type 0
HasHadLocks b objects p q = HasLetGo b p q × KnewOwners objects (view p) got.Have

-- what a try of a call on these containers leaves of the sections, by its answer
abbrev pub SectionsAfter : Bank → Objects → Pass → Pass → Step → Type 0
SectionsAfter b objects p q (step.Done said stamp) = HasHadLocks b objects p q
SectionsAfter b objects p q (step.NotYet o owner) = WaitsFor b objects o owner p q
SectionsAfter b objects p q (step.Moved first second) = HasHadLocks b objects p q
SectionsAfter b objects p q step.NoMemory = HasHadLocks b objects p q
