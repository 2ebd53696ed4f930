-- What a pass keeps between calls and in the midst of them.
use Rattle.std.specs.Prelude.{◌≡◌, ◌≤◌, ◌<◌, ◌+◌, ◌==◌, ◌||◌, ◌⊎◌, ℕ, true, false, List, [], ◌∷◌, ◌++◌, All, None, Some, if◌then◌else◌}
use Rattle.ft_bank.specs.declared.bank.Bank.{Bank}
use Rattle.ft_bank.specs.declared.pass.Pass.{Pass}
use Rattle.ft_bank.specs.declared.sections.OpenSection.{OpenSection}
use Rattle.ft_bank.specs.Passes.{view, IsPassOf}
use Rattle.ft_bank.specs.PassSections.{Stack, stack_of, taken_in, noted_in, nothing_taken}
use Rattle.ft_section.specs.declared.answers.Objects.{Objects}
use Rattle.ft_section.specs.LockTakings.{IsLockTaking, IsOwnFor, HasBoth, lower_of, upper_of}
use Rattle.ft_trace.specs.declared.View.{View}
use Rattle.ft_trace.specs.Addresses.{container_count}
use Rattle.ft_trace.specs.Acts.{has_lock, is_writing, stage, used, owes, flight}
use Rattle.ft_trace.specs.Boxes.{IsDoneWithBoxes}
use Rattle.ft_trace.specs.Holds.{held_unboxed, known_state}
use Rattle.ft_trace.specs.BegunSections.{Begun, begun, is_among}
use Rattle.ft_trace.specs.Pictures.{Represents}

-- A pass is in the midst of no write, of no taking of a table and of nothing with boxes: no version is odd by it, and it
-- has no table in hand but such as it retired. It holds no reference for a box, makes none, and has no place to give back;
-- each of its boxes in the default state has a local count above 0, and each that it made was stored by a write, or its
-- place given back. The words of each container whose lock it has stand for what the writes make of it. (profile)
pub record IsStill (v : View) : Type 0 where
  pub even : (o : ℕ) → is_writing o v.log ≡ false
  pub hands : (t : ℕ) → (stage t v.log ≡ 0) ⊎ (stage t v.log ≡ 4)
  pub used : used v.log ≡ false
  pub owes : owes v.log ≡ 0
  pub flight : flight v.log ≡ 0
  pub boxes : IsDoneWithBoxes v.shape v.log
  pub stands : (o : ℕ) → o < container_count v.shape → has_lock o v.log ≡ true
      → Represents v.shape.texts (held_unboxed o v) (known_state o v)

-- 1 where the pass has the lock of o, and else 0
abbrev pub lock_count : ℕ → View → ℕ
lock_count o v = if has_lock o v.log then 1 else 0

-- The section s, the innermost of these, is the one that was begun so: it has the containers of its `begin`; and where
-- none of its calls had to wait, the pass has had their locks since then, and it or a section round it took them.
-- (C API, critical sections)
pub record IsBegun (sections : List OpenSection) (s : OpenSection) (b : Begun) : Type 0 where
  pub containers : (o : ℕ) → is_among o b.containers ≡ ((s.locks.lower == o) || (s.locks.upper == o))
  pub kept : s.marks ≡ 0
      → (b.held ≡ true) × (noted_in s.locks.lower sections ≡ 1) × (noted_in s.locks.upper sections ≡ 1)

-- the open sections are the last ones that were begun and not ended, innermost first there
abbrev pub AreBegun : List OpenSection → List Begun → Type 0
AreBegun sections [] = sections ≡ []
AreBegun sections (b ∷ bs) =
    (sections ≡ [])
    ⊎ ((outer : List OpenSection) × (s : OpenSection) × (sections ≡ outer ++ s ∷ []) × IsBegun sections s b
    × AreBegun outer bs)

-- at least one call in it had to wait
abbrev pub HasMarks : OpenSection → Type 0
HasMarks s = 1 ≤ s.marks

-- Where the call in flight has a mark, each open section counts it. The innermost one doesn't where the call is its
-- `begin`, and then the pass has its locks. (profile)
abbrev pub AreMarked : View → List OpenSection → Type 0
AreMarked v sections =
    (outer : List OpenSection) (top : OpenSection) → sections ≡ outer ++ top ∷ []
    → All HasMarks outer × (HasMarks top ⊎ HasBoth v top.locks)

-- What holds in the midst of a call and between calls: each lock that the pass has is noted once, by an open section or
-- by the call in flight, and no other lock is noted. (profile)
pub record InCall (v : View) (s : Stack) : Type 0 where
  pub still : IsStill v
  pub locks : (o : ℕ) → noted_in o s.sections + taken_in o s.own ≡ lock_count o v
  pub low : (o : ℕ) → has_lock o v.log ≡ true → o < container_count v.shape
  pub sections : All (λ section. IsLockTaking v.shape section.locks) s.sections
  pub begun : AreBegun s.sections (begun v.log)
  pub marked : (q : ℕ) → s.mark ≡ Some q → AreMarked v s.sections

-- the same of a pass of the bank
abbrev pub IsInCall : Bank → Pass → Type 0
IsInCall b p = IsPassOf b p × InCall (view p) (stack_of p)

-- the pass has the locks of its innermost section
abbrev pub HasTop : Pass → Type 0
HasTop p =
    (outer : List OpenSection) (top : OpenSection) → (stack_of p).sections ≡ outer ++ top ∷ []
    → HasBoth (view p) top.locks

-- A pass between two calls: it has the locks that its open sections took and no others, and all those of the innermost
-- one. It has no mark to hand out, no version is odd by it, and it has no table in hand. (C API, critical sections)
pub record IsReady (b : Bank) (p : Pass) : Type 0 where
  pub inside : IsInCall b p
  pub own : (stack_of p).own ≡ nothing_taken
  pub mark : (stack_of p).mark ≡ None
  pub top : HasTop p

-- all sections have let their locks go, and count the mark of the call in flight
abbrev pub AreSuspended : List OpenSection → Type 0
AreSuspended sections = All HasMarks sections × ((o : ℕ) → noted_in o sections ≡ 0)

-- A pass whose call on these containers has to wait: it has let go of the locks of all its sections, and has itself at
-- most the lock of the lower of the two. (C API, critical sections; which lock is kept: profile)
pub record IsWaiting (b : Bank) (p : Pass) (objects : Objects) : Type 0 where
  pub inside : IsInCall b p
  pub owner : ℕ
  pub mark : (stack_of p).mark ≡ Some owner
  pub suspended : AreSuspended (stack_of p).sections
  pub own : IsOwnFor (lower_of objects) (upper_of objects) (stack_of p).own

-- a call on these containers may begin, or be tried again
abbrev pub MayTry : Bank → Pass → Objects → Type 0
MayTry b p objects = IsReady b p ⊎ IsWaiting b p objects

-- the open sections note the locks of the innermost one as taken
abbrev pub NotesTop : List OpenSection → Type 0
NotesTop sections =
    (outer : List OpenSection) (top : OpenSection) → sections ≡ outer ++ top ∷ []
    → (noted_in top.locks.lower sections ≡ 1) × (noted_in top.locks.upper sections ≡ 1)

-- A pass in the midst of a call that has taken its locks: where the call didn't have to wait, the locks of the
-- innermost section are there too, and where it had to, none that a section took. (C API, critical sections)
pub record IsMaking (b : Bank) (p : Pass) : Type 0 where
  pub inside : IsInCall b p
  pub free : (stack_of p).mark ≡ None → NotesTop (stack_of p).sections
  pub waited : (q : ℕ) → (stack_of p).mark ≡ Some q → AreSuspended (stack_of p).sections

-- A pass whose call has made its answer: before the next call it takes up its innermost section again, of whose locks
-- the call has at most the lower one. (C API, critical sections)
pub record MayResume (b : Bank) (p : Pass) : Type 0 where
  pub inside : IsInCall b p
  pub own : (outer : List OpenSection) (top : OpenSection) → (stack_of p).sections ≡ outer ++ top ∷ []
      → IsOwnFor top.locks.lower top.locks.upper (stack_of p).own
  pub none : (stack_of p).sections ≡ [] → (stack_of p).own ≡ nothing_taken
