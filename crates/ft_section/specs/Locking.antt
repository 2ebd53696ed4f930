-- What taking locks and letting them go leaves of what a pass knows.
use Rattle.std.specs.Prelude.{◌≡◌, ◌<◌, ◌≤◌, ◌+◌, ◌==◌, ◌≢◌, ◌||◌, ◌++◌, ℕ, Bool, true, false, List, [], ◌∷◌, map, Option, Some, None, if◌then◌else◌}
use Rattle.ft_bank.specs.declared.bank.Bank.{Bank}
use Rattle.ft_bank.specs.Locks.{KnowsSame}
use Rattle.ft_bank.specs.declared.pass.Pass.{Pass}
use Rattle.ft_bank.specs.declared.sections.OpenSection.{OpenSection}
use Rattle.ft_bank.specs.Passes.{shape_of, view, IsPassOf}
use Rattle.ft_bank.specs.declared.sections.Taking.{Taking}
use Rattle.ft_bank.specs.SameBoxes.{SameReferences, SameMade}
use Rattle.ft_bank.specs.PassSections.{Stack, stack_of, noted_in, taken_in, suspended, nothing_taken}
use Rattle.ft_section.specs.declared.answers.Objects.{Objects}
use Rattle.ft_section.specs.Ready.{lock_count, AreBegun}
use Rattle.ft_section.specs.LockTakings.{IsOf}
use Rattle.ft_trace.specs.declared.Act.{Act}
use Rattle.ft_trace.specs.declared.Act.TheVariants.{Lock}
use Rattle.ft_trace.specs.declared.Snap.{Snap}
use Rattle.ft_trace.specs.declared.View.{View}
use Rattle.ft_trace.specs.Addresses.{container_count}
use Rattle.ft_trace.specs.Acts.{has_lock, is_writing, has_committed, has_emptied, stage, announces, used, debt, owes, flight}
use Rattle.ft_trace.specs.Floors.{at_floor}
use Rattle.ft_trace.specs.Hands.{cursor_in}
use Rattle.ft_trace.specs.Owners.{LocksOnly, SameOwners}
use Rattle.ft_trace.specs.Holds.{held_unboxed, known_state}
use Rattle.ft_trace.specs.BegunSections.{begun}
use Rattle.ft_trace.specs.Pictures.{Represents}
use Rattle.ft_bank.specs.Logs.{StaysOnline}

-- The pass has taken locks or let locks go, and done nothing else. Of each container whose lock it had and has it knows
-- the same. (profile)
pub record OnlyLocked (v w : View) : Type 0 where
  pub newer : List Act
  pub grew : w.log ≡ newer ++ v.log
  pub number : w.number ≡ v.number
  pub next : w.next ≡ v.next
  pub parts : w.parts ≡ v.parts
  pub left : w.left ≡ v.left
  pub shape : w.shape ≡ v.shape
  pub entries : w.entries ≡ v.entries
  pub cursors : (n : ℕ) → cursor_in n w.log ≡ cursor_in n v.log
  pub tokens : w.tokens ≡ v.tokens
  pub learnt : w.learnt ≡ v.learnt
  pub lists : w.lists ≡ v.lists
  pub floor : w.has_floor ≡ v.has_floor
  pub since : at_floor w.log ≡ at_floor v.log
  pub writes : (p : ℕ) → is_writing p w.log ≡ is_writing p v.log
  pub committed : (p : ℕ) → has_committed p w.log ≡ has_committed p v.log
  pub emptied : (p : ℕ) → has_emptied p w.log ≡ has_emptied p v.log
  pub hands : (t : ℕ) → stage t w.log ≡ stage t v.log
  pub announced : announces w.log ≡ announces v.log
  pub used : used w.log ≡ used v.log
  pub debt : debt w.log ≡ debt v.log
  pub owes : owes w.log ≡ owes v.log
  pub flight : flight w.log ≡ flight v.log
  pub references : SameReferences v w
  pub made : SameMade v w
  pub stays_online : StaysOnline v w
  pub knows : (p : ℕ) → p < container_count v.shape → has_lock p v.log ≡ true → has_lock p w.log ≡ true
      → KnowsSame p v w

-- it has each lock that it had
abbrev pub KeepsLocks : View → View → Type 0
KeepsLocks v w = (p : ℕ) → has_lock p v.log ≡ true → has_lock p w.log ≡ true

-- a step since then found another pass q with the lock of o, which this one didn't have
pub record FoundOwner (o q : ℕ) (v w : View) : Type 0 where
  pub newer : List Act
  pub snap : Snap
  pub older : List Act
  pub is : w.log ≡ newer ++ Lock o (q + 1) snap ∷ (older ++ v.log)
  pub other : q + 1 ≢ v.number

-- of locks the pass has taken only such as are of these containers (C API, critical sections)
abbrev pub LocksWithin : Objects → View → View → Type 0
LocksWithin objects v w = LocksOnly (λ o. IsOf o objects) v w

-- the pass has taken the locks that the number is 1 of, which it didn't have, and knows what their words stand for
pub record TookLocks (amount : ℕ → ℕ) (v w : View) : Type 0 where
  pub locked : OnlyLocked v w
  pub keeps : KeepsLocks v w
  pub count : (o : ℕ) → lock_count o w ≡ lock_count o v + amount o
  pub low : (o : ℕ) → amount o ≢ 0 → o < container_count v.shape
  pub stands : (o : ℕ) → amount o ≢ 0 → Represents w.shape.texts (held_unboxed o w) (known_state o w)
  pub begun : begun w.log ≡ begun v.log
  pub only : LocksOnly (λ o. amount o ≢ 0) v w

-- the pass has let go of the locks that the number is 1 of
pub record LetGo (amount : ℕ → ℕ) (v w : View) : Type 0 where
  pub locked : OnlyLocked v w
  pub owners : SameOwners v w
  pub count : (o : ℕ) → lock_count o w + amount o ≡ lock_count o v
  pub begun : (sections : List OpenSection) → AreBegun sections (begun v.log)
      → ((o : ℕ) → amount o ≢ 0 → noted_in o sections ≡ 0) → AreBegun sections (begun w.log)

-- A pass of the bank may let go of the locks that the number is 1 of: it has them, their versions are even, and no open
-- section notes them as taken.
pub record MayLetGo (amount : ℕ → ℕ) (b : Bank) (p : Pass) : Type 0 where
  pub pass : IsPassOf b p
  pub even : (o : ℕ) → is_writing o (view p).log ≡ false
  pub low : (o : ℕ) → amount o ≢ 0 → o < container_count (shape_of b)
  pub count : (o : ℕ) → amount o ≤ lock_count o (view p)
  pub struck : (o : ℕ) → amount o ≢ 0 → noted_in o (stack_of p).sections ≡ 0

-- 1 for the container alone
abbrev pub at_one : ℕ → ℕ → ℕ
at_one o p = if o == p then 1 else 0

-- the call in flight has taken these locks itself
abbrev pub with_own : Stack → Taking → Stack
with_own s own = record s { own = own }

-- the stack is the same, and the pass is of the same bank
abbrev pub KeepsStack : Pass → Pass → Type 0
KeepsStack p q = (q.seat.table_id ≡ p.seat.table_id) × (stack_of q ≡ stack_of p)

-- Which lock a call that has to wait has taken itself in this try: that of the lower container, where the pass lacked
-- it and it is the other one that a step found with another pass. Beside it the call keeps what it had taken itself in
-- earlier tries. (profile)
abbrev pub KeepsLower : ℕ → ℕ → Pass → Pass → Type 0
KeepsLower lower o p q =
    (r : ℕ) → taken_in r (stack_of q).own
    ≡ taken_in r (stack_of p).own + (if (o == lower) || has_lock lower (view p).log then 0 else at_one lower r)

-- the pass that a call waited for first, where it has now found this one
abbrev pub first_mark : Option ℕ → ℕ → ℕ
first_mark None q = q
first_mark (Some first) q = first

-- how many marks more that makes
abbrev pub marks_more : Option ℕ → ℕ
marks_more None = 1
marks_more (Some first) = 0

-- A call that has found another pass with a lock that it needs: all sections have let their locks go, the first pass
-- that it found is its mark, and with that each section counts one marked call more. (C API, critical sections; the
-- count: profile)
abbrev pub waiting : Stack → ℕ → Stack
waiting s q =
    record {
      sections = map (suspended (marks_more s.mark)) s.sections;
      own = s.own;
      mark = Some (first_mark s.mark q);
    }

-- the section notes these of its locks as taken
abbrev pub noting : Bool → Bool → OpenSection → OpenSection
noting lower upper s = record s { locks = record s.locks { took_lower = lower; took_upper = upper } }

-- The call in flight has finished, and the innermost section is taken up again: the same sections are open, with the
-- same containers and counts of marks, and the innermost one alone may note other locks of its own as taken. (C API,
-- critical sections)
pub record TakenUp (s t : Stack) : Type 0 where
  pub none : s.sections ≡ [] → t.sections ≡ []
  pub top : (outer : List OpenSection) (top : OpenSection) → s.sections ≡ outer ++ top ∷ []
      → (lower : Bool) × (upper : Bool) × (t.sections ≡ outer ++ noting lower upper top ∷ [])
  pub own : t.own ≡ nothing_taken
  pub mark : t.mark ≡ None
