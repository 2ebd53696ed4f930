-- How often a lock stands among the locks of a thread, and whether the thread has it: taking locks and letting them go keeps the two equal.
use Rattle.std.proofs.Common.{◌≡◌, ◌≢◌, ℕ, ◌+◌, ◌<◌, ◌≤◌, true, false, List, [], ◌∷◌, ◌++◌, length, set, ◌==◌, Option, None, Some, refl, sym, ap, ◌∙◌, arith, ⊎_elim}
use Rattle.std.specs.Prelude.{if◌then◌else◌, is_some, slice_set}
use Rattle.std.proofs.lemmas.Bool.{cases_eq}
use Rattle.std.proofs.lemmas.Bool.Decides.{nat_tests}
use Rattle.std.proofs.lemmas.List.{length-set, get_or-set_same, get_or-set_other, get_or_past}
use Rattle.std.proofs.lemmas.Bool.{cases_lt}
use Rattle.ft_turns.specs.Wants.{AreBelow}
use Rattle.ft_turns.specs.Orders.{Locking, holder_of, take_locks, let_go}

abbrev pub same : ℕ → ℕ → ℕ
same a b = if a == b then 1 else 0

-- how often the lock stands in the list
abbrev pub times : ℕ → List ℕ → ℕ
times container [] = 0
times container (x ∷ xs) = same x container + times container xs

pub times-append : (container : ℕ) (xs ys : List ℕ) → times container (xs ++ ys) ≡ times container xs + times container ys
times-append container [] ys = omega arith
times-append container (x ∷ xs) ys = omega (arith, times-append container xs ys)

-- whether the holder is the thread
abbrev pub by : Option ℕ → ℕ → ℕ
by None thread = 0
by (Some other) thread = same other thread

pub same_self : (a : ℕ) → same a a ≡ 1
same_self a = grind (arith, nat_tests)

pub same_other : (a b : ℕ) → a ≢ b → same a b ≡ 0
same_other a b differ = grind (arith, nat_tests, differ)

pub is_same : (a b : ℕ) → 1 ≤ same a b → a ≡ b
is_same a b one = ⊎_elim (λ (e : a ≡ b). e) (λ (n : a ≢ b). absurd (omega (arith, one, same_other a b n))) (cases_eq a b)

pub same_le : (a b : ℕ) → same a b ≤ 1
same_le a b = ⊎_elim (λ (e : a ≡ b). rw (e, same_self b) (omega arith)) (λ (n : a ≢ b). rw (same_other a b n) (omega arith)) (cases_eq a b)

-- one thread at most has a lock
pub one_holder : (holder : Option ℕ) (thread other : ℕ) → thread ≢ other → 1 ≤ by holder thread → by holder other ≡ 0
one_holder None thread other differ one = refl
one_holder (Some q) thread other differ one = let e = is_same q thread one in same_other q other (λ f. differ (sym e ∙ f))

pub by_le : (holder : Option ℕ) (thread : ℕ) → by holder thread ≤ 1
by_le None thread = omega arith
by_le (Some q) thread = same_le q thread

-- a holder of a lock is reported for a container that there is
pub held_within : (holders : List (Option ℕ)) (container : ℕ) → is_some (holder_of holders container) ≡ true → container < length holders
held_within holders container held =
    ⊎_elim (λ (inside : container < length holders). inside)
    (λ (past : length holders ≤ container). let none : is_some (holder_of holders container) ≡ false = ap is_some (get_or_past holders container None past) in absurd (let e : false ≡ true = sym none ∙ held in cc))
    (cases_lt container (length holders))

pub by_some : (holder : Option ℕ) (thread : ℕ) → 1 ≤ by holder thread → is_some holder ≡ true
by_some None thread one = absurd (omega (arith, one))
by_some (Some q) thread one = refl

-- ---- one lock changes hands

pub set_by : (holders : List (Option ℕ)) (x : ℕ) (v : Option ℕ) (container thread : ℕ) → x < length holders → (container ≡ x → by v thread ≡ by (holder_of (set holders x v) container) thread) × (container ≢ x → holder_of (set holders x v) container ≡ holder_of holders container)
set_by holders x v container thread within = (
  (λ e. rw e (ap (λ h. by h thread) (sym (get_or-set_same holders x v None within)))),
  (λ n. get_or-set_other holders x container v None n),
)

-- ---- taking locks

-- the locking that begins at a lock with this holder
abbrev pub locking_at : ℕ → List (Option ℕ) → ℕ → List ℕ → Option ℕ → Locking
locking_at thread holders x xs None = let rest = take_locks thread (slice_set holders x (Some thread)) xs in record rest { taken = x ∷ rest.taken }
locking_at thread holders x xs (Some q) = if q == thread then take_locks thread holders xs else record { holders = holders; taken = []; found = Some q }

-- what taking locks comes to
pub record Takes (thread : ℕ) (before : List (Option ℕ)) (locking : Locking) : Type 0 where
  pub size : length locking.holders ≡ length before
  pub mine : (container : ℕ) → by (holder_of locking.holders container) thread ≡ by (holder_of before container) thread + times container locking.taken
  pub others : (container other : ℕ) → thread ≢ other → by (holder_of locking.holders container) other ≡ by (holder_of before container) other
  pub grows : (container : ℕ) → is_some (holder_of before container) ≡ true → is_some (holder_of locking.holders container) ≡ true

takes_none : (thread : ℕ) (holders : List (Option ℕ)) (found : Option ℕ) → Takes thread holders (record { holders = holders; taken = []; found = found })
takes_none thread holders found = record { size = refl; mine = λ container. omega arith; others = λ container other differ. refl; grows = λ container held. held }

-- a free lock is taken
takes_one : (thread : ℕ) (holders : List (Option ℕ)) (x : ℕ) (rest : Locking) → x < length holders → holder_of holders x ≡ None → Takes thread (set holders x (Some thread)) rest → Takes thread holders (record rest { taken = x ∷ rest.taken })
takes_one thread holders x rest within free takes = record {
  size = takes.size ∙ length-set holders x (Some thread);
  mine = λ container.
      let r = takes.mine container in
      ⊎_elim
      (λ (e : container ≡ x).
      let now = (set_by holders x (Some thread) container thread within).0 e in
      let was : by (holder_of holders container) thread ≡ 0 = rw (e, free) refl in
      let one : same thread thread ≡ 1 = same_self thread in
      let this : same x container ≡ 1 = rw e (same_self x) in
      omega (arith, r, now, was, one, this))
      (λ (n : container ≢ x).
      let now = ap (λ h. by h thread) ((set_by holders x (Some thread) container thread within).1 n) in
      let this : same x container ≡ 0 = same_other x container (λ e. n (sym e)) in
      omega (arith, r, now, this))
      (cases_eq container x);
  others = λ container other differ.
      let r = takes.others container other differ in
      ⊎_elim
      (λ (e : container ≡ x).
      let now = (set_by holders x (Some thread) container other within).0 e in
      let was : by (holder_of holders container) other ≡ 0 = rw (e, free) refl in
      let none : same thread other ≡ 0 = same_other thread other differ in
      omega (arith, r, now, was, none))
      (λ (n : container ≢ x). r ∙ ap (λ h. by h other) ((set_by holders x (Some thread) container other within).1 n))
      (cases_eq container x);
  grows = λ container held.
      ⊎_elim
      (λ (e : container ≡ x). takes.grows container (rw (e, get_or-set_same holders x (Some thread) None within) refl))
      (λ (n : container ≢ x). takes.grows container (rw (get_or-set_other holders x container (Some thread) None n) held))
      (cases_eq container x);
}

-- the step of the next lemma, which it gives what it is for the rest
takes_at : (thread : ℕ) (holders : List (Option ℕ)) (x : ℕ) (xs : List ℕ) (holder : Option ℕ) → holder_of holders x ≡ holder → x < length holders → ((hs : List (Option ℕ)) → length hs ≡ length holders → Takes thread hs (take_locks thread hs xs)) → Takes thread holders (locking_at thread holders x xs holder)
takes_at thread holders x xs None is within rest = takes_one thread holders x (take_locks thread (slice_set holders x (Some thread)) xs) within is (rest (set holders x (Some thread)) (length-set holders x (Some thread)))
takes_at thread holders x xs (Some q) is within rest =
    elim (q == thread) as (λ b. Takes thread holders (if b then take_locks thread holders xs else record { holders = holders; taken = []; found = Some q })) [
      | true ↦ rest holders refl
      | false ↦ takes_none thread holders (Some q)
    ]

pub take_step : (thread : ℕ) (holders : List (Option ℕ)) (x : ℕ) (xs : List ℕ) (holder : Option ℕ) → holder_of holders x ≡ holder → locking_at thread holders x xs holder ≡ take_locks thread holders (x ∷ xs)
take_step thread holders x xs None is = rw is refl
take_step thread holders x xs (Some q) is = rw is refl

pub takes_all : (thread : ℕ) (containers : List ℕ) (holders : List (Option ℕ)) → AreBelow (length holders) containers → Takes thread holders (take_locks thread holders containers)
takes_all thread [] holders below = takes_none thread holders None
takes_all thread (x ∷ xs) holders below =
    let step : Takes thread holders (locking_at thread holders x xs (holder_of holders x)) = takes_at thread holders x xs (holder_of holders x) refl below.0 (λ hs size. takes_all thread xs hs (rw size below.1)) in
    rw (take_step thread holders x xs (holder_of holders x) refl) at step

-- ---- letting locks go

-- what letting locks of a thread go comes to
pub record LetsGo (thread : ℕ) (before : List (Option ℕ)) (containers : List ℕ) (after : List (Option ℕ)) : Type 0 where
  pub size : length after ≡ length before
  pub mine : (container : ℕ) → by (holder_of after container) thread + times container containers ≡ by (holder_of before container) thread
  pub others : (container other : ℕ) → thread ≢ other → by (holder_of after container) other ≡ by (holder_of before container) other

pub lets_all_go : (thread : ℕ) (containers : List ℕ) (holders : List (Option ℕ)) → ((container : ℕ) → times container containers ≤ by (holder_of holders container) thread) → LetsGo thread holders containers (let_go holders containers)
lets_all_go thread [] holders held = record { size = refl; mine = λ container. omega arith; others = λ container other differ. refl }
lets_all_go thread (x ∷ xs) holders held =
    let mine_x : 1 ≤ by (holder_of holders x) thread = omega (arith, held x, same_self x) in
    let within : x < length holders = held_within holders x (by_some (holder_of holders x) thread mine_x) in
    let only : by (holder_of holders x) thread ≤ 1 = by_le (holder_of holders x) thread in
    let no_more : times x xs ≡ 0 = omega (arith, held x, same_self x, only) in
    let after : (container : ℕ) → by (holder_of (set holders x None) container) thread + same x container ≡ by (holder_of holders container) thread = λ container.
    ⊎_elim
    (λ (e : container ≡ x).
    let now = (set_by holders x None container thread within).0 e in
    let one : same x container ≡ 1 = rw e (same_self x) in
    let was : by (holder_of holders container) thread ≡ by (holder_of holders x) thread = ap (λ o. by (holder_of holders o) thread) e in
    omega (arith, now, one, was, only, mine_x))
    (λ (n : container ≢ x).
    let now = ap (λ h. by h thread) ((set_by holders x None container thread within).1 n) in
    let none : same x container ≡ 0 = same_other x container (λ e. n (sym e)) in
    omega (arith, now, none))
    (cases_eq container x) in
    let rest_held : (container : ℕ) → times container xs ≤ by (holder_of (set holders x None) container) thread = λ container. omega (arith, after container, held container) in
    let rest = lets_all_go thread xs (set holders x None) rest_held in
    record {
      size = rest.size ∙ length-set holders x None;
      mine = λ container. omega (arith, rest.mine container, after container);
      others = λ container other differ. rest.others container other differ ∙
          ⊎_elim
          (λ (e : container ≡ x).
          let now = (set_by holders x None container other within).0 e in
          let was : by (holder_of holders container) other ≡ 0 = rw e (one_holder (holder_of holders x) thread other differ mine_x) in
          let gone : by (holder_of (set holders x None) container) other ≡ by (holder_of holders container) other = omega (arith, now, was) in gone)
          (λ (n : container ≢ x). ap (λ h. by h other) ((set_by holders x None container other within).1 n))
          (cases_eq container x);
    }
