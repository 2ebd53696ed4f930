-- What it means that a thread finds a lock with another one.
use Rattle.std.proofs.Common.{◌≡◌, ◌≢◌, ℕ, ◌<◌, ◌≤◌, Bool, true, false, List, [], ◌∷◌, ◌++◌, Option, None, Some, refl, ap, ◌∙◌, subst, arith, inl, inr, ⊎_elim}
use Rattle.std.specs.Prelude.{if◌then◌else◌, ◌==◌, slice_set, ◌⊎◌}
use Rattle.std.proofs.lemmas.Bool.Decides.{nat_tests}
use Rattle.std.proofs.lemmas.List.{append-nil}
use Rattle.ft_turns.specs.Orders.{Locking, holder_of, take_locks}
use Rattle.ft_turns.proofs.LockCounts.{times, by, same_self, same_other, is_same, locking_at, take_step}
use Rattle.ft_turns.specs.Wants.{AreBelow}
use Rattle.ft_turns.proofs.Wanting.{AreRising}

-- a thread has no lock of its own for its call, or the lower of two that it wants, and then none for its sections
abbrev pub IsOwn : List ℕ → List ℕ → List ℕ → Type 0
IsOwn own locks wanted = (own ≡ []) ⊎ ((low : ℕ) × (high : ℕ) × (own ≡ low ∷ []) × (locks ≡ []) × (wanted ≡ low ∷ high ∷ []))

-- a thread waits for a lock that another has, and keeps at most a lower one
pub record Blocks (thread : ℕ) (locking : Locking) (before wanted : List ℕ) (other : ℕ) : Type 0 where
  pub container : ℕ
  pub holder : holder_of locking.holders container ≡ Some other
  pub differ : other ≢ thread
  pub above : (one : ℕ) → 1 ≤ times one (before ++ locking.taken) → one < container
  pub own : IsOwn (before ++ locking.taken) [] wanted

-- one lock, of this holder, is found with another thread
pub record FoundHeld (thread : ℕ) (holders : List (Option ℕ)) (x : ℕ) (locking : Locking) (other : ℕ) : Type 0 where
  pub holder : holder_of holders x ≡ Some other
  pub differ : other ≢ thread
  pub taken : locking.taken ≡ []
  pub holders_are : locking.holders ≡ holders

some_same : (a b : ℕ) → Some a ≡ Some b → a ≡ b
some_same a b e = cc

found_one : (b : Bool) (thread : ℕ) (holders : List (Option ℕ)) (x q other : ℕ) → (q == thread) ≡ b → holder_of holders x ≡ Some q → (if b then take_locks thread holders [] else record { holders = holders; taken = []; found = Some q }).found ≡ Some other → FoundHeld thread holders x (if b then take_locks thread holders [] else record { holders = holders; taken = []; found = Some q }) other
found_one true thread holders x q other is held found = absurd (let e : None ≡ Some other = found in cc)
found_one false thread holders x q other is held found =
    let this : q ≡ other = some_same q other found in
    record { holder = held ∙ ap (λ p. let o : Option ℕ = Some p in o) this; differ = λ e. (let n : q ≢ thread = grind (arith, nat_tests, is) in n (this ∙ e)); taken = refl; holders_are = refl }

found_at : (thread : ℕ) (holders : List (Option ℕ)) (x : ℕ) (holder : Option ℕ) (other : ℕ) → holder_of holders x ≡ holder → (locking_at thread holders x [] holder).found ≡ Some other → FoundHeld thread holders x (locking_at thread holders x [] holder) other
found_at thread holders x None other is found = absurd (let e : None ≡ Some other = found in cc)
found_at thread holders x (Some q) other is found = found_one (q == thread) thread holders x q other refl is found

found_last : (thread : ℕ) (holders : List (Option ℕ)) (x other : ℕ) → (take_locks thread holders (x ∷ [])).found ≡ Some other → FoundHeld thread holders x (take_locks thread holders (x ∷ [])) other
found_last thread holders x other found =
    let step = take_step thread holders x [] (holder_of holders x) refl in
    subst (λ (l : Locking). FoundHeld thread holders x l other) step (found_at thread holders x (holder_of holders x) other refl (ap (λ (l : Locking). l.found) step ∙ found))

none_above : (container one : ℕ) → 1 ≤ times one [] → one < container
none_above container one some = absurd (omega (arith, some))

one_above : (x y one : ℕ) → x < y → 1 ≤ times one (x ∷ []) → one < y
one_above x y one less some = let e : x ≡ one = is_same x one (omega (arith, some)) in omega (arith, e, less)

-- a thread that wants one lock
blocked_one : (thread : ℕ) (holders : List (Option ℕ)) (own locks : List ℕ) (x other : ℕ) → IsOwn own locks (x ∷ []) → (take_locks thread holders (x ∷ [])).found ≡ Some other → Blocks thread (take_locks thread holders (x ∷ [])) own (x ∷ []) other
blocked_one thread holders own locks x other is found =
    let f = found_last thread holders x other found in
    let empty : own ≡ [] = ⊎_elim (λ (e : own ≡ []). e) (λ (low : (low : ℕ) × (high : ℕ) × (own ≡ low ∷ []) × (locks ≡ []) × (x ∷ [] ≡ low ∷ high ∷ [])). absurd (let e = low.4 in cc)) is in
    let none : own ++ (take_locks thread holders (x ∷ [])).taken ≡ [] = rw (empty, f.taken) refl in
    record {
      container = x;
      holder = rw f.holders_are f.holder;
      differ = f.differ;
      above = λ one some. none_above x one (rw none at some);
      own = inl none;
    }

-- a thread that wants two, of which it takes or has the first
blocked_second : (thread : ℕ) (holders : List (Option ℕ)) (own : List ℕ) (x y other : ℕ) (locking : Locking) → x < y → FoundHeld thread holders y locking other → (before : List ℕ) → (before ≡ []) ⊎ (before ≡ x ∷ []) → own ++ locking.taken ≡ own → own ≡ before → Blocks thread locking own (x ∷ y ∷ []) other
blocked_second thread holders own x y other locking less f before cases none same_own =
    let whole : own ++ locking.taken ≡ before = none ∙ same_own in
    record {
      container = y;
      holder = rw f.holders_are f.holder;
      differ = f.differ;
      above = λ one some.
          ⊎_elim
          (λ (e : before ≡ []). none_above y one (rw (whole, e) at some))
          (λ (e : before ≡ x ∷ []). one_above x y one less (rw (whole, e) at some))
          cases;
      own = ⊎_elim
          (λ (e : before ≡ []). inl (whole ∙ e))
          (λ (e : before ≡ x ∷ []). inr (x, y, whole ∙ e, refl, refl))
          cases;
    }

-- where the first is free or another's, the thread has none
none_own : (thread : ℕ) (own locks : List ℕ) (x y : ℕ) → IsOwn own locks (x ∷ y ∷ []) → times x (own ++ locks) ≡ 0 → own ≡ []
none_own thread own locks x y is none =
    ⊎_elim (λ (e : own ≡ []). e)
    (λ (low : (low : ℕ) × (high : ℕ) × (own ≡ low ∷ []) × (locks ≡ []) × (x ∷ y ∷ [] ≡ low ∷ high ∷ [])).
    let first : low.0 ≡ x = (let e = low.4 in cc) in
    let whole : own ++ locks ≡ x ∷ [] = rw (low.2, low.3, first) refl in
    let one : times x (x ∷ []) ≡ 0 = rw whole at none in
    absurd (omega (arith, one, same_self x)))
    is

own_cases : (own locks : List ℕ) (x y : ℕ) → IsOwn own locks (x ∷ y ∷ []) → (own ≡ []) ⊎ (own ≡ x ∷ [])
own_cases own locks x y is =
    ⊎_elim (λ (e : own ≡ []). inl e)
    (λ (low : (low : ℕ) × (high : ℕ) × (own ≡ low ∷ []) × (locks ≡ []) × (x ∷ y ∷ [] ≡ low ∷ high ∷ [])).
    let first : low.0 ≡ x = (let e = low.4 in cc) in
    inr (low.2 ∙ ap (λ l. l ∷ []) first))
    is

blocked_two_by : (b : Bool) (thread : ℕ) (holders : List (Option ℕ)) (own locks : List ℕ) (x y q other : ℕ) → (q == thread) ≡ b → holder_of holders x ≡ Some q → x < y → IsOwn own locks (x ∷ y ∷ []) → ((o : ℕ) → times o (own ++ locks) ≡ by (holder_of holders o) thread)
    → (if b then take_locks thread holders (y ∷ []) else record { holders = holders; taken = []; found = Some q }).found ≡ Some other
    → Blocks thread (if b then take_locks thread holders (y ∷ []) else record { holders = holders; taken = []; found = Some q }) own (x ∷ y ∷ []) other
blocked_two_by true thread holders own locks x y q other is at less own_is held found =
    let f = found_last thread holders y other found in
    let locking = take_locks thread holders (y ∷ []) in
    let none : own ++ locking.taken ≡ own = rw f.taken (append-nil own) in
    blocked_second thread holders own x y other locking less f own (own_cases own locks x y own_is) none refl
blocked_two_by false thread holders own locks x y q other is at less own_is held found =
    let this : q ≡ other = some_same q other found in
    let differ : q ≢ thread = grind (arith, nat_tests, is) in
    let zero_times : times x (own ++ locks) ≡ 0 = held x ∙ rw at (same_other q thread differ) in
    let empty : own ≡ [] = none_own thread own locks x y own_is zero_times in
    let none : own ++ [] ≡ [] = rw empty refl in
    record {
      container = x;
      holder = at ∙ ap (λ p. let o : Option ℕ = Some p in o) this;
      differ = λ e. differ (this ∙ e);
      above = λ one some. none_above x one (rw none at some);
      own = inl none;
    }

blocked_two_at : (thread : ℕ) (holders : List (Option ℕ)) (own locks : List ℕ) (x y : ℕ) (holder : Option ℕ) (other : ℕ) → holder_of holders x ≡ holder → x < y → IsOwn own locks (x ∷ y ∷ []) → ((o : ℕ) → times o (own ++ locks) ≡ by (holder_of holders o) thread)
    → (locking_at thread holders x (y ∷ []) holder).found ≡ Some other
    → Blocks thread (locking_at thread holders x (y ∷ []) holder) own (x ∷ y ∷ []) other
blocked_two_at thread holders own locks x y None other at less own_is held found =
    let rest = take_locks thread (slice_set holders x (Some thread)) (y ∷ []) in
    let f = found_last thread (slice_set holders x (Some thread)) y other found in
    let zero_times : times x (own ++ locks) ≡ 0 = held x ∙ rw at refl in
    let empty : own ≡ [] = none_own thread own locks x y own_is zero_times in
    let whole : own ++ (x ∷ rest.taken) ≡ x ∷ [] = rw (empty, f.taken) refl in
    record {
      container = y;
      holder = rw f.holders_are f.holder;
      differ = f.differ;
      above = λ one some. one_above x y one less (rw whole at some);
      own = inr (x, y, whole, refl, refl);
    }
blocked_two_at thread holders own locks x y (Some q) other at less own_is held found = blocked_two_by (q == thread) thread holders own locks x y q other refl at less own_is held found

blocked_two : (thread : ℕ) (holders : List (Option ℕ)) (own locks : List ℕ) (x y other : ℕ) → x < y → IsOwn own locks (x ∷ y ∷ []) → ((o : ℕ) → times o (own ++ locks) ≡ by (holder_of holders o) thread) → (take_locks thread holders (x ∷ y ∷ [])).found ≡ Some other → Blocks thread (take_locks thread holders (x ∷ y ∷ [])) own (x ∷ y ∷ []) other
blocked_two thread holders own locks x y other less own_is held found =
    let step = take_step thread holders x (y ∷ []) (holder_of holders x) refl in
    subst (λ (l : Locking). Blocks thread l own (x ∷ y ∷ []) other) step (blocked_two_at thread holders own locks x y (holder_of holders x) other refl less own_is held (ap (λ (l : Locking). l.found) step ∙ found))

pub blocked : (n thread : ℕ) (holders : List (Option ℕ)) (own locks wanted : List ℕ) (other : ℕ) → AreRising n wanted → IsOwn own locks wanted → ((o : ℕ) → times o (own ++ locks) ≡ by (holder_of holders o) thread) → (take_locks thread holders wanted).found ≡ Some other → Blocks thread (take_locks thread holders wanted) own wanted other
blocked n thread holders own locks [] other rising own_is held found = absurd (let e : None ≡ Some other = found in cc)
blocked n thread holders own locks (x ∷ []) other rising own_is held found = blocked_one thread holders own locks x other own_is found
blocked n thread holders own locks (x ∷ y ∷ []) other rising own_is held found = blocked_two thread holders own locks x y other rising.0 own_is held found
blocked n thread holders own locks (x ∷ y ∷ z ∷ rest) other rising own_is held found = absurd rising

-- what is in order stands below the number of containers
pub rising_below : (n : ℕ) (wanted : List ℕ) → AreRising n wanted → AreBelow n wanted
rising_below n [] rising = tt
rising_below n (x ∷ []) rising = (rising, tt)
rising_below n (x ∷ y ∷ []) rising = (omega (arith, rising.0, rising.1), (rising.1, tt))
rising_below n (x ∷ y ∷ z ∷ rest) rising = absurd rising
