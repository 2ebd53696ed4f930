-- What taking locks and letting them go does to who has them.
use Rattle.std.proofs.Common.{◌≡◌, ◌≢◌, ℕ, ◌+◌, ◌<◌, ◌≤◌, Bool, true, false, List, [], ◌∷◌, ◌++◌, length, Option, None, Some, refl, sym, ap, subst, ◌∙◌, arith, cond, eqb, inl, inr}
use Rattle.std.specs.Prelude.{slice_set, ◌⊎◌, ◌||◌, is_none, if◌then◌else◌, nat_lt}
use Rattle.std.specs.List.{list_any}
use Rattle.std.specs.Option.{unwrap_or}
use Rattle.std.proofs.lemmas.Bool.{eqb-true, eqb-false, eq-eqb, ne_eqb, cases_eq, cases_lt}
use Rattle.std.proofs.lemmas.Option.{none-some, same_Some}
use Rattle.std.proofs.lemmas.List.{length-set, get_or-set_same, get_or-set_other, get_or_past}
use Rattle.ft_turns.specs.Orders.{Locking, holder_of, also_taken, take_locks, let_go, lower_first}

-- ---- how often a number stands in a list

pub occ : ℕ → List ℕ → ℕ
occ container [] = 0
occ container (x ∷ xs) = cond (eqb x container) 1 0 + occ container xs

pub occ-append : (container : ℕ) (xs ys : List ℕ) → occ container (xs ++ ys) ≡ occ container xs + occ container ys
unfolding occ
occ-append container [] ys = omega arith
occ-append container (x ∷ xs) ys = omega (arith, occ-append container xs ys)

pub occ-nil : (container : ℕ) → occ container [] ≡ 0
unfolding occ
occ-nil container = refl

pub occ-cons : (container x : ℕ) (xs : List ℕ) → occ container (x ∷ xs) ≡ cond (eqb x container) 1 0 + occ container xs
unfolding occ
occ-cons container x xs = refl

pub occ_here : (x : ℕ) (xs : List ℕ) → 1 ≤ occ x (x ∷ xs)
occ_here x xs = rw (occ-cons x x xs, eq-eqb x x refl) (omega arith)

-- what holds of each of them
pub occ_any : (p : ℕ → Bool) (xs : List ℕ) → ((container : ℕ) → 1 ≤ occ container xs → p container ≡ false) → list_any p xs ≡ false
occ_any p [] h = refl
occ_any p (x ∷ xs) h = rw (h x (occ_here x xs)) (occ_any p xs (λ container there. h container (omega (arith, occ-cons container x xs))))

pub named_occ : (container : ℕ) (xs : List ℕ) → list_any (λ x. eqb x container) xs ≡ true → 1 ≤ occ container xs
named_occ container [] h = absurd cc
named_occ container (x ∷ xs) h =
    elim (eqb x container) as (λ b. eqb x container ≡ b → (b || list_any (λ y. eqb y container) xs) ≡ true → 1 ≤ occ container (x ∷ xs)) [
      | true ↦ λ same _. rw (occ-cons container x xs, same) (omega arith)
      | false ↦ λ differs rest. omega (arith, occ-cons container x xs, named_occ container xs rest)
    ] refl h

pub occ_named : (container : ℕ) (xs : List ℕ) → 1 ≤ occ container xs → list_any (λ x. eqb x container) xs ≡ true
occ_named container [] h = absurd (omega (arith, occ-nil container))
occ_named container (x ∷ xs) h =
    elim (eqb x container) as (λ b. eqb x container ≡ b → (b || list_any (λ y. eqb y container) xs) ≡ true) [
      | true ↦ λ same. refl
      | false ↦ λ differs. occ_named container xs (let e : occ container (x ∷ xs) ≡ 0 + occ container xs = rw (occ-cons container x xs, differs) refl in omega arith)
    ] refl

pub occ-lower_first : (container : ℕ) (xs : List ℕ) → occ container (lower_first xs) ≡ occ container xs
occ-lower_first container [] = refl
occ-lower_first container (a ∷ []) = refl
occ-lower_first container (a ∷ b ∷ []) =
    elim (nat_lt b a) as (λ t. occ container (cond t (b ∷ a ∷ []) (a ∷ b ∷ [])) ≡ occ container (a ∷ b ∷ [])) [
      | true ↦ omega (arith, occ-cons container a (b ∷ []), occ-cons container b [], occ-cons container b (a ∷ []), occ-cons container a [], occ-nil container)
      | false ↦ refl
    ]
occ-lower_first container (a ∷ b ∷ c ∷ rest) = refl

-- ---- who has a lock

-- 1 where the thread has the lock, else 0
pub bit_of : ℕ → Option ℕ → ℕ
bit_of thread None = 0
bit_of thread (Some who) = cond (eqb who thread) 1 0

abbrev pub held : List (Option ℕ) → ℕ → ℕ → ℕ
held holders thread container = bit_of thread (holder_of holders container)

pub bit_none : (thread : ℕ) → bit_of thread None ≡ 0
unfolding bit_of
bit_none thread = refl

pub bit_same : (thread : ℕ) → bit_of thread (Some thread) ≡ 1
unfolding bit_of
bit_same thread = rw (eq-eqb thread thread refl) refl

pub bit_other : (thread who : ℕ) → who ≢ thread → bit_of thread (Some who) ≡ 0
unfolding bit_of
bit_other thread who other = rw (ne_eqb who thread other) refl

pub bit_most : (thread : ℕ) (holder : Option ℕ) → bit_of thread holder ≤ 1
unfolding bit_of
bit_most thread None = omega arith
bit_most thread (Some who) = elim (eqb who thread) as (λ b. cond b 1 0 ≤ 1) [ true ↦ omega arith | false ↦ omega arith ]

-- one thread has it at most
pub bit_one : (thread other : ℕ) (holder : Option ℕ) → thread ≢ other → bit_of thread holder + bit_of other holder ≤ 1
bit_one thread other None differ = omega (arith, bit_none thread, bit_none other)
bit_one thread other (Some who) differ =
    elim (cases_eq who thread) [
      | inl same ↦ let none : bit_of other (Some who) ≡ 0 = bit_other other who (λ e. differ (sym same ∙ e)) in omega (arith, bit_most thread (Some who))
      | inr differs ↦ omega (arith, bit_other thread who differs, bit_most other (Some who))
    ]

pub bit_is : (thread : ℕ) (holder : Option ℕ) → 1 ≤ bit_of thread holder → holder ≡ Some thread
bit_is thread None h = absurd (omega (arith, bit_none thread))
bit_is thread (Some who) h =
    elim (cases_eq who thread) [
      | inl same ↦ ap Some same
      | inr differs ↦ absurd (omega (arith, bit_other thread who differs))
    ]

-- ---- letting go

pub let_go-length : (holders : List (Option ℕ)) (containers : List ℕ) → length (let_go holders containers) ≡ length holders
let_go-length holders [] = refl
let_go-length holders (container ∷ containers) = let_go-length (slice_set holders container None) containers ∙ length-set holders container None

set_none : (holders : List (Option ℕ)) (x container : ℕ) → container < length holders → (x ≡ container × (holder_of (slice_set holders x None) container ≡ None)) ⊎ ((x ≢ container) × (holder_of (slice_set holders x None) container ≡ holder_of holders container))
set_none holders x container low =
    elim (cases_eq x container) [
      | inl same ↦ inl (same, rw same (get_or-set_same holders container None None low))
      | inr differs ↦ inr (differs, get_or-set_other holders x container None None (λ e. differs (sym e)))
    ]

occ_same : (container x : ℕ) (xs : List ℕ) → x ≡ container → occ container (x ∷ xs) ≡ 1 + occ container xs
occ_same container x xs same = rw (occ-cons container x xs, eq-eqb x container same) refl

occ_other : (container x : ℕ) (xs : List ℕ) → x ≢ container → occ container (x ∷ xs) ≡ occ container xs
occ_other container x xs differs = let e : occ container (x ∷ xs) ≡ 0 + occ container xs = rw (occ-cons container x xs, ne_eqb x container differs) refl in omega arith

-- these locks were let go, and the others are as they were
abbrev pub WentAt : List (Option ℕ) → List ℕ → ℕ → List (Option ℕ) → Type 0
WentAt holders containers container left = ((occ container containers ≡ 0) × (holder_of left container ≡ holder_of holders container)) ⊎ ((1 ≤ occ container containers) × (holder_of left container ≡ None))

pub let_go_at : (holders : List (Option ℕ)) (containers : List ℕ) (container : ℕ) → container < length holders → WentAt holders containers container (let_go holders containers)
let_go_at holders [] container low = inl (occ-nil container, refl)
let_go_at holders (x ∷ containers) container low =
    elim (let_go_at (slice_set holders x None) containers container (omega (arith, length-set holders x None))) [
      | inr gone ↦ inr (omega (arith, gone.0, occ-cons container x containers), gone.1)
      | inl kept ↦ elim (set_none holders x container low) [
        | inl same ↦ inr (omega (arith, occ_same container x containers same.0), kept.1 ∙ same.1)
        | inr differs ↦ inl (occ_other container x containers differs.0 ∙ kept.0, kept.1 ∙ differs.1)
      ]
    ]

-- nobody gets a lock by it
pub let_go_less : (holders : List (Option ℕ)) (containers : List ℕ) (container who : ℕ) → holder_of (let_go holders containers) container ≡ Some who → holder_of holders container ≡ Some who
let_go_less holders containers container who has =
    elim (cases_lt container (length holders)) [
      | inl low ↦ elim (let_go_at holders containers container low) [
        | inl kept ↦ sym kept.1 ∙ has
        | inr gone ↦ absurd (none-some who (sym gone.1 ∙ has))
      ]
      | inr high ↦ absurd (none-some who (sym (get_or_past (let_go holders containers) container None (omega (arith, let_go-length holders containers))) ∙ has))
    ]

-- ---- taking

-- a lock was taken, and had been nobody's; or it is as it was
abbrev pub TookAt : ℕ → List (Option ℕ) → ℕ → Locking → Type 0
TookAt thread holders container locking = ((occ container locking.taken ≡ 0) × (holder_of locking.holders container ≡ holder_of holders container)) ⊎ ((occ container locking.taken ≡ 1) × (holder_of holders container ≡ None) × (holder_of locking.holders container ≡ Some thread))

nobody : (holder : Option ℕ) → is_none holder ≡ true → holder ≡ None
nobody None h = refl
nobody (Some who) h = absurd cc

somebody : (holder : Option ℕ) → is_none holder ≡ false → holder ≡ Some (unwrap_or holder 0)
somebody None h = absurd cc
somebody (Some who) h = refl

-- by the three cases of the next lock
module _ (thread : ℕ) (holders : List (Option ℕ)) (x : ℕ) (containers : List ℕ) (P : Locking → Type 0)
    (free : holder_of holders x ≡ None → P (also_taken x (take_locks thread (slice_set holders x (Some thread)) containers)))
    (own : holder_of holders x ≡ Some thread → P (take_locks thread holders containers))
    (other : (who : ℕ) → who ≢ thread → holder_of holders x ≡ Some who → P (record { holders = holders; taken = []; found = Some who })) where
  pub by_lock : P (take_locks thread holders (x ∷ containers))
  by_lock =
      let held_by = holder_of holders x in
      elim (is_none held_by) as (λ b. is_none held_by ≡ b → P (if b then also_taken x (take_locks thread (slice_set holders x (Some thread)) containers) else (if eqb (unwrap_or held_by 0) thread then take_locks thread holders containers else record { holders = holders; taken = []; found = held_by }))) [
        | true ↦ λ none. free (nobody held_by none)
        | false ↦ λ some.
            let is : held_by ≡ Some (unwrap_or held_by 0) = somebody held_by some in
            elim (eqb (unwrap_or held_by 0) thread) as (λ b. eqb (unwrap_or held_by 0) thread ≡ b → P (if b then take_locks thread holders containers else record { holders = holders; taken = []; found = held_by })) [
              | true ↦ λ same. own (is ∙ ap Some (eqb-true _ _ same))
              | false ↦ λ differs. subst (λ (found : Option ℕ). P (record { holders = holders; taken = []; found = found })) (sym is) (other (unwrap_or held_by 0) (eqb-false _ _ differs) is)
            ] refl
      ] refl

set_some : (holders : List (Option ℕ)) (x container thread : ℕ) → container < length holders → ((x ≡ container) × (holder_of (slice_set holders x (Some thread)) container ≡ Some thread)) ⊎ ((x ≢ container) × (holder_of (slice_set holders x (Some thread)) container ≡ holder_of holders container))
set_some holders x container thread low =
    elim (cases_eq x container) [
      | inl same ↦ inl (same, rw same (get_or-set_same holders container (Some thread) None low))
      | inr differs ↦ inr (differs, get_or-set_other holders x container (Some thread) None (λ e. differs (sym e)))
    ]

pub take_at : (thread : ℕ) (holders : List (Option ℕ)) (containers : List ℕ) (container : ℕ) → container < length holders → TookAt thread holders container (take_locks thread holders containers)
take_at thread holders [] container low = inl (occ-nil container, refl)
take_at thread holders (x ∷ containers) container low =
    by_lock thread holders x containers (TookAt thread holders container)
    (λ free. elim (set_some holders x container thread low) [
      | inl same ↦ elim (take_at thread (slice_set holders x (Some thread)) containers container (omega (arith, length-set holders x (Some thread)))) [
        | inl kept ↦ inr (omega (arith, occ_same container x (take_locks thread (slice_set holders x (Some thread)) containers).taken same.0, kept.0), ap (holder_of holders) (sym same.0) ∙ free, kept.1 ∙ same.1)
        | inr took ↦ absurd (none-some thread (sym took.1 ∙ same.1))
      ]
      | inr differs ↦ elim (take_at thread (slice_set holders x (Some thread)) containers container (omega (arith, length-set holders x (Some thread)))) [
        | inl kept ↦ inl (occ_other container x _ differs.0 ∙ kept.0, kept.1 ∙ differs.1)
        | inr took ↦ inr (occ_other container x _ differs.0 ∙ took.0, sym differs.1 ∙ took.1, took.2)
      ]
    ])
    (λ own. take_at thread holders containers container low)
    (λ who other is. inl (occ-nil container, refl))

pub take_length : (thread : ℕ) (holders : List (Option ℕ)) (containers : List ℕ) → length (take_locks thread holders containers).holders ≡ length holders
take_length thread holders [] = refl
take_length thread holders (x ∷ containers) =
    by_lock thread holders x containers (λ r. length r.holders ≡ length holders)
    (λ free. take_length thread (slice_set holders x (Some thread)) containers ∙ length-set holders x (Some thread))
    (λ own. take_length thread holders containers)
    (λ who other is. refl)

-- where nobody was found, the thread has all of them
pub take_all : (thread : ℕ) (holders : List (Option ℕ)) (containers : List ℕ) (container : ℕ) → container < length holders → (take_locks thread holders containers).found ≡ None → 1 ≤ occ container containers → holder_of (take_locks thread holders containers).holders container ≡ Some thread
take_all thread holders [] container low = λ found there. absurd (omega (arith, occ-nil container))
take_all thread holders (x ∷ containers) container low =
    by_lock thread holders x containers (λ r. r.found ≡ None → 1 ≤ occ container (x ∷ containers) → holder_of r.holders container ≡ Some thread)
    (λ free found there.
    let set_holders = slice_set holders x (Some thread) in
    let low_set : container < length set_holders = omega (arith, length-set holders x (Some thread)) in
    elim (set_some holders x container thread low) [
      | inl same ↦ elim (take_at thread set_holders containers container low_set) [
        | inl kept ↦ kept.1 ∙ same.1
        | inr took ↦ took.2
      ]
      | inr differs ↦ take_all thread set_holders containers container low_set found (omega (arith, occ_other container x containers differs.0))
    ])
    (λ own found there. elim (cases_eq x container) [
      | inl same ↦ elim (take_at thread holders containers container low) [
        | inl kept ↦ kept.1 ∙ ap (holder_of holders) (sym same) ∙ own
        | inr took ↦ took.2
      ]
      | inr differs ↦ take_all thread holders containers container low found (omega (arith, occ_other container x containers differs))
    ])
    (λ who other is found there. absurd (none-some who (sym found)))

-- where somebody was found, it is another thread, and has one of them
pub take_found : (thread : ℕ) (holders : List (Option ℕ)) (containers : List ℕ) (who : ℕ) → (take_locks thread holders containers).found ≡ Some who → (who ≢ thread) × ((container : ℕ) × (1 ≤ occ container containers) × (holder_of holders container ≡ Some who))
take_found thread holders [] who = λ found. absurd (none-some who found)
take_found thread holders (x ∷ containers) who =
    by_lock thread holders x containers (λ r. r.found ≡ Some who → (who ≢ thread) × ((container : ℕ) × (1 ≤ occ container (x ∷ containers)) × (holder_of holders container ≡ Some who)))
    (λ free found.
    let rest = take_found thread (slice_set holders x (Some thread)) containers who found in
    let container = rest.1.0 in
    let more : 1 ≤ occ container (x ∷ containers) = omega (arith, occ-cons container x containers, rest.1.1) in (
      rest.0,
      (
        container,
        more,
        elim (cases_lt container (length holders)) [
          | inl low ↦ elim (set_some holders x container thread low) [
            | inl same ↦ absurd (rest.0 (same_Some who thread (sym rest.1.2 ∙ same.1)))
            | inr differs ↦ sym differs.1 ∙ rest.1.2
          ]
          | inr high ↦ absurd (none-some who (sym (get_or_past (slice_set holders x (Some thread)) container None (omega (arith, length-set holders x (Some thread)))) ∙ rest.1.2))
        ],
      ),
    ))
    (λ own found.
    let rest = take_found thread holders containers who found in
    (rest.0, (rest.1.0, omega (arith, occ-cons rest.1.0 x containers, rest.1.1), rest.1.2)))
    (λ other differs is found.
    let same : other ≡ who = same_Some other who found in
    (λ e. differs (same ∙ e), (x, occ_here x containers, is ∙ found)))

-- a thread that has them all finds nobody
pub take_own : (thread : ℕ) (holders : List (Option ℕ)) (containers : List ℕ) → ((container : ℕ) → 1 ≤ occ container containers → holder_of holders container ≡ Some thread) → (take_locks thread holders containers).found ≡ None
take_own thread holders [] all = refl
take_own thread holders (x ∷ containers) all =
    by_lock thread holders x containers (λ r. r.found ≡ None)
    (λ free. absurd (none-some thread (sym free ∙ all x (occ_here x containers))))
    (λ own. take_own thread holders containers (λ container there. all container (omega (arith, occ-cons container x containers))))
    (λ who other is. absurd (other (same_Some who thread (sym is ∙ all x (occ_here x containers)))))

-- nobody but the thread gets a lock by it, and that one of these
pub take_less : (thread : ℕ) (holders : List (Option ℕ)) (containers : List ℕ) (container who : ℕ) → holder_of (take_locks thread holders containers).holders container ≡ Some who → (holder_of holders container ≡ Some who) ⊎ ((who ≡ thread) × (1 ≤ occ container containers))
take_less thread holders [] container who = λ has. inl has
take_less thread holders (x ∷ containers) container who =
    by_lock thread holders x containers (λ r. holder_of r.holders container ≡ Some who → (holder_of holders container ≡ Some who) ⊎ ((who ≡ thread) × (1 ≤ occ container (x ∷ containers))))
    (λ free has. elim (take_less thread (slice_set holders x (Some thread)) containers container who has) [
      | inl before ↦ elim (cases_lt container (length holders)) [
        | inl low ↦ elim (set_some holders x container thread low) [
          | inl same ↦ inr (same_Some who thread (sym before ∙ same.1), omega (arith, occ_same container x containers same.0))
          | inr differs ↦ inl (sym differs.1 ∙ before)
        ]
        | inr high ↦ absurd (none-some who (sym (get_or_past (slice_set holders x (Some thread)) container None (omega (arith, length-set holders x (Some thread)))) ∙ before))
      ]
      | inr own ↦ inr (own.0, omega (arith, occ-cons container x containers, own.1))
    ])
    (λ own has. elim (take_less thread holders containers container who has) [
      | inl before ↦ inl before
      | inr mine ↦ inr (mine.0, omega (arith, occ-cons container x containers, mine.1))
    ])
    (λ other differs is has. inl has)
