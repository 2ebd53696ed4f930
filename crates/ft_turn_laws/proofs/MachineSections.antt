-- The sections of the machine beside those of a pass.
use Rattle.std.proofs.Common.{◌≡◌, ℕ, ◌+◌, List, [], ◌∷◌, ◌++◌, map, reverse, refl, sym, ap, ◌∙◌, arith, inl, inr}
use Rattle.std.specs.Prelude.{◌⊎◌}
use Rattle.std.proofs.lemmas.List.{map_push, reverse-append, reverse-reverse}
use Rattle.ft_bank.specs.declared.sections.OpenSection.{OpenSection}
use Rattle.ft_bank.specs.PassSections.{noted_in, suspended}
use Rattle.ft_turns.specs.Orders.{OpenSection as TurnSection, without_locks}
use Rattle.ft_turns.proofs.LockLemmas.{occ, occ-nil}
use Rattle.ft_turns.proofs.LocksOnce.{flat, occ-flat}
use Rattle.ft_turn_laws.specs.MatchingStacks.{AreAsSections}
use Rattle.ft_turn_laws.proofs.Taking.{times_occ}

-- ---- lists turned round

pub reverse_push : {X : Type 0} (xs : List X) (x : X) → reverse (xs ++ x ∷ []) ≡ x ∷ reverse xs
reverse_push xs x = reverse-append xs (x ∷ [])

pub reverse_cons : {X : Type 0} (x : X) (xs : List X) → reverse (x ∷ xs) ≡ reverse xs ++ x ∷ []
reverse_cons x xs = reverse-append (x ∷ []) xs

pub reverse_map : {X Y : Type 0} (f : X → Y) (xs : List X) → reverse (map f xs) ≡ map f (reverse xs)
reverse_map f [] = refl
reverse_map f (x ∷ xs) =
    reverse_cons (f x) (map f xs)
    ∙ (ap (λ ys. ys ++ f x ∷ []) (reverse_map f xs) ∙ (sym (map_push f (reverse xs) x) ∙ ap (map f) (sym (reverse_cons x xs))))

-- a list is empty, or has a last element
pub last_or_none : {X : Type 0} (xs : List X) → (xs ≡ []) ⊎ ((front : List X) × (last : X) × (xs ≡ front ++ last ∷ []))
last_or_none {X = X} xs =
    elim (reverse xs) as (λ ys. reverse xs ≡ ys → (xs ≡ []) ⊎ ((front : List X) × (last : X) × (xs ≡ front ++ last ∷ []))) [
      | [] ↦ λ none. inl (sym (reverse-reverse xs) ∙ ap reverse none)
      | last ∷ back ↦ λ is. inr (reverse back, last, sym (reverse-reverse xs) ∙ (ap reverse is ∙ reverse_cons last back))
    ] refl

-- ---- counts

pub noted-append : (o : ℕ) (xs ys : List OpenSection) → noted_in o (xs ++ ys) ≡ noted_in o xs + noted_in o ys
noted-append o [] ys = omega arith
noted-append o (x ∷ xs) ys = omega (arith, noted-append o xs ys)

pub noted-reverse : (o : ℕ) (xs : List OpenSection) → noted_in o (reverse xs) ≡ noted_in o xs
noted-reverse o [] = refl
noted-reverse o (x ∷ xs) =
    ap (noted_in o) (reverse_cons x xs) ∙ (noted-append o (reverse xs) (x ∷ []) ∙ (let e = noted-reverse o xs in omega arith))

-- the locks that the sections have taken are those that the pass notes
pub same_locks : (o : ℕ) (sections : List TurnSection) (kept : List OpenSection) → AreAsSections sections kept → occ o (flat sections) ≡ noted_in o kept
same_locks o [] [] same = occ-nil o
same_locks o [] (k ∷ kept) same = absurd same
same_locks o (s ∷ sections) [] same = absurd same
same_locks o (s ∷ sections) (k ∷ kept) same =
    omega (arith, occ-flat o s sections, times_occ o s.taken, same.0.taken o, same_locks o sections kept same.1)

-- ---- all wait

pub all_suspended : (more : ℕ) (sections : List TurnSection) (kept : List OpenSection) → AreAsSections sections kept → AreAsSections (map without_locks sections) (map (suspended more) kept)
all_suspended more [] [] same = tt
all_suspended more [] (k ∷ kept) same = absurd same
all_suspended more (s ∷ sections) [] same = absurd same
all_suspended more (s ∷ sections) (k ∷ kept) same =
    (record { containers = same.0.containers; taken = λ o. refl }, all_suspended more sections kept same.1)
