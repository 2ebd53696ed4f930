-- A list is the lists of its elements of each key in another order.
use Rattle.std.proofs.Common.{◌≡◌, ℕ, zero, suc, ◌+◌, ◌<◌, ◌≤◌, Bool, true, false, not, List, [], ◌∷◌, ◌++◌, get_or, length, map, refl, sym, ap, subst, ◌∙◌, arith, cond, ◌==◌}
use Rattle.std.specs.List.{All, filter, flat_map, range_with_len}
use Rattle.std.specs.List.Sorted.{IsPermutation}
use Rattle.std.specs.Prelude.{nat_lt}
use Rattle.std.proofs.lemmas.Bool.{false≢true}
use Rattle.std.proofs.lemmas.Bool.Decides.{nat_tests}
use Rattle.std.proofs.lemmas.List.{append-nil}
use Rattle.std.proofs.lemmas.List.Concat.{flat_map-append, flat_map-cons}
use Rattle.std.proofs.lemmas.List.Elements.{All-head, All-tail, filter_passes}
use Rattle.std.proofs.lemmas.List.Folds.{flat_map-map}
use Rattle.std.proofs.lemmas.List.FromFn.{fill_by_all}
use Rattle.std.proofs.lemmas.List.Sorted.{IsPermutation-append_left, IsPermutation-filter_both, IsPermutation-refl, IsPermutation-trans}
use Rattle.ft_history.proofs.Unbroken.{range_push}

-- ---- tests one after the other

module _ {X : Type 0} (p q : X → Bool) where
  -- a second test that only what passes the first can meet
  pub filter_twice : ((x : X) → q x ≡ true → p x ≡ true) → (xs : List X) → filter q (filter p xs) ≡ filter q xs
  filter_twice only [] = refl
  filter_twice only (x ∷ xs) =
      elim (p x) as (λ b. p x ≡ b → filter q (cond b (x ∷ filter p xs) (filter p xs)) ≡ cond (q x) (x ∷ filter q xs) (filter q xs)) [
        | true ↦ λ passes. ap (λ (ys : List X). cond (q x) (x ∷ ys) ys) (filter_twice only xs)
        | false ↦ λ fails. elim (q x) as (λ b. q x ≡ b → filter q (filter p xs) ≡ cond b (x ∷ filter q xs) (filter q xs)) [
          | true ↦ λ met. absurd (false≢true (sym fails ∙ only x met))
          | false ↦ λ _. filter_twice only xs
        ] refl
      ] refl

  -- tests that agree at each element of the list
  pub filter_same : (xs : List X) → All (λ x. p x ≡ q x) xs → filter p xs ≡ filter q xs
  filter_same [] same = refl
  filter_same (x ∷ xs) same =
      ap (λ b. cond b (x ∷ filter p xs) (filter p xs)) (All-head (λ y. p y ≡ q y) x xs same)
      ∙ ap (λ (ys : List X). cond (q x) (x ∷ ys) ys) (filter_same xs (All-tail (λ y. p y ≡ q y) x xs same))

pub flat_map_same : {A : Type 0} (f g : ℕ → List A) (from n : ℕ) → ((t : ℕ) → from ≤ t → t < from + n → f t ≡ g t) → flat_map f (range_with_len from n) ≡ flat_map g (range_with_len from n)
flat_map_same f g from zero same = refl
flat_map_same f g from (suc n) same =
    flat_map-cons f from (range_with_len (from + 1) n)
    ∙ (ap (λ ys. ys ++ flat_map f (range_with_len (from + 1) n)) (same from (omega arith) (omega arith))
    ∙ (ap (λ ys. g from ++ ys) (flat_map_same f g (from + 1) n (λ t low high. same t (omega arith) (omega arith)))
    ∙ sym (flat_map-cons g from (range_with_len (from + 1) n))))

-- ---- groups

module _ {X : Type 0} (key : X → ℕ) where
  abbrev of_key : List X → ℕ → List X
  of_key xs t = filter (λ x. key x == t) xs

  pub grouped : (n : ℕ) (xs : List X) → All (λ x. key x < n) xs → IsPermutation xs (flat_map (of_key xs) (range_with_len 0 n))
  grouped zero [] low = IsPermutation-refl []
  grouped zero (x ∷ xs) low = absurd (let e : key x < 0 = All-head (λ y. key y < 0) x xs low in omega arith)
  grouped (suc n) xs low =
      let below : X → Bool = λ x. nat_lt (key x) n in
      let last : X → Bool = λ x. key x == n in
      let fewer = filter below xs in
      let rest : IsPermutation fewer (flat_map (of_key fewer) (range_with_len 0 n)) =
      grouped n fewer (λ k d within. let passes : nat_lt (key (get_or fewer k d)) n ≡ true = filter_passes below xs k d within in grind (arith, nat_tests, passes)) in
      let same : flat_map (of_key fewer) (range_with_len 0 n) ≡ flat_map (of_key xs) (range_with_len 0 n) =
      flat_map_same (of_key fewer) (of_key xs) 0 n (λ t from until. filter_twice below (λ x. key x == t) (λ x met. let under : t < n = omega arith in grind (arith, nat_tests, met, under)) xs) in
      let others : filter (λ x. not (below x)) xs ≡ filter last xs =
      filter_same (λ x. not (below x)) last xs (λ k d within. let high : key (get_or xs k d) < suc n = low k d within in not_below (key (get_or xs k d)) n high) in
      let both : IsPermutation xs (fewer ++ filter last xs) = subst (λ ys. IsPermutation xs (fewer ++ ys)) others (IsPermutation-filter_both below (λ x. not (below x)) (λ x. refl) xs) in
      let joined : flat_map (of_key xs) (range_with_len 0 (suc n)) ≡ flat_map (of_key xs) (range_with_len 0 n) ++ filter last xs =
      ap (flat_map (of_key xs)) (ap (range_with_len 0) (let e : suc n ≡ n + 1 = omega arith in e) ∙ (range_push 0 n ∙ ap (λ k. range_with_len 0 n ++ k ∷ []) (let e : 0 + n ≡ n = omega arith in e)))
      ∙ (flat_map-append (of_key xs) (range_with_len 0 n) (n ∷ []) ∙ ap (λ ys. flat_map (of_key xs) (range_with_len 0 n) ++ ys) (append-nil (filter last xs))) in
      subst (IsPermutation xs) (sym joined)
      (IsPermutation-trans xs (fewer ++ filter last xs) (flat_map (of_key xs) (range_with_len 0 n) ++ filter last xs) both
      (IsPermutation-append_left (filter last xs) fewer (flat_map (of_key xs) (range_with_len 0 n)) (subst (IsPermutation fewer) same rest)))
    where
      not_below : (k n : ℕ) → k < suc n → not (nat_lt k n) ≡ (k == n)
      not_below k n high = grind (arith, nat_tests, high)

  -- so it is lists that have the elements of each key
  pub of_lists : (xs : List X) (lists : List (List X)) → All (λ x. key x < length lists) xs → ((t : ℕ) → t < length lists → of_key xs t ≡ get_or lists t []) → IsPermutation xs (flat_map (λ mine. mine) lists)
  of_lists xs lists low each =
      let n = length lists in
      let are : lists ≡ map (of_key xs) (range_with_len 0 n) = fill_by_all (of_key xs) lists n [] refl (λ k within. sym (each k within)) in
      subst (IsPermutation xs) (sym (ap (flat_map (λ (mine : List X). mine)) are ∙ flat_map-map (λ (mine : List X). mine) (of_key xs) (range_with_len 0 n))) (grouped n xs low)
