-- Parts of a list, and what of them passes a test.
use Rattle.std.proofs.Common.{◌≡◌, ℕ, ◌+◌, ◌<◌, ◌≤◌, Bool, true, false, List, [], ◌∷◌, ◌++◌, length, take, drop, get_or, refl, sym, ap, ◌∙◌, arith, cond, map, Some}
use Rattle.std.specs.List.{filter, between, list_any, count_by, range_with_len}
use Rattle.std.specs.Prelude.{slice_get}
use Rattle.std.proofs.lemmas.Bool.{false≢true}
use Rattle.std.proofs.lemmas.List.{take_at, drop_at, take-take, get_or-map}
use Rattle.std.proofs.lemmas.List.FromFn.{get_or-range_with_len}
use Rattle.std.proofs.lemmas.List.Sums.{sum_by-cons}
use Rattle.std.proofs.lemmas.Map.Views.{any-filter_same}
use Rattle.std.proofs.lemmas.Slice.{between_is}
use Rattle.ft_history.proofs.HistoryPlaces.{filter_parts, drop_here, slice_get_at}

-- ---- places

module _ {X : Type 0} (p : X → Bool) where
  -- what passes before a place are the first of all that pass
  pub passed_before : (xs : List X) (i : ℕ) → filter p (take i xs) ≡ take (length (filter p (take i xs))) (filter p xs)
  passed_before xs i = sym (ap (take (length (filter p (take i xs)))) (filter_parts p xs i) ∙ take_at (filter p (take i xs)) (filter p (drop i xs)) _ refl)

  parts_before : (xs : List X) (i j : ℕ) → i ≤ j → filter p (take j xs) ≡ filter p (take i xs) ++ filter p (between i j xs)
  parts_before xs i j low =
      filter_parts p (take j xs) i ∙ ap (λ (ys : List X). filter p ys ++ filter p (drop i (take j xs))) (take-take i j xs low)
      ∙ ap (λ (ys : List X). filter p (take i xs) ++ filter p ys) (sym (between_is xs i j))

  -- what passes between two places are those between two places of all that pass
  pub passed_between : (xs : List X) (i j : ℕ) → i ≤ j → filter p (between i j xs) ≡ drop (length (filter p (take i xs))) (take (length (filter p (take j xs))) (filter p xs))
  passed_between xs i j low =
      sym (ap (drop (length (filter p (take i xs)))) (sym (passed_before xs j) ∙ parts_before xs i j low) ∙ drop_at (filter p (take i xs)) (filter p (between i j xs)) _ refl)

  -- where an element that passes stands among those that pass
  pub passed_at : (xs : List X) (i : ℕ) (x : X) → slice_get xs i ≡ Some x → p x ≡ true → slice_get (filter p xs) (length (filter p (take i xs))) ≡ Some x
  passed_at xs i x at passes =
      let front = filter p (take i xs) in
      let rest = filter p (drop (i + 1) xs) in
      let split : filter p xs ≡ front ++ (x ∷ rest) = filter_parts p xs i ∙ ap (λ (ys : List X). front ++ filter p ys) (drop_here xs i x at) ∙ ap (λ b. front ++ cond b (x ∷ rest) rest) passes in
      ap (λ (ys : List X). slice_get ys (length front)) split ∙ slice_get_at front rest x

  -- ---- tests that only what passes can meet

  pub any_passed : (test : X → Bool) → ((x : X) → test x ≡ true → p x ≡ true) → (xs : List X) → list_any test xs ≡ list_any test (filter p xs)
  any_passed test only xs = sym (any-filter_same test p true only xs)

  pub count_passed : (test : X → Bool) → ((x : X) → test x ≡ true → p x ≡ true) → (xs : List X) → count_by test xs ≡ count_by test (filter p xs)
  count_passed test only [] = refl
  count_passed test only (x ∷ xs) =
      let so_far : count_by test xs ≡ count_by test (filter p xs) = count_passed test only xs in
      let one : count_by test (x ∷ xs) ≡ cond {A = ℕ} (test x) 1 0 + count_by test xs = sum_by-cons (λ y. cond (test y) 1 0) x xs in
      let other : count_by test (x ∷ filter p xs) ≡ cond {A = ℕ} (test x) 1 0 + count_by test (filter p xs) = sum_by-cons (λ y. cond (test y) 1 0) x (filter p xs) in
      elim (p x) as (λ b. p x ≡ b → count_by test (x ∷ xs) ≡ count_by test (cond b (x ∷ filter p xs) (filter p xs))) [
        | true ↦ λ _. one ∙ ap (λ n. cond {A = ℕ} (test x) 1 0 + n) so_far ∙ sym other
        | false ↦ λ fails.
            let none : cond {A = ℕ} (test x) 1 0 ≡ 0 = elim (test x) as (λ b. test x ≡ b → cond {A = ℕ} b 1 0 ≡ 0) [ true ↦ λ met. absurd (false≢true (sym fails ∙ only x met)) | false ↦ λ _. refl ] refl in
            omega arith
      ] refl

-- ---- keys that are numbers in a row

pub key_at : {X : Type 0} (key : X → ℕ) (xs : List X) (from : ℕ) → map key xs ≡ range_with_len from (length xs) → (i : ℕ) (d : X) → i < length xs → key (get_or xs i d) ≡ from + i
key_at key xs from keys i d low = sym (get_or-map key xs i d 0 low) ∙ ap (λ (ks : List ℕ). get_or ks i 0) keys ∙ get_or-range_with_len from (length xs) i 0 low
