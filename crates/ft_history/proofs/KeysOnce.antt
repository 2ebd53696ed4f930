-- Lists in which each key of a range stands once.
use Rattle.std.proofs.Common.{◌≡◌, ℕ, zero, suc, ◌+◌, ◌*◌, ◌<◌, ◌≤◌, Bool, true, false, ◌&&◌, List, [], ◌∷◌, length, get_or, refl, sym, ap, ◌∙◌, arith, cond, inl, inr, map, ◌==◌}
use Rattle.std.specs.List.{All, count_by, filter, range_with_len}
use Rattle.std.specs.List.Sorted.{IsNonDecreasingBy}
use Rattle.std.proofs.lemmas.Bool.{cases_eq, eq-eqb, ne_eqb, eqb-false}
use Rattle.std.proofs.lemmas.List.Elements.{All-head, All-tail}
use Rattle.std.proofs.lemmas.List.Sorted.{IsNonDecreasingBy-drop}
use Rattle.std.proofs.lemmas.List.Sums.{sum_by-cons, sum_by-le, get_or-le-sum_by}

module _ {X : Type 0} where
  -- what passes both of two tests
  pub count_both : (p q : X → Bool) (xs : List X) → count_by (λ x. p x && q x) xs ≡ count_by q (filter p xs)
  count_both p q [] = refl
  count_both p q (x ∷ xs) =
      let so_far : count_by (λ y. p y && q y) xs ≡ count_by q (filter p xs) = count_both p q xs in
      let other : count_by q (x ∷ filter p xs) ≡ cond {A = ℕ} (q x) 1 0 + count_by q (filter p xs) = sum_by-cons (λ y. cond (q y) 1 0) x (filter p xs) in
      sum_by-cons (λ y. cond (p y && q y) 1 0) x xs ∙
      elim (p x) as (λ b. cond {A = ℕ} (b && q x) 1 0 + count_by (λ y. p y && q y) xs ≡ count_by q (cond b (x ∷ filter p xs) (filter p xs))) [
        | true ↦ omega arith
        | false ↦ omega arith
      ]

  pub none_counted : (p : X → Bool) (xs : List X) → All (λ x. p x ≡ false) xs → count_by p xs ≡ 0
  none_counted p xs fail =
      let most : count_by p xs ≤ length xs * 0 = sum_by-le (λ x. cond {A = ℕ} (p x) 1 0) 0 xs (λ k d low. let e : cond {A = ℕ} (p (get_or xs k d)) 1 0 ≡ 0 = ap (λ b. cond {A = ℕ} b 1 0) (fail k d low) in omega arith) in
      omega arith

  pub counted_none : (p : X → Bool) (xs : List X) → count_by p xs ≡ 0 → All (λ x. p x ≡ false) xs
  counted_none p xs none k d low =
      let most : cond {A = ℕ} (p (get_or xs k d)) 1 0 ≤ count_by p xs = get_or-le-sum_by (λ x. cond {A = ℕ} (p x) 1 0) xs k d low in
      elim (p (get_or xs k d)) as (λ b. cond {A = ℕ} b 1 0 ≤ count_by p xs → b ≡ false) [
        | true ↦ λ one. absurd (omega arith)
        | false ↦ λ _. refl
      ] most

  -- keys that never fall, each of a range once
  pub keys_in_range : (key : X → ℕ) (xs : List X) (from n : ℕ) → IsNonDecreasingBy key xs → All (λ x. from ≤ key x) xs → All (λ x. key x < from + n) xs
      → ((m : ℕ) → from ≤ m → m < from + n → count_by (λ x. key x == m) xs ≡ 1) → map key xs ≡ range_with_len from n
  keys_in_range key [] from zero rises low high once = refl
  keys_in_range key (x ∷ xs) from zero rises low high once = absurd (omega (arith, All-head (λ y. from ≤ key y) x xs low, All-head (λ y. key y < from + zero) x xs high))
  keys_in_range key [] from (suc n) rises low high once = absurd (let e : 0 ≡ 1 = once from (omega arith) (omega arith) in omega arith)
  keys_in_range key (x ∷ xs) from (suc n) rises low high once =
      let first : count_by (λ y. key y == from) (x ∷ xs) ≡ 1 = once from (omega arith) (omega arith) in
      let parts : (m : ℕ) → count_by (λ y. key y == m) (x ∷ xs) ≡ cond {A = ℕ} (key x == m) 1 0 + count_by (λ y. key y == m) xs = λ m. sum_by-cons (λ y. cond (key y == m) 1 0) x xs in
      elim (cases_eq (key x) from) [
        | inr differ ↦
            let none : count_by (λ y. key y == from) (x ∷ xs) ≡ 0 =
            none_counted (λ y. key y == from) (x ∷ xs) (λ k d within. ne_eqb (key (get_or (x ∷ xs) k d)) from (λ same.
            let up : key x ≤ key (get_or (x ∷ xs) k d) = rises 0 k d (omega arith) within in
            let above : from ≤ key x = All-head (λ y. from ≤ key y) x xs low in
            differ (omega arith))) in
            absurd (omega arith)
        | inl same ↦
            let one : cond {A = ℕ} (key x == from) 1 0 ≡ 1 = ap (λ b. cond {A = ℕ} b 1 0) (eq-eqb (key x) from same) in
            let rest : count_by (λ y. key y == from) xs ≡ 0 = omega (arith, parts from) in
            let higher : All (λ y. from + 1 ≤ key y) xs = λ k d within.
            let above : from ≤ key (get_or xs k d) = All-tail (λ y. from ≤ key y) x xs low k d within in
            let apart : key (get_or xs k d) ≡ from → ⊥ = eqb-false (key (get_or xs k d)) from (counted_none (λ y. key y == from) xs rest k d within) in
            omega arith in
            let below : All (λ y. key y < from + 1 + n) xs = λ k d within. let up : key (get_or xs k d) < from + suc n = All-tail (λ y. key y < from + suc n) x xs high k d within in omega arith in
            let each : (m : ℕ) → from + 1 ≤ m → m < from + 1 + n → count_by (λ y. key y == m) xs ≡ 1 = λ m above under.
            let zero_here : cond {A = ℕ} (key x == m) 1 0 ≡ 0 = ap (λ b. cond {A = ℕ} b 1 0) (ne_eqb (key x) m (λ is. omega arith)) in
            omega (arith, parts m, once m (omega arith) (omega arith)) in
            ap (λ k. k ∷ map key xs) same ∙ ap (λ (ks : List ℕ). from ∷ ks) (keys_in_range key xs (from + 1) n (IsNonDecreasingBy-drop key 1 (x ∷ xs) rises) higher below each)
      ]

  -- keys that are numbers in a row
  pub counted_none_below : (key : X → ℕ) (xs : List X) (from n : ℕ) → map key xs ≡ range_with_len from n → (m : ℕ) → m < from → count_by (λ x. key x == m) xs ≡ 0
  counted_none_below key [] from n keys m low = refl
  counted_none_below key (x ∷ xs) from zero keys m low = absurd (let e : suc (length (map key xs)) ≡ 0 = ap length keys in omega arith)
  counted_none_below key (x ∷ xs) from (suc n) keys m low =
      let first : key x ≡ from = cc in
      let rest : map key xs ≡ range_with_len (from + 1) n = cc in
      let none : cond {A = ℕ} (key x == m) 1 0 ≡ 0 = ap (λ b. cond {A = ℕ} b 1 0) (ne_eqb (key x) m (λ is. omega arith)) in
      omega (arith, sum_by-cons (λ y. cond {A = ℕ} (key y == m) 1 0) x xs, counted_none_below key xs (from + 1) n rest m (omega arith))

  pub counted_once : (key : X → ℕ) (xs : List X) (from n : ℕ) → map key xs ≡ range_with_len from n → (m : ℕ) → from ≤ m → m < from + n → count_by (λ x. key x == m) xs ≡ 1
  counted_once key xs from zero keys m above below = absurd (omega arith)
  counted_once key [] from (suc n) keys m above below = absurd (let e : 0 ≡ suc (length (range_with_len (from + 1) n)) = ap length keys in omega arith)
  counted_once key (x ∷ xs) from (suc n) keys m above below =
      let first : key x ≡ from = cc in
      let rest : map key xs ≡ range_with_len (from + 1) n = cc in
      let parts : count_by (λ y. key y == m) (x ∷ xs) ≡ cond {A = ℕ} (key x == m) 1 0 + count_by (λ y. key y == m) xs = sum_by-cons (λ y. cond (key y == m) 1 0) x xs in
      elim (cases_eq m from) [
        | inl same ↦
            let one : cond {A = ℕ} (key x == m) 1 0 ≡ 1 = ap (λ b. cond {A = ℕ} b 1 0) (eq-eqb (key x) m (first ∙ sym same)) in
            omega (arith, counted_none_below key xs (from + 1) n rest m (omega arith))
        | inr differ ↦
            let none : cond {A = ℕ} (key x == m) 1 0 ≡ 0 = ap (λ b. cond {A = ℕ} b 1 0) (ne_eqb (key x) m (λ is. differ (sym is ∙ first))) in
            omega (arith, counted_once key xs (from + 1) n rest m (let apart : m ≡ from → ⊥ = differ in omega arith) (omega arith))
      ]
