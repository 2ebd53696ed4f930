-- Of two lists with the same elements, what passes a test is the same too.
use Rattle.std.proofs.Common.{◌≡◌, ◌≢◌, ℕ, ◌+◌, ◌-◌, ◌<◌, Bool, true, false, List, [], ◌∷◌, ◌++◌, length, take, drop, get_or, refl, sym, ap, subst, ◌∙◌, arith, cond, inl, inr}
use Rattle.std.specs.List.{filter, swap}
use Rattle.std.specs.List.Sorted.{IsPermutation}
use Rattle.std.proofs.Math.ListN.{set}
use Rattle.std.proofs.lemmas.Bool.{cases_order}
use Rattle.std.proofs.lemmas.List.{append_assoc, set_comm, set_at, set-get_or, get_or_at, take-append-drop, drop_more, drop-drop, get_or-drop, length-take-le, length-drop, length-append}
use Rattle.std.proofs.lemmas.List.Edits.{swap_is}
use Rattle.std.proofs.lemmas.List.Elements.{filter-append}
use Rattle.std.proofs.lemmas.List.Sorted.{IsPermutation-refl, IsPermutation-trans, IsPermutation-append_comm, IsPermutation-append_left, IsPermutation-append_right, IsPermutation-keeps}

-- ---- two elements in each other's place

module _ {X : Type 0} where
  -- a list, cut at two places
  in_parts : (xs : List X) (i j : ℕ) (d : X) → i < j → j < length xs → xs ≡ take i xs ++ (get_or xs i d ∷ (take (j - (i + 1)) (drop (i + 1) xs) ++ (get_or xs j d ∷ drop (j + 1) xs)))
  in_parts xs i j d low high =
      let rest = drop (i + 1) xs in
      let k = j - (i + 1) in
      let within : k < length rest = omega (arith, length-drop (i + 1) xs) in
      let there : get_or rest k d ≡ get_or xs j d = get_or-drop (i + 1) xs k d ∙ ap (λ n. get_or xs n d) (omega arith) in
      let after : drop (k + 1) rest ≡ drop (j + 1) xs = drop-drop (k + 1) (i + 1) xs ∙ ap (λ n. drop n xs) (omega arith) in
      let split : rest ≡ take k rest ++ (get_or xs j d ∷ drop (j + 1) xs) =
      sym (take-append-drop k rest) ∙ ap (λ (ys : List X). take k rest ++ ys) (drop_more rest k d within ∙ ap (λ (y : X). y ∷ drop (k + 1) rest) there ∙ ap (λ (ys : List X). get_or xs j d ∷ ys) after) in
      sym (take-append-drop i xs) ∙ ap (λ (ys : List X). take i xs ++ ys) (drop_more xs i d (omega arith) ∙ ap (λ (ys : List X). get_or xs i d ∷ ys) split)

  swap_parts : (us : List X) (a : X) (vs : List X) (b : X) (ws : List X) (i j : ℕ) → length us ≡ i → i + 1 + length vs ≡ j → swap (us ++ (a ∷ (vs ++ (b ∷ ws)))) i j ≡ us ++ (b ∷ (vs ++ (a ∷ ws)))
  swap_parts us a vs b ws i j at_i at_j =
      let xs = us ++ (a ∷ (vs ++ (b ∷ ws))) in
      let front = us ++ (b ∷ vs) in
      let long : length front ≡ j = omega (arith, length-append us (b ∷ vs)) in
      let before : length (us ++ (a ∷ vs)) ≡ j = omega (arith, length-append us (a ∷ vs)) in
      let cut : (c : X) → us ++ (c ∷ (vs ++ (b ∷ ws))) ≡ (us ++ (c ∷ vs)) ++ (b ∷ ws) = λ c. sym (append_assoc us (c ∷ vs) (b ∷ ws)) in
      let low : i < length xs = omega (arith, length-append us (a ∷ (vs ++ (b ∷ ws)))) in
      let high : j < length xs = omega (arith, length-append us (a ∷ (vs ++ (b ∷ ws))), length-append vs (b ∷ ws)) in
      let at_low : get_or xs i a ≡ a = get_or_at us a (vs ++ (b ∷ ws)) a i at_i in
      let at_high : get_or xs j a ≡ b = ap (λ (zs : List X). get_or zs j a) (cut a) ∙ get_or_at (us ++ (a ∷ vs)) b ws a j before in
      sym (swap_is xs i j a low high) ∙ ap (λ (x : X). set (set xs i x) j (get_or xs i a)) at_high ∙ ap (λ (x : X). set (set xs i b) j x) at_low
      ∙ ap (λ (zs : List X). set zs j a) (set_at us a (vs ++ (b ∷ ws)) b i at_i ∙ cut b)
      ∙ set_at front b ws a j long ∙ append_assoc us (b ∷ vs) (a ∷ ws)

  swap_either_way : (xs : List X) (i j : ℕ) → i ≢ j → i < length xs → j < length xs → swap xs i j ≡ swap xs j i
  swap_either_way [] i j differ low high = refl
  swap_either_way (x ∷ xs) i j differ low high =
      sym (swap_is (x ∷ xs) i j x low high) ∙ set_comm (x ∷ xs) i j (get_or (x ∷ xs) j x) (get_or (x ∷ xs) i x) differ ∙ swap_is (x ∷ xs) j i x high low

  swap_itself : (xs : List X) (i : ℕ) → i < length xs → swap xs i i ≡ xs
  swap_itself [] i low = refl
  swap_itself (x ∷ xs) i low =
      sym (swap_is (x ∷ xs) i i x low low) ∙ ap (λ (zs : List X). set zs i (get_or (x ∷ xs) i x)) (set-get_or (x ∷ xs) i x) ∙ set-get_or (x ∷ xs) i x

-- ---- what passes a test

module _ {X : Type 0} (p : X → Bool) where
  abbrev passed : X → List X
  passed x = cond (p x) (x ∷ []) []

  filter_here : (xs : List X) (x : X) (ys : List X) → filter p (xs ++ (x ∷ ys)) ≡ filter p xs ++ (passed x ++ filter p ys)
  filter_here xs x ys =
      filter-append p xs (x ∷ ys)
      ∙ ap (λ (zs : List X). filter p xs ++ zs) (elim (p x) as (λ b. cond b (x ∷ filter p ys) (filter p ys) ≡ cond b (x ∷ []) [] ++ filter p ys) [ true ↦ refl | false ↦ refl ])

  exchanged : (us vs ws : List X) → IsPermutation (us ++ (vs ++ ws)) (ws ++ (vs ++ us))
  exchanged us vs ws =
      IsPermutation-trans _ (ws ++ (us ++ vs)) _
      (subst (λ (xs : List X). IsPermutation xs (ws ++ (us ++ vs))) (append_assoc us vs ws) (IsPermutation-append_comm (us ++ vs) ws))
      (IsPermutation-append_right ws _ _ (IsPermutation-append_comm us vs))

  filter_exchanged : (us : List X) (a : X) (vs : List X) (b : X) (ws : List X) → IsPermutation (filter p (us ++ (a ∷ (vs ++ (b ∷ ws))))) (filter p (us ++ (b ∷ (vs ++ (a ∷ ws)))))
  filter_exchanged us a vs b ws =
      let parts : (x y : X) → filter p (us ++ (x ∷ (vs ++ (y ∷ ws)))) ≡ filter p us ++ ((passed x ++ (filter p vs ++ passed y)) ++ filter p ws) = λ x y.
      filter_here us x (vs ++ (y ∷ ws))
      ∙ ap (λ (zs : List X). filter p us ++ (passed x ++ zs)) (filter_here vs y ws ∙ sym (append_assoc (filter p vs) (passed y) (filter p ws)))
      ∙ ap (λ (zs : List X). filter p us ++ zs) (sym (append_assoc (passed x) (filter p vs ++ passed y) (filter p ws))) in
      subst (IsPermutation (filter p (us ++ (a ∷ (vs ++ (b ∷ ws)))))) (sym (parts b a))
      (subst (λ (zs : List X). IsPermutation zs (filter p us ++ ((passed b ++ (filter p vs ++ passed a)) ++ filter p ws))) (sym (parts a b))
      (IsPermutation-append_right (filter p us) _ _ (IsPermutation-append_left (filter p ws) _ _ (exchanged (passed a) (filter p vs) (passed b)))))

  filter_swapped_up : (xs : List X) (i j : ℕ) → i < j → j < length xs → IsPermutation (filter p xs) (filter p (swap xs i j))
  filter_swapped_up [] i j low high = absurd (omega arith)
  filter_swapped_up (x ∷ xs) i j low high =
      let us = take i (x ∷ xs) in
      let vs = take (j - (i + 1)) (drop (i + 1) (x ∷ xs)) in
      let ws = drop (j + 1) (x ∷ xs) in
      let a = get_or (x ∷ xs) i x in
      let b = get_or (x ∷ xs) j x in
      let parts : x ∷ xs ≡ us ++ (a ∷ (vs ++ (b ∷ ws))) = in_parts (x ∷ xs) i j x low high in
      let at_i : length us ≡ i = length-take-le i (x ∷ xs) (omega arith) in
      let at_j : i + 1 + length vs ≡ j = omega (arith, length-take-le (j - (i + 1)) (drop (i + 1) (x ∷ xs)) (omega (arith, length-drop (i + 1) (x ∷ xs)))) in
      let swapped : swap (x ∷ xs) i j ≡ us ++ (b ∷ (vs ++ (a ∷ ws))) = ap (λ (zs : List X). swap zs i j) parts ∙ swap_parts us a vs b ws i j at_i at_j in
      subst (λ (zs : List X). IsPermutation (filter p (x ∷ xs)) (filter p zs)) (sym swapped)
      (subst (λ (zs : List X). IsPermutation (filter p zs) (filter p (us ++ (b ∷ (vs ++ (a ∷ ws)))))) (sym parts) (filter_exchanged us a vs b ws))

  filter_swapped : (xs : List X) (i j : ℕ) → i < length xs → j < length xs → IsPermutation (filter p xs) (filter p (swap xs i j))
  filter_swapped xs i j low high =
      elim (cases_order i j) [
        | inl same ↦ subst (λ (zs : List X). IsPermutation (filter p xs) (filter p zs)) (sym (ap (swap xs i) (sym same) ∙ swap_itself xs i low)) (IsPermutation-refl (filter p xs))
        | inr differ ↦ elim differ [
          | inl up ↦ filter_swapped_up xs i j up high
          | inr down ↦ subst (λ (zs : List X). IsPermutation (filter p xs) (filter p zs)) (swap_either_way xs j i (omega arith) high low) (filter_swapped_up xs j i down low)
        ]
      ]

  pub IsPermutation-filter : (xs ys : List X) → IsPermutation xs ys → IsPermutation (filter p xs) (filter p ys)
  IsPermutation-filter xs ys moved = IsPermutation-keeps xs (λ zs. IsPermutation (filter p xs) (filter p zs)) (IsPermutation-refl (filter p xs)) (λ zs i j low high so_far. IsPermutation-trans _ _ _ so_far (filter_swapped zs i j low high)) ys moved
