-- Turns after which nothing is left.
use Rattle.std.proofs.Common.{◌≡◌, ℕ, zero, suc, ◌+◌, ◌<◌, ◌≤◌, List, [], ◌∷◌, length, get_or, map, sum, None, Some, sym, ap, ◌∙◌, arith, ⊎_elim}
use Rattle.std.specs.Prelude.{slice_get}
use Rattle.std.specs.Option.{option_map_or}
use Rattle.std.proofs.lemmas.List.{get_or-map, map-id}
use Rattle.std.proofs.lemmas.List.Sums.{sum-map, sum_by-cons}
use Rattle.std.proofs.lemmas.Option.{slice_get_cases}
use Rattle.ft_model.specs.declared.script.Thread.{Thread}
use Rattle.ft_model.specs.declared.script.ScriptParts.{ScriptParts}
use Rattle.ft_model.specs.Histories.{calls_of}

-- ---- sums

sum_cons : (x : ℕ) (xs : List ℕ) → sum (x ∷ xs) ≡ x + sum xs
sum_cons x xs =
    let whole : sum (x ∷ map (λ (n : ℕ). n) xs) ≡ x + sum (map (λ (n : ℕ). n) xs) = sum-map (λ n. n) (x ∷ xs) ∙ (sum_by-cons (λ n. n) x xs ∙ ap (λ k. x + k) (sym (sum-map (λ n. n) xs))) in
    rw map-id at whole

pub below_sum : (xs ys : List ℕ) → length xs ≡ length ys → ((i : ℕ) → i < length xs → get_or xs i 0 ≤ get_or ys i 0) → sum xs ≤ sum ys
below_sum [] [] same below = omega arith
below_sum [] (y ∷ ys) same below = absurd (let e : 0 ≡ suc (length ys) = same in omega (arith, e))
below_sum (x ∷ xs) [] same below = absurd (let e : suc (length xs) ≡ 0 = same in omega (arith, e))
below_sum (x ∷ xs) (y ∷ ys) same below =
    let tail : length xs ≡ length ys = let e : suc (length xs) ≡ suc (length ys) = same in omega (arith, e) in
    let rest : sum xs ≤ sum ys = below_sum xs ys tail (λ i within. below (suc i) (omega (arith, within))) in
    let first : x ≤ y = below 0 (omega arith) in
    omega (arith, rest, first, sum_cons x xs, sum_cons y ys)

-- where no part is greater and the sums are the same, the parts are
at_place : (x y : ℕ) (xs ys : List ℕ) → x ≡ y → ((k : ℕ) → k < length xs → get_or xs k 0 ≡ get_or ys k 0) → (i : ℕ) → i < length (x ∷ xs) → get_or (x ∷ xs) i 0 ≡ get_or (y ∷ ys) i 0
at_place x y xs ys first rest zero within = first
at_place x y xs ys first rest (suc k) within = rest k (omega (arith, within))

pub same_parts : (xs ys : List ℕ) → length xs ≡ length ys → ((i : ℕ) → i < length xs → get_or xs i 0 ≤ get_or ys i 0) → sum xs ≡ sum ys → (i : ℕ) → i < length xs → get_or xs i 0 ≡ get_or ys i 0
same_parts [] ys same below sums i within = absurd (omega (arith, within))
same_parts (x ∷ xs) [] same below sums i within = absurd (let e : suc (length xs) ≡ 0 = same in omega (arith, e))
same_parts (x ∷ xs) (y ∷ ys) same below sums i within =
    let tail : length xs ≡ length ys = let e : suc (length xs) ≡ suc (length ys) = same in omega (arith, e) in
    let rests : (k : ℕ) → k < length xs → get_or xs k 0 ≤ get_or ys k 0 = λ k in_tail. below (suc k) (omega (arith, in_tail)) in
    let rest : sum xs ≤ sum ys = below_sum xs ys tail rests in
    let first : x ≤ y = below 0 (omega arith) in
    let all : x + sum xs ≡ y + sum ys = sym (sum_cons x xs) ∙ (sums ∙ sum_cons y ys) in
    at_place x y xs ys (omega (arith, rest, first, all)) (same_parts xs ys tail rests (omega (arith, rest, first, all))) i within

-- ---- threads that have finished

-- a thread of the script, by its place
pub calls_at : (script : ScriptParts) (k : ℕ) → k < length script.threads → length (calls_of script k) ≡ get_or (map (λ (t : Thread). length t.calls) script.threads) k 0
calls_at script k within =
    ⊎_elim
    (λ (found : (t : Thread) × (k < length script.threads) × (slice_get script.threads k ≡ Some t) × (get_or script.threads k t ≡ t)).
    let one : length (calls_of script k) ≡ length found.0.calls = ap (λ o. length (option_map_or (λ (t : Thread). t.calls) o [])) found.2 in
    one ∙ sym (get_or-map (λ (t : Thread). length t.calls) script.threads k found.0 0 within ∙ ap (λ (t : Thread). length t.calls) found.3))
    (λ (past : (length script.threads ≤ k) × (slice_get script.threads k ≡ None)). absurd (omega (arith, past.0, within)))
    (slice_get_cases script.threads k).1
