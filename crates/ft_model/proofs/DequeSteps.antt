-- What one step of a rotation is, that more steps are as many of it, and what every call of a deque keeps.
use Rattle.std.proofs.Common.{◌≡◌, ℕ, suc, zero, ◌+◌, ◌-◌, ◌%◌, ◌<◌, ◌≤◌, List, [], ◌∷◌, ◌++◌, length, take, drop, Option, Some, None, sym, ap, ◌∙◌, inl, inr, arith}
use Rattle.std.specs.Prelude.{slice_get, pos, negsuc}
use Rattle.std.proofs.Math.Nat.{mod_self, mod-eq_of_lt, suc-mod}
use Rattle.std.proofs.lemmas.Bool.{cases_lt}
use Rattle.std.proofs.lemmas.List.{append-nil, drop_all, length-take, length-drop, length-append}
use Rattle.ft_model.specs.declared.data.Value.{Value}
use Rattle.ft_model.specs.Deques.{DequeContent, IsDeque, right_within, left_within, rotated_right, rotated_left, deque_append, deque_append_left, deque_pop, deque_pop_left, deque_rotate, last_item, first_item}
use Rattle.ft_model.proofs.Deques.{turned, turned_all, turned_sum, turned_over, length-turned, right_whole, left_whole, rotate_few, rotate_more, rotate_twice, rotate_twice_few, not_at_all}

-- ---- a step

drop_from : (items : List Value) (place : ℕ) (value : Value) → slice_get items place ≡ Some value → drop place items ≡ value ∷ drop (suc place) items
drop_from [] place value found = let absent : None ≡ Some value = found in cc
drop_from (item ∷ items) zero value found = let same : Some item ≡ Some value = found in cc
drop_from (item ∷ items) (suc place) value found = drop_from items place value found

-- the last item alone
last_alone : (items : List Value) (value : Value) → last_item items ≡ Some value → drop (length items - 1) items ≡ value ∷ []
last_alone items value found =
    drop_from items (length items - 1) value found
    ∙ ap (λ rest. value ∷ rest) (drop_all (suc (length items - 1)) items (omega arith))

-- as many items as the deque has are within its bound
pub as_many : (bound : Option ℕ) (items others : List Value) → length others ≤ length items → IsDeque bound items → IsDeque bound others
as_many None items others few is_deque = record { bounded = tt }
as_many (Some most) items others few is_deque = record { bounded = omega (arith, few, is_deque.bounded) }

some_item : (items : List Value) (place : ℕ) (value : Value) → slice_get items place ≡ Some value → 0 < length items
some_item [] place value found = let absent : None ≡ Some value = found in absurd (cc)
some_item (item ∷ items) place value found = omega arith

pub step_right : (deque : DequeContent) (value : Value) → IsDeque deque.bound deque.items → last_item deque.items ≡ Some value → (deque_rotate deque (pos 1)).items ≡ (deque_append_left (deque_pop deque) value).items
step_right deque value is_deque found =
    let items = deque.items in
    let n = length items in
    let some : 0 < n = some_item items (n - 1) value found in
    let last : drop (n - 1) items ≡ value ∷ [] = last_alone items value found in
    let fewer : length (value ∷ take (n - 1) items) ≤ n = omega (arith, length-take (n - 1) items) in
    let kept : left_within deque.bound (value ∷ take (n - 1) items) ≡ value ∷ take (n - 1) items =
    left_whole deque.bound (value ∷ take (n - 1) items) (as_many deque.bound items (value ∷ take (n - 1) items) fewer is_deque) in
    elim (cases_lt 1 n) [
      | inl more ↦
          let one : 1 % n ≡ 1 = mod-eq_of_lt more in
          ap (λ q. q.items) (rotate_more deque (pos 1) more)
          ∙ ap (λ k. turned (n - k) items) one
          ∙ ap (λ front. front ++ take (n - 1) items) last
          ∙ sym kept
      | inr few ↦
          let none : n - 1 ≡ 0 = omega (arith, few) in
          let alone : items ≡ value ∷ [] = ap (λ k. drop k items) (sym none) ∙ last in
          ap (λ q. q.items) (rotate_few deque (pos 1) few)
          ∙ alone
          ∙ ap (λ k. value ∷ take k items) (sym none)
          ∙ sym kept
    ]

first_alone : (items : List Value) (value : Value) → first_item items ≡ Some value → take 1 items ≡ value ∷ []
first_alone [] value found = let absent : None ≡ Some value = found in absurd (cc)
first_alone (item ∷ items) value found = let same : Some item ≡ Some value = found in cc

pub step_left : (deque : DequeContent) (value : Value) → IsDeque deque.bound deque.items → first_item deque.items ≡ Some value → (deque_rotate deque (negsuc 0)).items ≡ (deque_append (deque_pop_left deque) value).items
step_left deque value is_deque found =
    let items = deque.items in
    let n = length items in
    let some : 0 < n = some_item items 0 value found in
    let first : take 1 items ≡ value ∷ [] = first_alone items value found in
    let fewer : length (drop 1 items ++ value ∷ []) ≤ n =
    omega (arith, length-append (drop 1 items) (value ∷ []), length-drop 1 items) in
    let kept : right_within deque.bound (drop 1 items ++ value ∷ []) ≡ drop 1 items ++ value ∷ [] =
    right_whole deque.bound (drop 1 items ++ value ∷ []) (as_many deque.bound items (drop 1 items ++ value ∷ []) fewer is_deque) in
    elim (cases_lt 1 n) [
      | inl more ↦
          let one : 1 % n ≡ 1 = mod-eq_of_lt more in
          ap (λ q. q.items) (rotate_more deque (negsuc 0) more)
          ∙ ap (λ k. turned k items) one
          ∙ ap (λ end. drop 1 items ++ end) first
          ∙ sym kept
      | inr few ↦
          ap (λ q. q.items) (rotate_few deque (negsuc 0) few)
          ∙ sym (turned_all 1 items few)
          ∙ ap (λ end. drop 1 items ++ end) first
          ∙ sym kept
    ]

-- ---- more steps

-- one more step, within a length
next_mod : (n steps : ℕ) → 0 < n → suc (steps % n) < n → suc steps % n ≡ suc (steps % n)
next_mod n steps some low = suc-mod steps n ∙ mod-eq_of_lt low

round_mod : (n steps : ℕ) → 0 < n → n ≤ suc (steps % n) → suc steps % n ≡ 0
round_mod n steps some all =
    let e : suc (steps % n) ≡ n = omega arith in suc-mod steps n ∙ ap (λ k. k % n) e ∙ mod_self n

more_right : (items : List Value) (steps : ℕ) → 1 < length items → rotated_right items (suc steps) ≡ rotated_right (rotated_right items steps) 1
more_right items steps more =
    let n = length items in
    let k = steps % n in
    let some : 0 < n = omega arith in
    let low : k < n = omega arith in
    let one : 1 % n ≡ 1 = mod-eq_of_lt more in
    let long = length-turned (n - k) items in
    let once : rotated_right (rotated_right items steps) 1 ≡ turned (n - 1) (turned (n - k) items) =
    ap (λ m. turned (m - 1 % m) (turned (n - k) items)) long ∙ ap (λ m. turned (n - m) (turned (n - k) items)) one in
    let over : turned (n - 1) (turned (n - k) items) ≡ turned (n - 1 + (n - k) - n) items =
    turned_over (n - 1) (n - k) items (omega arith) (omega arith) (omega arith) in
    elim (cases_lt (suc k) n) [
      | inl less ↦
          let e : n - suc steps % n ≡ n - 1 + (n - k) - n = omega (arith, next_mod n steps some less) in
          ap (λ m. turned m items) e ∙ sym (once ∙ over)
      | inr all ↦
          let e : n ≤ n - suc steps % n = omega (arith, round_mod n steps some all) in
          let z : n - 1 + (n - k) - n ≡ 0 = omega (arith, all) in
          turned_all (n - suc steps % n) items e ∙ sym (once ∙ over ∙ ap (λ m. turned m items) z ∙ append-nil items)
    ]

more_left : (items : List Value) (steps : ℕ) → 1 < length items → rotated_left items (suc steps) ≡ rotated_left (rotated_left items steps) 1
more_left items steps more =
    let n = length items in
    let k = steps % n in
    let some : 0 < n = omega arith in
    let low : k < n = omega arith in
    let one : 1 % n ≡ 1 = mod-eq_of_lt more in
    let long = length-turned k items in
    let once : rotated_left (rotated_left items steps) 1 ≡ turned 1 (turned k items) =
    ap (λ m. turned (1 % m) (turned k items)) long ∙ ap (λ m. turned m (turned k items)) one in
    let sum : turned 1 (turned k items) ≡ turned (k + 1) items = turned_sum 1 k items (omega arith) in
    elim (cases_lt (suc k) n) [
      | inl less ↦
          let e : suc steps % n ≡ k + 1 = omega (arith, next_mod n steps some less) in
          ap (λ m. turned m items) e ∙ sym (once ∙ sum)
      | inr all ↦
          ap (λ m. turned m items) (round_mod n steps some all) ∙ append-nil items
          ∙ sym (once ∙ sum ∙ turned_all (k + 1) items (omega (arith, all)))
    ]

pub no_step : (deque : DequeContent) → (deque_rotate deque (pos 0)).items ≡ deque.items
no_step deque =
    elim (cases_lt 1 (length deque.items)) [
      | inl more ↦ ap (λ q. q.items) (rotate_more deque (pos 0) more) ∙ not_at_all deque.items
      | inr few ↦ ap (λ q. q.items) (rotate_few deque (pos 0) few)
    ]

pub steps_right : (deque : DequeContent) (steps : ℕ) → (deque_rotate deque (pos (suc steps))).items ≡ (deque_rotate (deque_rotate deque (pos steps)) (pos 1)).items
steps_right deque steps =
    elim (cases_lt 1 (length deque.items)) [
      | inl more ↦
          ap (λ q. q.items) (rotate_more deque (pos (suc steps)) more)
          ∙ more_right deque.items steps more
          ∙ sym (rotate_twice deque (pos steps) (pos 1) more)
      | inr few ↦
          ap (λ q. q.items) (rotate_few deque (pos (suc steps)) few)
          ∙ sym (ap (λ q. q.items) (rotate_twice_few deque (pos steps) (pos 1) few))
    ]

pub steps_left : (deque : DequeContent) (below : ℕ) → (deque_rotate deque (negsuc (suc below))).items ≡ (deque_rotate (deque_rotate deque (negsuc below)) (negsuc 0)).items
steps_left deque below =
    elim (cases_lt 1 (length deque.items)) [
      | inl more ↦
          ap (λ q. q.items) (rotate_more deque (negsuc (suc below)) more)
          ∙ more_left deque.items (suc below) more
          ∙ sym (rotate_twice deque (negsuc below) (negsuc 0) more)
      | inr few ↦
          ap (λ q. q.items) (rotate_few deque (negsuc (suc below)) few)
          ∙ sym (ap (λ q. q.items) (rotate_twice_few deque (negsuc below) (negsuc 0) few))
    ]
