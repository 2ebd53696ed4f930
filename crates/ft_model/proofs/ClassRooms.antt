-- A new table of the class that is taken has room for what it is taken for, up to the cap.
use Rattle.std.proofs.Common.{◌≡◌, ℕ, suc, zero, ◌+◌, ◌-◌, ◌*◌, ◌^◌, ◌≤◌, Bool, true, false, List, [], ◌∷◌, length, get_or, refl, sym, subst, arith, inl, inr}
use Rattle.std.specs.Prelude.{All, ◌⊎◌, nat_le}
use Rattle.std.specs.Option.{unwrap_or}
use Rattle.std.specs.List.{find, range_with_len}
use Rattle.std.proofs.Math.Nat.{pow-le-pow_right}
use Rattle.std.proofs.lemmas.Bool.{leb-true}
use Rattle.std.proofs.lemmas.List.FromFn.{get_or-range_with_len, length-range_with_len}
use Rattle.ft_model.specs.Classes.{least_class, greatest_class, IsClass, dict_entries, set_entries, list_items, most_pairs, most_elements, most_items, class_for, dict_class, set_class, list_class}

found_or : (P : ℕ → Type 0) (test : ℕ → Bool) (default : ℕ) (xs : List ℕ) → All (λ x. test x ≡ true → P x) xs → P default → P (unwrap_or (find test xs) default)
found_or P test default [] each last = last
found_or P test default (x ∷ xs) each last =
    elim (test x) as (λ b. test x ≡ b → P (unwrap_or (find test (x ∷ xs)) default)) [
      | true ↦ λ yes. simp yes (each zero x (omega arith) yes)
      | false ↦ λ no. simp no (found_or P test default xs (λ k d low. each (suc k) d (omega arith)) last)
    ] refl

-- it has the slots that are asked for, or it is the greatest
abbrev HasSlots : ℕ → ℕ → Type 0
HasSlots slots class = IsClass class × ((slots ≤ 2 ^ class) ⊎ (class ≡ 16))

has_slots : (slots : ℕ) → HasSlots slots (class_for slots)
has_slots slots =
    found_or (HasSlots slots) (λ class. nat_le slots (2 ^ class)) greatest_class (range_with_len least_class (greatest_class - least_class))
    (λ k d low.
    let count : length (range_with_len 3 13) ≡ 13 = length-range_with_len 3 13 in
    let at : get_or (range_with_len 3 13) k d ≡ 3 + k = get_or-range_with_len 3 13 k d (omega arith) in
    λ enough. (record { least = omega arith; greatest = omega arith }, inl (leb-true slots (2 ^ get_or (range_with_len 3 13) k d) enough)))
    (record { least = omega arith; greatest = omega arith }, inr refl)

-- there are 8 slots at least, and 65536 at most
pub least_slots : (class : ℕ) → IsClass class → 8 ≤ 2 ^ class
least_slots class is = pow-le-pow_right {n = 2} (omega arith) {i = 3} {j = class} is.least

pub most_slots : (class : ℕ) → IsClass class → 2 ^ class ≤ 65536
most_slots class is = pow-le-pow_right {n = 2} (omega arith) {i = class} {j = 16} is.greatest

pub dict_fits : (count : ℕ) → count ≤ most_pairs → IsClass (dict_class count) × (count ≤ dict_entries (dict_class count))
dict_fits count few =
    let slots = has_slots (3 * (count - 1)) in
    let least = least_slots (dict_class count) slots.0 in (
      slots.0,
      elim slots.1 [
        | inl enough ↦ omega arith
        | inr greatest ↦ subst (λ class. count ≤ dict_entries class) (sym greatest) few
      ],
    )

pub set_fits : (count : ℕ) → count ≤ most_elements → IsClass (set_class count) × (count ≤ set_entries (set_class count))
set_fits count few =
    let slots = has_slots (4 * (count - 1) + 1) in
    let least = least_slots (set_class count) slots.0 in (
      slots.0,
      elim slots.1 [
        | inl enough ↦ omega arith
        | inr greatest ↦ subst (λ class. count ≤ set_entries class) (sym greatest) few
      ],
    )

pub list_fits : (count : ℕ) → count ≤ most_items → IsClass (list_class count) × (count ≤ list_items (list_class count))
list_fits count few =
    let slots = has_slots count in (
      slots.0,
      elim slots.1 [
        | inl enough ↦ enough
        | inr greatest ↦ subst (λ class. count ≤ list_items class) (sym greatest) few
      ],
    )
