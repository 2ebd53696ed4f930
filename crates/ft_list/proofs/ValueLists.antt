-- Lists of values, gone through from the first one on: a value that is looked for, values that are counted or copied, and
-- two lists that are compared.
use Rattle.std.proofs.Common.{◌≡◌, ◌≢◌, ℕ, zero, suc, ◌+◌, ◌-◌, ◌<◌, ◌≤◌, Bool, true, false, cond, ltb, List, [], ◌∷◌, ◌++◌, length, take, drop, Some, None, refl, sym, ap, ◌∙◌, inl, inr, arith, drop_of_length-le}
use Rattle.std.specs.Prelude.{slice_index_or, slice_get, reverse, is_some, ◌&&◌}
use Rattle.std.specs.List.{position_or_len}
use Rattle.std.specs.Cmp.Lexicographic.{unequal}
use Rattle.std.proofs.lemmas.Bool.{cases_lt, lt-ltb, le-ltb}
use Rattle.std.proofs.lemmas.List.{get_or-reverse, length-reverse, length-take-le, take_more, drop-append-le}
use Rattle.std.proofs.lemmas.List.Sums.{position_or_len_is, fails_before_first, passes_at_first, count_by_more_no, count_by_more_yes}
use Rattle.std.proofs.lemmas.List.Folds.{list_any_at, list_any_none}
use Rattle.std.proofs.lemmas.Option.{slice_get-get_or}
use Rattle.std.proofs.lemmas.List.Quantifiers.{position-Some}
use Rattle.ft_model.specs.declared.data.Value.{Value}
use Rattle.ft_model.specs.declared.data.Value.TheVariants.{Nothing}
use Rattle.ft_model.specs.Keys.{is_value}
use Rattle.ft_model.specs.Lists.{index_of, count_of, has_value, same_items}

-- ---- the first equal item

-- no item before this place is equal to the value
abbrev pub NoneBefore : List Value → Value → ℕ → Type 0
NoneBefore items value place = (p : ℕ) → p < place → is_value (slice_index_or items p Nothing) value ≡ false

pub none_more : (items : List Value) (value : Value) (place : ℕ) → NoneBefore items value place → is_value (slice_index_or items place Nothing) value ≡ false → NoneBefore items value (place + 1)
none_more items value place before here p less = elim (cases_lt p place) [
  | inl low ↦ before p low
  | inr more ↦ let e : p ≡ place = omega (arith, less, more) in ap (λ (n : ℕ). is_value (slice_index_or items n Nothing) value) e ∙ here
]

pub first_at : (items : List Value) (value : Value) (place : ℕ) → place < length items → NoneBefore items value place → is_value (slice_index_or items place Nothing) value ≡ true → index_of items value ≡ Some place
first_at items value place low before here =
    let test : Value → Bool = λ item. is_value item value in
    let first : position_or_len test items ≡ place = position_or_len_is test items place Nothing (omega (arith, low)) before (λ less. here) in
    ap (λ (n : ℕ). cond (ltb n (length items)) (Some n) None) first ∙ ap (λ (b : Bool). cond b (Some place) None) (lt-ltb place (length items) low)

pub first_none : (items : List Value) (value : Value) → NoneBefore items value (length items) → index_of items value ≡ None
first_none items value before =
    let test : Value → Bool = λ item. is_value item value in
    let first : position_or_len test items ≡ length items = position_or_len_is test items (length items) Nothing (omega arith) before (λ less. absurd (omega (arith, less))) in
    ap (λ (n : ℕ). cond (ltb n (length items)) (Some n) None) first ∙ ap (λ (b : Bool). cond b (Some (length items)) None) (le-ltb (length items) (length items) (omega arith))

pub first_low : (items : List Value) (value : Value) (place : ℕ) → index_of items value ≡ Some place → place < length items
first_low items value place is = (position-Some (λ item. is_value item value) items place Nothing is).0

-- whether there is one
pub has_first : (items : List Value) (value : Value) → has_value items value ≡ is_some (index_of items value)
has_first items value =
    let test : Value → Bool = λ item. is_value item value in
    let place = position_or_len test items in
    elim (cases_lt place (length items)) [
      | inl low ↦ list_any_at test items place Nothing low (passes_at_first test items Nothing low) ∙ sym (ap (λ (b : Bool). is_some (cond b (Some place) None)) (lt-ltb place (length items) low))
      | inr more ↦ list_any_none test items (λ k d less. fails_before_first test items k d (omega (arith, less, more))) ∙ sym (ap (λ (b : Bool). is_some (cond b (Some place) None)) (le-ltb place (length items) more))
    ]

-- ---- how many are equal

pub count_yes : (items : List Value) (value : Value) (place : ℕ) → place < length items → is_value (slice_index_or items place Nothing) value ≡ true → count_of (take (place + 1) items) value ≡ count_of (take place items) value + 1
count_yes items value place low here = count_by_more_yes (λ item. is_value item value) items place Nothing low here

pub count_no : (items : List Value) (value : Value) (place : ℕ) → place < length items → is_value (slice_index_or items place Nothing) value ≡ false → count_of (take (place + 1) items) value ≡ count_of (take place items) value
count_no items value place low here = count_by_more_no (λ item. is_value item value) items place Nothing low here

-- ---- two lists

-- they have equal items before this place
abbrev pub AlikeBefore : List Value → List Value → ℕ → Type 0
AlikeBefore xs ys place = (p : ℕ) → p < place → is_value (slice_index_or xs p Nothing) (slice_index_or ys p Nothing) ≡ true

pub alike_more : (xs ys : List Value) (place : ℕ) → AlikeBefore xs ys place → is_value (slice_index_or xs place Nothing) (slice_index_or ys place Nothing) ≡ true → AlikeBefore xs ys (place + 1)
alike_more xs ys place before here p less = elim (cases_lt p place) [
  | inl low ↦ before p low
  | inr more ↦ let e : p ≡ place = omega (arith, less, more) in ap (λ (n : ℕ). is_value (slice_index_or xs n Nothing) (slice_index_or ys n Nothing)) e ∙ here
]

pub alike : (xs ys : List Value) → length xs ≡ length ys → AlikeBefore xs ys (length xs) → same_items xs ys ≡ true
alike [] [] long all = refl
alike [] (y ∷ ys) long all = absurd (omega (arith, long))
alike (x ∷ xs) [] long all = absurd (omega (arith, long))
alike (x ∷ xs) (y ∷ ys) long all = ap (λ (b : Bool). b && same_items xs ys) (all 0 (omega arith)) ∙ alike xs ys (omega (arith, long)) (λ p less. all (suc p) (omega (arith, less)))

pub unlike_length : (xs ys : List Value) → length xs ≢ length ys → same_items xs ys ≡ false
unlike_length xs ys ne = unequal is_value xs ys ne

pub unlike : (xs ys : List Value) (place : ℕ) → place < length xs → place < length ys → is_value (slice_index_or xs place Nothing) (slice_index_or ys place Nothing) ≡ false → same_items xs ys ≡ false
unlike [] ys place low high ne = absurd (omega (arith, low))
unlike (x ∷ xs) [] place low high ne = absurd (omega (arith, high))
unlike (x ∷ xs) (y ∷ ys) zero low high ne = ap (λ (b : Bool). b && same_items xs ys) ne
unlike (x ∷ xs) (y ∷ ys) (suc place) low high ne = by (is_value x y) (unlike xs ys place (omega (arith, low)) (omega (arith, high)) ne)
  where
    by : (b : Bool) {c : Bool} → c ≡ false → (b && c) ≡ false
    by true e = e
    by false e = refl

-- ---- a part of a list

pub part_more : (items : List Value) (first place : ℕ) → first ≤ place → place < length items → drop first (take (place + 1) items) ≡ drop first (take place items) ++ slice_index_or items place Nothing ∷ []
part_more items first place from low =
    ap (drop first) (take_more items place Nothing low)
    ∙ drop-append-le first (take place items) (slice_index_or items place Nothing ∷ []) (let n = length-take-le place items (omega (arith, low)) in omega (arith, n, from))

pub part_none : (items : List Value) (first : ℕ) → drop first (take first items) ≡ []
part_none [] zero = refl
part_none [] (suc first) = refl
part_none (x ∷ items) zero = refl
part_none (x ∷ items) (suc first) = part_none items first

pub part_short : (items : List Value) (first past : ℕ) → past ≤ first → past ≤ length items → drop first (take past items) ≡ []
part_short items first past from low = drop_of_length-le (take past items) (let n = length-take-le past items low in omega (arith, n, from))

-- ---- reversed

pub reversed_at : (items : List Value) (p : ℕ) → p < length items → slice_get (reverse items) p ≡ slice_get items (length items - 1 - p)
reversed_at items p low =
    slice_get-get_or (reverse items) p Nothing (let n = length-reverse items in omega (arith, n, low))
    ∙ (ap Some (get_or-reverse items p Nothing low) ∙ sym (slice_get-get_or items (length items - 1 - p) Nothing (omega (arith, low))))
