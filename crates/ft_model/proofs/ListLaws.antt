-- What a slice of a list has, and where the items of a list stand after `insert`.
use Rattle.std.proofs.Common.{◌≡◌, ℕ, suc, zero, ◌+◌, ◌-◌, ◌<◌, ◌≤◌, List, [], ◌∷◌, length, take, drop, Some, refl, ap, ◌∙◌, arith}
use Rattle.std.specs.Prelude.{slice_get, ℤ, pos, negsuc}
use Rattle.std.specs.List.{insert}
use Rattle.std.proofs.lemmas.List.{length-take, length-drop}
use Rattle.ft_model.specs.declared.data.Value.{Value}
use Rattle.ft_model.specs.Lists.{clamped_in, list_slice, list_insert}

clamped-within : (len : ℕ) (index : ℤ) → clamped_in len index ≤ len
clamped-within len (pos index) = omega arith
clamped-within len (negsuc below) = omega arith

pub slice_length : (items : List Value) (start end : ℤ) → length (list_slice items start end) ≡ clamped_in (length items) end - clamped_in (length items) start
slice_length items start end =
    let within : clamped_in (length items) end ≤ length items = clamped-within (length items) end in
    let front : length (take (clamped_in (length items) end) items) ≡ clamped_in (length items) end = omega (arith, length-take (clamped_in (length items) end) items) in
    length-drop (clamped_in (length items) start) (take (clamped_in (length items) end) items) ∙ ap (λ n. n - clamped_in (length items) start) front

get-drop : (items : List Value) (start k : ℕ) → slice_get (drop start items) k ≡ slice_get items (start + k)
get-drop items zero k = ap (slice_get items) (omega arith)
get-drop [] (suc start) k = refl
get-drop (item ∷ items) (suc start) k = get-drop items start k ∙ ap (slice_get (item ∷ items)) (let e : suc (start + k) ≡ suc start + k = omega arith in e)

get-take : (items : List Value) (end k : ℕ) → k < end → slice_get (take end items) k ≡ slice_get items k
get-take items zero k low = absurd (omega arith)
get-take [] (suc end) k low = refl
get-take (item ∷ items) (suc end) zero low = refl
get-take (item ∷ items) (suc end) (suc k) low = get-take items end k (omega arith)

pub slice_item : (items : List Value) (start end : ℤ) (k : ℕ) → k < length (list_slice items start end) → slice_get (list_slice items start end) k ≡ slice_get items (clamped_in (length items) start + k)
slice_item items start end k low =
    let long = slice_length items start end in
    get-drop (take (clamped_in (length items) end) items) (clamped_in (length items) start) k ∙ get-take items (clamped_in (length items) end) (clamped_in (length items) start + k) (omega arith)

-- ---- `insert`

get-insert-before : (items : List Value) (place : ℕ) (value : Value) (k : ℕ) → place ≤ length items → k < place → slice_get (insert items place value) k ≡ slice_get items k
get-insert-before items zero value k within low = absurd (omega arith)
get-insert-before [] (suc place) value k within low = absurd (omega arith)
get-insert-before (item ∷ items) (suc place) value zero within low = refl
get-insert-before (item ∷ items) (suc place) value (suc k) within low = get-insert-before items place value k (omega arith) (omega arith)

get-insert-there : (items : List Value) (place : ℕ) (value : Value) → place ≤ length items → slice_get (insert items place value) place ≡ Some value
get-insert-there items zero value within = refl
get-insert-there [] (suc place) value within = absurd (omega arith)
get-insert-there (item ∷ items) (suc place) value within = get-insert-there items place value (omega arith)

get-insert-after : (items : List Value) (place : ℕ) (value : Value) (k : ℕ) → place ≤ length items → place ≤ k → slice_get (insert items place value) (suc k) ≡ slice_get items k
get-insert-after items zero value k within low = refl
get-insert-after [] (suc place) value k within low = absurd (omega arith)
get-insert-after (item ∷ items) (suc place) value zero within low = absurd (omega arith)
get-insert-after (item ∷ items) (suc place) value (suc k) within low = get-insert-after items place value k (omega arith) (omega arith)

pub insert_before : (items : List Value) (index : ℤ) (value : Value) (k : ℕ) → k < clamped_in (length items) index → slice_get (list_insert items index value) k ≡ slice_get items k
insert_before items index value k low = get-insert-before items (clamped_in (length items) index) value k (clamped-within (length items) index) low

pub insert_there : (items : List Value) (index : ℤ) (value : Value) → slice_get (list_insert items index value) (clamped_in (length items) index) ≡ Some value
insert_there items index value = get-insert-there items (clamped_in (length items) index) value (clamped-within (length items) index)

pub insert_after : (items : List Value) (index : ℤ) (value : Value) (k : ℕ) → clamped_in (length items) index ≤ k → slice_get (list_insert items index value) (suc k) ≡ slice_get items k
insert_after items index value k low = get-insert-after items (clamped_in (length items) index) value k (clamped-within (length items) index) low
