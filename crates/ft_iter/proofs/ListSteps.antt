-- What a cursor over a list meets at its index.
use Rattle.std.proofs.Common.{◌≡◌, ℕ, zero, suc, pos, ◌^◌, ◌<◌, ◌≤◌, Bool, List, [], ◌∷◌, length, Option, Some, None, refl, sym, ap, ◌∙◌, subst, arith}
use Rattle.std.specs.Prelude.{option_map, slice_get, slice_index_or, if◌then◌else◌}
use Rattle.std.proofs.Math.Decide.{dec_lt}
use Rattle.std.proofs.lemmas.Bool.{lt-ltb, le-ltb}
use mathlib.Core.Logic.{dite}
use Rattle.ft_model.specs.declared.content.Content.{Content}
use Rattle.ft_model.specs.declared.content.Content.TheVariants as content
use Rattle.ft_model.specs.declared.data.Value.{Value}
use Rattle.ft_model.specs.declared.data.Value.TheVariants as value
use Rattle.ft_layout.specs.Containers.{IsListWords, StandsAs}
use Rattle.ft_layout.proofs.Powers.{slots_range}
use Rattle.ft_trace.specs.Pictures.{ContainerWords, Represents}
use Rattle.ft_trace.specs.ContainerStates.{ContainerState}
use Rattle.ft_list.specs.Indexes.{item_named}

past-end : {A : Type 0} (l : List A) (n : ℕ) → length l ≤ n → slice_get l n ≡ None
past-end [] n low = refl
past-end (x ∷ l) zero low = absurd (omega (arith, low))
past-end (x ∷ l) (suc n) low = past-end l n (omega (arith, low))

within : {A : Type 0} (l : List A) (n : ℕ) (d : A) → n < length l → slice_get l n ≡ Some (slice_index_or l n d)
within [] n d low = absurd (omega (arith, low))
within (x ∷ l) zero d low = refl
within (x ∷ l) (suc n) d low = within l n d (omega (arith, low))

-- the item at an index that isn't negative
pub named-at : (items : List Value) (index : ℕ) → item_named items (pos index) ≡ slice_get items index
named-at items index =
    dite (dec_lt index (length items))
    (λ (low : index < length items).
    ap (λ (b : Bool). option_map (λ (place : ℕ). slice_index_or items place value.Nothing) (if b then Some index else None)) (lt-ltb index (length items) low) ∙ sym (within items index value.Nothing low))
    (λ high.
    let past : length items ≤ index = omega (arith, high) in
    ap (λ (b : Bool). option_map (λ (place : ℕ). slice_index_or items place value.Nothing) (if b then Some index else None)) (le-ltb index (length items) past) ∙ sym (past-end items index past))

short-words : (block words : List ℕ) (class : Option ℕ) (items : List Value) → IsListWords block words class items → length items ≤ 2 ^ 16
short-words block words None items says = let none = ap length says.table in omega (arith, none)
short-words block words (Some c) items says =
    let few = says.table.fill in
    let range = slots_range c says.head.root.1.0 in
    let low = range.0 in
    let high = range.1 in
    omega (arith, few, low, high)

-- no list is longer than the largest table holds
pub list-short : (texts : List ℕ) (x : ContainerWords) (kept : ContainerState) (items : List Value) → Represents texts x kept → kept.content ≡ content.List items → length items ≤ 2 ^ 16
list-short texts x kept items stands is =
    let says = subst (λ (c : Content). StandsAs texts x.block (0 ∷ 0 ∷ x.table) kept.table c) is stands in
    short-words x.block (0 ∷ 0 ∷ x.table) kept.table.class items says.0

-- an index past all lists
pub far-none : (items : List Value) (index : ℕ) → length items ≤ 2 ^ 16 → 2 ^ 16 ≤ index → slice_get items index ≡ None
far-none items index short far = past-end items index (omega (arith, short, far))
