-- What a set has after a call.
use Rattle.std.proofs.Common.{◌≡◌, ◌≢◌, ℕ, ◌+◌, ◌-◌, ◌<◌, ◌≤◌, Bool, true, false, not, List, [], ◌∷◌, ◌++◌, length, get_or, refl, sym, ap, ◌∙◌, arith, inl, inr}
use Rattle.std.specs.Prelude.{All, filter}
use Rattle.std.proofs.lemmas.Bool.{cases_lt, false≢true}
use Rattle.std.proofs.lemmas.List.{get_or_append_left, get_or-append_right, get_or_default, length-append}
use Rattle.std.proofs.lemmas.List.Elements.{All-filter, filter_passes}
use Rattle.std.proofs.lemmas.List.Folds.{list_any-from_Any}
use Rattle.std.proofs.lemmas.List.Kept.{AllPairs-filter}
use Rattle.ft_model.specs.declared.data.Key.{Key}
use Rattle.ft_model.specs.declared.content.Element.{Element}
use Rattle.ft_model.specs.Keys.{same_key}
use Rattle.ft_model.specs.Contents.{SetContent, IsSet, has_element, set_discard, those_not_in, elements_from}
use Rattle.ft_model.proofs.KeyLemmas.{same_key-refl}
use Rattle.ft_model.proofs.Copies.{length-elements_from, get-elements_from}

-- some of the elements of a set, in their order, are those of a set
pub IsSet-filter : (next : ℕ) (elements : List Element) (stays : Element → Bool) → IsSet next elements → IsSet next (filter stays elements)
IsSet-filter next elements stays is_set =
    record {
      distinct = AllPairs-filter (λ a b. a.key ≢ b.key) stays elements is_set.distinct;
      rising = AllPairs-filter (λ a b. a.serial < b.serial) stays elements is_set.rising;
      below = All-filter stays (λ element. element.serial < next) elements is_set.below;
    }

-- each element is among the elements
are_elements : (elements : List Element) → All (λ element. has_element elements element.key ≡ true) elements
are_elements elements k d low =
    let e : Element = get_or elements k d in
    list_any-from_Any (λ (element : Element). same_key element.key e.key) elements (k, e, low, get_or_default elements k e d low, same_key-refl e.key)

not_true : (b : Bool) → not b ≡ true → b ≡ false
not_true true h = absurd (false≢true h)
not_true false h = refl

-- what is added has none of the elements
are_new : (elements others : List Element) → All (λ element. has_element elements element.key ≡ false) (those_not_in elements others)
are_new elements others k d low = not_true _ (filter_passes (λ (element : Element). not (has_element elements element.key)) others k d low)

-- some of a set's elements and after them others, with new serials, of which it had none
IsSet-join : (next other : ℕ) (elements kept added : List Element) → IsSet next kept → IsSet other added → All (λ element. has_element elements element.key ≡ true) kept → All (λ element. has_element elements element.key ≡ false) added → IsSet (next + length added) (kept ++ elements_from next added)
IsSet-join next other elements kept added is_kept is_added present absent =
    let after : List Element = elements_from next added in
    let long : length after ≡ length added = length-elements_from next added in
    let both : length (kept ++ after) ≡ length kept + length after = length-append kept after in
    let left : (k : ℕ) (d : Element) → k < length kept → get_or (kept ++ after) k d ≡ get_or kept k d = λ k d low. get_or_append_left kept after d k low in
    let right : (k : ℕ) (d : Element) → length kept ≤ k → k < length (kept ++ after) → get_or (kept ++ after) k d ≡ record { serial = next + (k - length kept); key = (get_or added (k - length kept) d).key } = λ k d high within. get_or-append_right kept after (length kept) k d refl high ∙ get-elements_from next added (k - length kept) d (omega arith) in
    record {
      distinct = λ i j d lt within same.
          elim (cases_lt j (length kept)) [
            | inl front ↦ is_kept.distinct i j d lt front (ap (λ (e : Element). e.key) (sym (left i d (omega arith))) ∙ same ∙ ap (λ (e : Element). e.key) (left j d front))
            | inr back ↦
                elim (cases_lt i (length kept)) [
                  | inl low ↦ false≢true (sym (absent (j - length kept) d (omega arith)) ∙ ap (λ k. has_element elements k) (sym (ap (λ (e : Element). e.key) (sym (left i d low)) ∙ same ∙ ap (λ (e : Element). e.key) (right j d back within))) ∙ present i d low)
                  | inr high ↦ is_added.distinct (i - length kept) (j - length kept) d (omega arith) (omega arith) (ap (λ (e : Element). e.key) (sym (right i d high (omega arith))) ∙ same ∙ ap (λ (e : Element). e.key) (right j d back within))
                ]
          ];
      rising = λ i j d lt within.
          elim (cases_lt j (length kept)) [
            | inl front ↦ rw (left i d (omega arith), left j d front) (is_kept.rising i j d lt front)
            | inr back ↦
                elim (cases_lt i (length kept)) [
                  | inl low ↦ let below : (get_or kept i d).serial < next = is_kept.below i d low in rw (left i d low, right j d back within) (omega arith)
                  | inr high ↦ rw (right i d high (omega arith), right j d back within) (omega arith)
                ]
          ];
      below = λ k d within.
          elim (cases_lt k (length kept)) [
            | inl low ↦ let below : (get_or kept k d).serial < next = is_kept.below k d low in rw (left k d low) (omega arith)
            | inr high ↦ rw (right k d high within) (omega arith)
          ];
    }

-- `s |= t`
pub IsSet-or : (next other : ℕ) (elements others : List Element) → IsSet next elements → IsSet other others → IsSet (next + length (those_not_in elements others)) (elements ++ elements_from next (those_not_in elements others))
IsSet-or next other elements others is_set is_other = IsSet-join next other elements elements (those_not_in elements others) is_set (IsSet-filter other others _ is_other) (are_elements elements) (are_new elements others)

-- `s ^= t`
pub IsSet-xor : (next other : ℕ) (elements others : List Element) → IsSet next elements → IsSet other others → IsSet (next + length (those_not_in elements others)) (those_not_in others elements ++ elements_from next (those_not_in elements others))
IsSet-xor next other elements others is_set is_other =
    IsSet-join next other elements (those_not_in others elements) (those_not_in elements others) (IsSet-filter next elements _ is_set) (IsSet-filter other others _ is_other)
    (All-filter (λ (element : Element). not (has_element others element.key)) (λ (element : Element). has_element elements element.key ≡ true) elements (are_elements elements))
    (are_new elements others)

-- the elements without one that isn't there are the elements
discard-missing : (elements : List Element) (key : Key) → has_element elements key ≡ false → filter (λ element. not (same_key element.key key)) elements ≡ elements
discard-missing [] key absent = refl
discard-missing (element ∷ elements) key absent =
    elim (same_key element.key key) as (λ b. same_key element.key key ≡ b → filter (λ element. not (same_key element.key key)) (element ∷ elements) ≡ element ∷ elements) [
      | true ↦ λ here. absurd (false≢true (sym absent ∙ simp here))
      | false ↦ λ no. simp no (ap (λ (rest : List Element). element ∷ rest) (discard-missing elements key (simp no at absent)))
    ] refl

pub discard_missing : (set : SetContent) (key : Key) → has_element set.elements key ≡ false → set_discard set key ≡ set
discard_missing set key absent = ap (λ (elements : List Element). let r : SetContent = record { next = set.next; elements = elements } in r) (discard-missing set.elements key absent)
