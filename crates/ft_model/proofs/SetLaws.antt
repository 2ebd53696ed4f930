-- Which elements sets have after a call: the laws of the set operations.
use Rattle.std.proofs.Common.{◌≡◌, ℕ, ◌+◌, Bool, true, false, not, List, [], ◌∷◌, ◌++◌, refl, sym, ap, ◌∙◌}
use Rattle.std.specs.Prelude.{◌&&◌, ◌||◌, filter, IsTrue, ◌↔◌}
use Rattle.std.specs.Cmp.{both_ways}
use Rattle.std.proofs.lemmas.Bool.{false≢true, and_parts}
use Rattle.ft_model.specs.declared.data.Key.{Key}
use Rattle.ft_model.specs.declared.content.Element.{Element}
use Rattle.ft_model.specs.Keys.{same_key}
use Rattle.ft_model.specs.Contents.{SetContent, has_element, those_not_in, elements_from, set_add, set_discard, set_or, set_and, set_sub, set_xor, is_subset, same_elements, is_disjoint}
use Rattle.ft_model.proofs.KeyLemmas.{same_key-true, same_key-refl}

and_false : (b : Bool) → (b && false) ≡ false
and_false true = refl
and_false false = refl

or_false : (b : Bool) → (b || false) ≡ b
or_false true = refl
or_false false = refl

later : (a b : Bool) → b ≡ true → (a || b) ≡ true
later true b h = refl
later false b h = h

has-append : (elements others : List Element) (key : Key) → has_element (elements ++ others) key ≡ (has_element elements key || has_element others key)
has-append [] others key = refl
has-append (element ∷ elements) others key =
    elim (same_key element.key key) as (λ b. (b || has_element (elements ++ others) key) ≡ ((b || has_element elements key) || has_element others key)) [
      | true ↦ refl
      | false ↦ has-append elements others key
    ]

has-elements_from : (next : ℕ) (elements : List Element) (key : Key) → has_element (elements_from next elements) key ≡ has_element elements key
has-elements_from next [] key = refl
has-elements_from next (element ∷ elements) key = ap (λ b. same_key element.key key || b) (has-elements_from (next + 1) elements key)

-- of the elements that pass a test of their keys, those that are there are those that pass
has-filter : (test : Key → Bool) (elements : List Element) (key : Key) → has_element (filter (λ element. test element.key) elements) key ≡ (has_element elements key && test key)
has-filter test [] key = refl
has-filter test (element ∷ elements) key =
    let rest = has-filter test elements key in
    elim (same_key element.key key) as (λ b. same_key element.key key ≡ b → has_element (filter (λ element. test element.key) (element ∷ elements)) key ≡ (has_element (element ∷ elements) key && test key)) [
      | true ↦ λ here.
          let same : element.key ≡ key = same_key-true element.key key here in
          elim (test key) as (λ b. test key ≡ b → has_element (filter (λ element. test element.key) (element ∷ elements)) key ≡ (has_element (element ∷ elements) key && test key)) [
            | true ↦ λ passes. let first : test element.key ≡ true = ap test same ∙ passes in simp (first, here, passes)
            | false ↦ λ fails. let first : test element.key ≡ false = ap test same ∙ fails in simp (first, here, fails) (rest ∙ simp fails (and_false (has_element elements key)))
          ] refl
      | false ↦ λ past.
          elim (test element.key) as (λ b. test element.key ≡ b → has_element (filter (λ element. test element.key) (element ∷ elements)) key ≡ (has_element (element ∷ elements) key && test key)) [
            | true ↦ λ passes. simp (passes, past) rest
            | false ↦ λ fails. simp (fails, past) rest
          ] refl
    ] refl

joined : (a b : Bool) → (a || (b && not a)) ≡ (a || b)
joined true b = refl
joined false true = refl
joined false false = refl

pub or_members : (set : SetContent) (others : List Element) (key : Key) → has_element (set_or set others).elements key ≡ (has_element set.elements key || has_element others key)
or_members set others key =
    has-append set.elements (elements_from set.next (those_not_in set.elements others)) key
    ∙ ap (λ b. has_element set.elements key || b) (has-elements_from set.next (those_not_in set.elements others) key ∙ has-filter (λ k. not (has_element set.elements k)) others key)
    ∙ joined (has_element set.elements key) (has_element others key)

pub and_members : (set : SetContent) (others : List Element) (key : Key) → has_element (set_and set others).elements key ≡ (has_element set.elements key && has_element others key)
and_members set others key = has-filter (has_element others) set.elements key

pub sub_members : (set : SetContent) (others : List Element) (key : Key) → has_element (set_sub set others).elements key ≡ (has_element set.elements key && not (has_element others key))
sub_members set others key = has-filter (λ k. not (has_element others k)) set.elements key

pub xor_members : (set : SetContent) (others : List Element) (key : Key) → has_element (set_xor set others).elements key ≡ ((has_element set.elements key && not (has_element others key)) || (has_element others key && not (has_element set.elements key)))
xor_members set others key =
    has-append (those_not_in others set.elements) (elements_from set.next (those_not_in set.elements others)) key
    ∙ ap (λ b. has_element (those_not_in others set.elements) key || b) (has-elements_from set.next (those_not_in set.elements others) key ∙ has-filter (λ k. not (has_element set.elements k)) others key)
    ∙ ap (λ b. b || (has_element others key && not (has_element set.elements key))) (has-filter (λ k. not (has_element others k)) set.elements key)

pub add_members : (set : SetContent) (added key : Key) → has_element (set_add set added).elements key ≡ (has_element set.elements key || same_key added key)
add_members set added key =
    elim (has_element set.elements added) as (λ b. has_element set.elements added ≡ b → has_element (set_add set added).elements key ≡ (has_element set.elements key || same_key added key)) [
      | true ↦ λ there.
          elim (same_key added key) as (λ b. same_key added key ≡ b → has_element (set_add set added).elements key ≡ (has_element set.elements key || same_key added key)) [
            | true ↦ λ here. let has : has_element set.elements key ≡ true = ap (has_element set.elements) (sym (same_key-true added key here)) ∙ there in simp (there, has)
            | false ↦ λ past. simp (there, past) (sym (or_false (has_element set.elements key)))
          ] refl
      | false ↦ λ absent. simp absent (has-append set.elements (record { serial = set.next; key = added } ∷ []) key ∙ ap (λ b. has_element set.elements key || b) (or_false (same_key added key)))
    ] refl

pub discard_members : (set : SetContent) (gone key : Key) → has_element (set_discard set gone).elements key ≡ (has_element set.elements key && not (same_key key gone))
discard_members set gone key = has-filter (λ k. not (same_key k gone)) set.elements key

-- ---- comparisons

-- each of the elements is among the others exactly where each key that is among the elements is among the others
subset-to : (elements others : List Element) → is_subset elements others ≡ true → (key : Key) → has_element elements key ≡ true → has_element others key ≡ true
subset-to [] others all key there = absurd (false≢true there)
subset-to (element ∷ elements) others all key there =
    elim (has_element others element.key) as (λ b. has_element others element.key ≡ b → has_element others key ≡ true) [
      | true ↦ λ first.
          elim (same_key element.key key) as (λ b. same_key element.key key ≡ b → has_element others key ≡ true) [
            | true ↦ λ here. ap (has_element others) (sym (same_key-true element.key key here)) ∙ first
            | false ↦ λ past. subset-to elements others (simp first at all) key (simp past at there)
          ] refl
      | false ↦ λ none. absurd (false≢true (simp none at all))
    ] refl

subset-from : (elements others : List Element) → ((key : Key) → has_element elements key ≡ true → has_element others key ≡ true) → is_subset elements others ≡ true
subset-from [] others each = refl
subset-from (element ∷ elements) others each =
    let first : has_element others element.key ≡ true = each element.key (simp (same_key-refl element.key)) in
    simp first (subset-from elements others (λ key there. each key (later (same_key element.key key) (has_element elements key) there)))

pub subset_members : (elements others : List Element) → IsTrue (is_subset elements others) ↔ ((key : Key) → IsTrue (has_element elements key) → IsTrue (has_element others key))
subset_members elements others = (subset-to elements others, subset-from elements others)

pub equals_members : (elements others : List Element) → IsTrue (same_elements elements others) ↔ ((key : Key) → has_element elements key ≡ has_element others key)
equals_members elements others = (
  λ same. let parts = and_parts (is_subset elements others) (is_subset others elements) same in λ key. both_ways _ _ (subset-to elements others parts.0 key) (subset-to others elements parts.1 key),
  λ each. let first : is_subset elements others ≡ true = subset-from elements others (λ key there. sym (each key) ∙ there) in let second : is_subset others elements ≡ true = subset-from others elements (λ key there. each key ∙ there) in simp (first, second),
)

disjoint-to : (elements others : List Element) → is_disjoint elements others ≡ true → (key : Key) → has_element elements key ≡ true → has_element others key ≡ false
disjoint-to [] others none key there = absurd (false≢true there)
disjoint-to (element ∷ elements) others none key there =
    elim (has_element others element.key) as (λ b. has_element others element.key ≡ b → has_element others key ≡ false) [
      | true ↦ λ met. absurd (false≢true (simp met at none))
      | false ↦ λ first.
          elim (same_key element.key key) as (λ b. same_key element.key key ≡ b → has_element others key ≡ false) [
            | true ↦ λ here. ap (has_element others) (sym (same_key-true element.key key here)) ∙ first
            | false ↦ λ past. disjoint-to elements others (simp first at none) key (simp past at there)
          ] refl
    ] refl

disjoint-from : (elements others : List Element) → ((key : Key) → has_element elements key ≡ true → has_element others key ≡ false) → is_disjoint elements others ≡ true
disjoint-from [] others each = refl
disjoint-from (element ∷ elements) others each =
    let first : has_element others element.key ≡ false = each element.key (simp (same_key-refl element.key)) in
    simp first (disjoint-from elements others (λ key there. each key (later (same_key element.key key) (has_element elements key) there)))

pub disjoint_members : (elements others : List Element) → IsTrue (is_disjoint elements others) ↔ ((key : Key) → IsTrue (has_element elements key) → has_element others key ≡ false)
disjoint_members elements others = (disjoint-to elements others, disjoint-from elements others)
