-- The four operations on keys are those of sets, and a dump shows what each container answers.
use Rattle.std.proofs.Common.{◌≡◌, ℕ, zero, suc, ◌+◌, Bool, true, false, not, List, [], ◌∷◌, ◌++◌, map, Some, None, refl, ap, ◌∙◌}
use Rattle.std.specs.Prelude.{◌||◌, filter, option_map, slice_get}
use Rattle.std.proofs.lemmas.List.{map-append}
use Rattle.ft_model.specs.declared.data.Key.{Key}
use Rattle.ft_model.specs.declared.content.Content.TheVariants as content
use Rattle.ft_model.specs.declared.content.DictPair.{DictPair}
use Rattle.ft_model.specs.declared.content.Element.{Element}
use Rattle.ft_model.specs.declared.script.Kind.{Kind}
use Rattle.ft_model.specs.declared.script.Kind.TheVariants as kind
use Rattle.ft_model.specs.Keys.{same_key}
use Rattle.ft_model.specs.Contents.{has_key, has_element, those_not_in, elements_from, set_and, set_sub, set_or, set_xor}
use Rattle.ft_model.specs.Views.{keys_in, keys_and, keys_sub, keys_or, keys_xor}
use Rattle.ft_model.specs.Worlds.{WorldContent, HandsContent, IsOfKind}
use Rattle.ft_model.specs.Answers.{answer, elements_of, shown_of}
use Rattle.ft_model.specs.Walks.{key_set, items_call, as_reply}

-- ---- keys

abbrev elements : List DictPair → List Element
elements pairs = (key_set pairs).elements

has_same : (pairs : List DictPair) (key : Key) → has_element (elements pairs) key ≡ has_key pairs key
has_same [] key = refl
has_same (pair ∷ pairs) key = ap (λ (b : Bool). same_key pair.key key || b) (has_same pairs key)

-- those that pass a test of their keys
kept_same : (test other : Key → Bool) → ((key : Key) → test key ≡ other key) → (pairs : List DictPair) → elements_of (filter (λ element. test element.key) (elements pairs)) ≡ keys_in (filter (λ pair. other pair.key) pairs)
kept_same test other same [] = refl
kept_same test other same (pair ∷ pairs) =
    elim (other pair.key) as (λ b. other pair.key ≡ b → elements_of (filter (λ element. test element.key) (elements (pair ∷ pairs))) ≡ keys_in (filter (λ p. other p.key) (pair ∷ pairs))) [
      | true ↦ λ here. simp (here, same pair.key ∙ here) (ap (λ (keys : List Key). pair.key ∷ keys) (kept_same test other same pairs))
      | false ↦ λ gone. simp (gone, same pair.key ∙ gone) (kept_same test other same pairs)
    ] refl

all_same : (pairs : List DictPair) → elements_of (elements pairs) ≡ keys_in pairs
all_same [] = refl
all_same (pair ∷ pairs) = ap (λ (keys : List Key). pair.key ∷ keys) (all_same pairs)

-- new serials change no key
from_same : (next : ℕ) (others : List Element) → elements_of (elements_from next others) ≡ elements_of others
from_same next [] = refl
from_same next (other ∷ others) = ap (λ (keys : List Key). other.key ∷ keys) (from_same (next + 1) others)

subbed : (pairs others : List DictPair) → elements_of (those_not_in (elements others) (elements pairs)) ≡ keys_sub pairs others
subbed pairs others = kept_same (λ key. not (has_element (elements others) key)) (λ key. not (has_key others key)) (λ key. ap not (has_same others key)) pairs

joined : (kept added : List Element) (next : ℕ) → elements_of (kept ++ elements_from next added) ≡ elements_of kept ++ elements_of added
joined kept added next = map-append (λ (e : Element). e.key) kept (elements_from next added) ∙ ap (λ (keys : List Key). elements_of kept ++ keys) (from_same next added)

pub and_keys : (pairs others : List DictPair) → elements_of (set_and (key_set pairs) (key_set others).elements).elements ≡ keys_and pairs others
and_keys pairs others = kept_same (λ key. has_element (elements others) key) (λ key. has_key others key) (has_same others) pairs

pub sub_keys : (pairs others : List DictPair) → elements_of (set_sub (key_set pairs) (key_set others).elements).elements ≡ keys_sub pairs others
sub_keys pairs others = subbed pairs others

pub or_keys : (pairs others : List DictPair) → elements_of (set_or (key_set pairs) (key_set others).elements).elements ≡ keys_or pairs others
or_keys pairs others =
    joined (elements pairs) (those_not_in (elements pairs) (elements others)) 0
    ∙ ap (λ (keys : List Key). keys ++ elements_of (those_not_in (elements pairs) (elements others))) (all_same pairs)
    ∙ ap (λ (keys : List Key). keys_in pairs ++ keys) (subbed others pairs)

pub xor_keys : (pairs others : List DictPair) → elements_of (set_xor (key_set pairs) (key_set others).elements).elements ≡ keys_xor pairs others
xor_keys pairs others =
    joined (those_not_in (elements others) (elements pairs)) (those_not_in (elements pairs) (elements others)) 0
    ∙ ap (λ (keys : List Key). keys ++ elements_of (those_not_in (elements pairs) (elements others))) (subbed pairs others)
    ∙ ap (λ (keys : List Key). keys_sub pairs others ++ keys) (subbed others pairs)

-- ---- dumps

dict_shown : (world : WorldContent) (hands : HandsContent) (place : ℕ) → IsOfKind world kind.Dict place → option_map as_reply (slice_get (map shown_of world) place) ≡ Some (answer world hands (items_call kind.Dict place)).reply
dict_shown [] hands place is = absurd (let none : None ≡ Some kind.Dict = is in cc)
dict_shown (content.Dict dict ∷ world) hands zero is = refl
dict_shown (content.List items ∷ world) hands zero is = absurd (let some : Some kind.List ≡ Some kind.Dict = is in cc)
dict_shown (content.Set set ∷ world) hands zero is = absurd (let some : Some kind.Set ≡ Some kind.Dict = is in cc)
dict_shown (content.Deque deque ∷ world) hands zero is = absurd (let some : Some (kind.Deque deque.bound) ≡ Some kind.Dict = is in cc)
dict_shown (first ∷ world) hands (suc place) is = dict_shown world hands place is

list_shown : (world : WorldContent) (hands : HandsContent) (place : ℕ) → IsOfKind world kind.List place → option_map as_reply (slice_get (map shown_of world) place) ≡ Some (answer world hands (items_call kind.List place)).reply
list_shown [] hands place is = absurd (let none : None ≡ Some kind.List = is in cc)
list_shown (content.Dict dict ∷ world) hands zero is = absurd (let some : Some kind.Dict ≡ Some kind.List = is in cc)
list_shown (content.List items ∷ world) hands zero is = refl
list_shown (content.Set set ∷ world) hands zero is = absurd (let some : Some kind.Set ≡ Some kind.List = is in cc)
list_shown (content.Deque deque ∷ world) hands zero is = absurd (let some : Some (kind.Deque deque.bound) ≡ Some kind.List = is in cc)
list_shown (first ∷ world) hands (suc place) is = list_shown world hands place is

set_shown : (world : WorldContent) (hands : HandsContent) (place : ℕ) → IsOfKind world kind.Set place → option_map as_reply (slice_get (map shown_of world) place) ≡ Some (answer world hands (items_call kind.Set place)).reply
set_shown [] hands place is = absurd (let none : None ≡ Some kind.Set = is in cc)
set_shown (content.Dict dict ∷ world) hands zero is = absurd (let some : Some kind.Dict ≡ Some kind.Set = is in cc)
set_shown (content.List items ∷ world) hands zero is = absurd (let some : Some kind.List ≡ Some kind.Set = is in cc)
set_shown (content.Set set ∷ world) hands zero is = refl
set_shown (content.Deque deque ∷ world) hands zero is = absurd (let some : Some (kind.Deque deque.bound) ≡ Some kind.Set = is in cc)
set_shown (first ∷ world) hands (suc place) is = set_shown world hands place is

deque_shown : (world : WorldContent) (hands : HandsContent) (place : ℕ) → IsOfKind world (kind.Deque None) place → option_map as_reply (slice_get (map shown_of world) place) ≡ Some (answer world hands (items_call (kind.Deque None) place)).reply
deque_shown [] hands place is = absurd (let none : None ≡ Some (kind.Deque is.0) = is.1 in cc)
deque_shown (content.Dict dict ∷ world) hands zero is = absurd (let some : Some kind.Dict ≡ Some (kind.Deque is.0) = is.1 in cc)
deque_shown (content.List items ∷ world) hands zero is = absurd (let some : Some kind.List ≡ Some (kind.Deque is.0) = is.1 in cc)
deque_shown (content.Set set ∷ world) hands zero is = absurd (let some : Some kind.Set ≡ Some (kind.Deque is.0) = is.1 in cc)
deque_shown (content.Deque deque ∷ world) hands zero is = refl
deque_shown (first ∷ world) hands (suc place) is = deque_shown world hands place is

pub shown_at : (world : WorldContent) (hands : HandsContent) (kind : Kind) (place : ℕ) → IsOfKind world kind place → option_map as_reply (slice_get (map shown_of world) place) ≡ Some (answer world hands (items_call kind place)).reply
shown_at world hands kind.Dict place is = dict_shown world hands place is
shown_at world hands kind.List place is = list_shown world hands place is
shown_at world hands kind.Set place is = set_shown world hands place is
shown_at world hands (kind.Deque bound) place is = deque_shown world hands place is
