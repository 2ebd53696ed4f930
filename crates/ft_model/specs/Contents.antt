-- What containers have. A dict has its pairs in insertion order, each with the serial that it drew when its key was
-- added, and the next serial; a set has its elements likewise. (Python manual, Mapping Types: dictionaries preserve
-- insertion order, and updating a key does not affect the order. The order of a set, and serials: profile)
use Rattle.std.specs.Prelude.{◌≡◌, ◌≢◌, ℕ, Bool, not, ◌&&◌, ◌+◌, ◌<◌, List, [], ◌∷◌, ◌++◌, map, length, filter, fold, Option, option_map, All, AllPairs, if◌then◌else◌}
use Rattle.std.specs.List.{find, list_any, list_all}
use Rattle.ft_model.specs.declared.data.Key.{Key}
use Rattle.ft_model.specs.declared.data.Value.{Value}
use Rattle.ft_model.specs.declared.content.DictPair.{DictPair}
use Rattle.ft_model.specs.declared.content.Element.{Element}
use Rattle.ft_model.specs.Keys.{same_key, is_value}

-- ---- dicts

-- the pairs in insertion order (Python manual, Mapping Types) and the next serial (profile)
pub record DictContent : Type 0 where
  pub next : ℕ
  pub pairs : List DictPair

-- `{}` (Python manual, Mapping Types), which draws serials from 0 (profile)
abbrev pub empty_dict : DictContent
empty_dict = record { next = 0; pairs = [] }

-- keys are distinct (Python manual, Mapping Types), and serials rise and are below the next one (profile)
pub record IsDict (next : ℕ) (pairs : List DictPair) : Type 0 where
  pub distinct : AllPairs (λ a b. a.key ≢ b.key) pairs
  pub rising : AllPairs (λ a b. a.serial < b.serial) pairs
  pub below : All (λ pair. pair.serial < next) pairs

-- whether the pair is the key's (Python manual, Mapping Types)
abbrev pub is_at : Key → DictPair → Bool
is_at key pair = same_key pair.key key

-- `d[k]`: the value at the key, if there is one (Python manual, Mapping Types)
abbrev pub dict_get : List DictPair → Key → Option Value
dict_get pairs key = option_map (λ pair. pair.value) (find (is_at key) pairs)

-- `k in d`: whether the key is there (Python manual, Mapping Types)
abbrev pub has_key : List DictPair → Key → Bool
has_key pairs key = list_any (is_at key) pairs

-- the pairs with this value at the key, each in its place (Python manual, Mapping Types)
abbrev pub with_value : List DictPair → Key → Value → List DictPair
with_value pairs key value = map (λ pair. if is_at key pair then record pair { value = value } else pair) pairs

-- `d[k] = v`: a new value at a key that is there keeps the pair's place and serial; a key that isn't goes last (Python
-- manual, Mapping Types)
abbrev pub dict_set : DictContent → Key → Value → DictContent
dict_set dict key value =
    if has_key dict.pairs key
    then record { next = dict.next; pairs = with_value dict.pairs key value }
    else record {
      next = dict.next + 1;
      pairs = dict.pairs ++ record { serial = dict.next; key = key; value = value } ∷ [];
    }

-- a new value at a key that is there: keys and serials stand as they stood, and no serial is drawn (Python manual,
-- Mapping Types: updating a key does not affect the order)
pub record KeepsPlaces (old new : DictContent) : Type 0 where
  pub keys : map (λ pair. pair.key) new.pairs ≡ map (λ pair. pair.key) old.pairs
  pub serials : map (λ pair. pair.serial) new.pairs ≡ map (λ pair. pair.serial) old.pairs
  pub next : new.next ≡ old.next

-- a key that was not there goes last with the serial that it draws (Python manual, Mapping Types: keys added after
-- deletion are inserted at the end)
pub record GoesLast (old new : DictContent) (key : Key) (value : Value) : Type 0 where
  pub pairs : new.pairs ≡ old.pairs ++ record { serial = old.next; key = key; value = value } ∷ []
  pub next : new.next ≡ old.next + 1

-- `del d[k]`: the other pairs, as they were (Python manual, Mapping Types)
abbrev pub dict_del : DictContent → Key → DictContent
dict_del dict key = record { next = dict.next; pairs = filter (λ pair. not (is_at key pair)) dict.pairs }

-- `d.clear()` (Python manual, Mapping Types). The next serial stays (profile)
abbrev pub dict_clear : DictContent → DictContent
dict_clear dict = record { next = dict.next; pairs = [] }

-- `d.update(e)`: each pair of the other is set, in its order (Python manual, Mapping Types)
abbrev pub dict_update : DictContent → List DictPair → DictContent
dict_update dict others = fold (λ dict pair. dict_set dict pair.key pair.value) dict others

-- pairs with new serials, one after the other from this one on (profile)
abbrev pub pairs_from : ℕ → List DictPair → List DictPair
pairs_from next [] = []
pairs_from next (pair ∷ pairs) = record pair { serial = next } ∷ pairs_from (next + 1) pairs

-- a dict that has these pairs in place of its own, in this order, each with a serial that it draws (profile)
abbrev pub dict_copy : DictContent → List DictPair → DictContent
dict_copy dict pairs = record { next = dict.next + length pairs; pairs = pairs_from dict.next pairs }

-- whether the value is stored at the key
abbrev pub has_pair : List DictPair → DictPair → Bool
has_pair pairs wanted = list_any (λ pair. same_key pair.key wanted.key && is_value pair.value wanted.value) pairs

-- `d == e`: the same keys with equal values, in any order (Python manual, Mapping Types)
abbrev pub same_pairs : List DictPair → List DictPair → Bool
same_pairs pairs others = list_all (has_pair others) pairs && list_all (has_pair pairs) others

-- ---- sets

-- the elements in the order in which they were added, and the next serial (profile)
pub record SetContent : Type 0 where
  pub next : ℕ
  pub elements : List Element

-- `set()` (Python manual, Set Types), which draws serials from 0 (profile)
abbrev pub empty_set : SetContent
empty_set = record { next = 0; elements = [] }

-- elements are distinct (Python manual, Set Types), and serials rise and are below the next one (profile)
pub record IsSet (next : ℕ) (elements : List Element) : Type 0 where
  pub distinct : AllPairs (λ a b. a.key ≢ b.key) elements
  pub rising : AllPairs (λ a b. a.serial < b.serial) elements
  pub below : All (λ element. element.serial < next) elements

-- `k in s` (Python manual, Set Types)
abbrev pub has_element : List Element → Key → Bool
has_element elements key = list_any (λ element. same_key element.key key) elements

-- `s.add(k)`: an element that isn't there (Python manual, Set Types) goes last (profile)
abbrev pub set_add : SetContent → Key → SetContent
set_add set key =
    if has_element set.elements key
    then set
    else record { next = set.next + 1; elements = set.elements ++ record { serial = set.next; key = key } ∷ [] }

-- `s.discard(k)`: the other elements, as they were (Python manual, Set Types)
abbrev pub set_discard : SetContent → Key → SetContent
set_discard set key =
    record { next = set.next; elements = filter (λ element. not (same_key element.key key)) set.elements }

-- `s.clear()` (Python manual, Set Types). The next serial stays (profile)
abbrev pub set_clear : SetContent → SetContent
set_clear set = record { next = set.next; elements = [] }

-- those of the elements that others have, and those that they haven't (Python manual, Set Types)
abbrev pub those_in : List Element → List Element → List Element
those_in others elements = filter (λ element. has_element others element.key) elements

abbrev pub those_not_in : List Element → List Element → List Element
those_not_in others elements = filter (λ element. not (has_element others element.key)) elements

-- elements with new serials, one after the other from this one on (profile)
abbrev pub elements_from : ℕ → List Element → List Element
elements_from next [] = []
elements_from next (element ∷ elements) = record element { serial = next } ∷ elements_from (next + 1) elements

-- `s |= t` (Python manual, Set Types): those of the other that aren't there go last, in its order (profile)
abbrev pub set_or : SetContent → List Element → SetContent
set_or set others =
    record {
      next = set.next + length (those_not_in set.elements others);
      elements = set.elements ++ elements_from set.next (those_not_in set.elements others);
    }

-- `s &= t` (Python manual, Set Types)
abbrev pub set_and : SetContent → List Element → SetContent
set_and set others = record { next = set.next; elements = those_in others set.elements }

-- `s -= t` (Python manual, Set Types)
abbrev pub set_sub : SetContent → List Element → SetContent
set_sub set others = record { next = set.next; elements = those_not_in others set.elements }

-- `s ^= t` (Python manual, Set Types): those that were in both go, and those of the other that weren't there go last,
-- in its order (profile)
abbrev pub set_xor : SetContent → List Element → SetContent
set_xor set others =
    record {
      next = set.next + length (those_not_in set.elements others);
      elements = those_not_in others set.elements ++ elements_from set.next (those_not_in set.elements others);
    }

-- `s <= t` (Python manual, Set Types)
abbrev pub is_subset : List Element → List Element → Bool
is_subset elements others = list_all (λ element. has_element others element.key) elements

-- `s == t`: each is a subset of the other (Python manual, Set Types)
abbrev pub same_elements : List Element → List Element → Bool
same_elements elements others = is_subset elements others && is_subset others elements

-- `s.isdisjoint(t)` (Python manual, Set Types)
abbrev pub is_disjoint : List Element → List Element → Bool
is_disjoint elements others = not (list_any (λ element. has_element others element.key) elements)
