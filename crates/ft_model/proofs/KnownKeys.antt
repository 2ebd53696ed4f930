-- Contents that keep their rule, with keys among those that are known and few serials, and what the changes of one dict or set leave of that.
use Rattle.std.proofs.Common.{◌≡◌, ◌≢◌, ℕ, suc, zero, ◌+◌, ◌-◌, ◌<◌, ◌≤◌, Bool, true, false, not, List, [], ◌∷◌, ◌++◌, length, map, take, drop, get_or, refl, sym, ap, ◌∙◌, arith}
use Rattle.std.specs.Prelude.{◌||◌, All, AllPairs, filter, min, if◌then◌else◌}
use Rattle.std.specs.List.{list_any}
use Rattle.std.specs.Cmp.{IsEquivalence}
use Rattle.std.proofs.lemmas.Bool.{false≢true}
use Rattle.std.proofs.lemmas.List.{length-map, get_or-map, get_or-take, get_or-drop, length-take, length-drop}
use Rattle.std.proofs.lemmas.List.Quantifiers.{all_pairs_push}
use Rattle.std.proofs.lemmas.List.Elements.{All-cons, All-filter, All-nil, All-push, All-append, All-take, All-drop}
use Rattle.std.proofs.lemmas.Map.Made.{IsDistinct-from_AllPairs, length-le_from_is_member}
use Rattle.ft_model.specs.declared.data.Key.{Key}
use Rattle.ft_model.specs.declared.data.Value.{Value}
use Rattle.ft_model.specs.declared.content.DictPair.{DictPair}
use Rattle.ft_model.specs.declared.content.Element.{Element}
use Rattle.ft_model.specs.Keys.{same_key}
use Rattle.ft_model.specs.Contents.{DictContent, IsDict, is_at, has_key, with_value, dict_set, dict_update, pairs_from, dict_copy, SetContent, IsSet, has_element, elements_from, those_not_in, set_add, set_or, set_xor}
use Rattle.ft_model.proofs.KeyLemmas.{same_key-true, same_key-refl, same_key-flip}
use Rattle.ft_model.proofs.Copies.{length-pairs_from, get-pairs_from, IsDict_copy, length-elements_from, get-elements_from}
use Rattle.ft_model.proofs.Dicts.{IsDict-filter}
use Rattle.ft_model.proofs.Sets.{IsSet-filter, IsSet-or, IsSet-xor}

-- a key is among the known ones
abbrev pub known : List Key → Key → Bool
known keys key = list_any (same_key key) keys

same_key-equivalence : IsEquivalence same_key
same_key-equivalence = record { refl = same_key-refl; symm = same_key-flip; congr = λ x y z same. ap (λ k. same_key k z) (same_key-true x y same) }

pub known_later : (first : Key) (keys : List Key) (key : Key) → known keys key ≡ true → known (first ∷ keys) key ≡ true
known_later first keys key there =
    elim (same_key key first) as (λ b. (b || known keys key) ≡ true) [
      | true ↦ refl
      | false ↦ there
    ]

pub known_first : (key : Key) (keys : List Key) → known (key ∷ keys) key ≡ true
known_first key keys = simp (same_key-refl key)

-- a key that is known is one of at least one
pub some_known : (keys : List Key) (key : Key) → known keys key ≡ true → 0 < length keys
some_known [] key there = absurd (false≢true there)
some_known (first ∷ keys) key there = omega arith

-- ---- there are no more distinct keys than known ones

module _ {X : Type 0} (key_of : X → Key) (keys : List Key) where
  among : (entries : List X) → All (λ entry. known keys (key_of entry) ≡ true) entries → (key : Key) → known (map key_of entries) key ≡ true → known keys key ≡ true
  among [] each key there = absurd (false≢true there)
  among (entry ∷ entries) each key there =
      elim (same_key key (key_of entry)) as (λ b. same_key key (key_of entry) ≡ b → known keys key ≡ true) [
        | true ↦ λ same. ap (known keys) (same_key-true key (key_of entry) same) ∙ each zero entry (omega arith)
        | false ↦ λ other. among entries (λ k d low. each (suc k) d (omega arith)) key (simp other at there)
      ] refl

  names_differ : (entries : List X) → AllPairs (λ a b. key_of a ≢ key_of b) entries → AllPairs (λ a b. a ≢ b) (map key_of entries)
  names_differ [] distinct = λ i j d lt low. absurd (let none : j < 0 = low in omega arith)
  names_differ (first ∷ entries) distinct = λ i j d lt low same.
      let long : length (map key_of (first ∷ entries)) ≡ length (first ∷ entries) = length-map (first ∷ entries) key_of in
      distinct i j first lt (omega arith) (sym (at (first ∷ entries) i d first (omega arith)) ∙ same ∙ at (first ∷ entries) j d first (omega arith))
    where
      at : (entries : List X) (k : ℕ) (e : Key) (d : X) → k < length entries → get_or (map key_of entries) k e ≡ key_of (get_or entries k d)
      at entries k e d low = get_or-map key_of entries k d e low

  pub few_entries : (entries : List X) → AllPairs (λ a b. key_of a ≢ key_of b) entries → All (λ entry. known keys (key_of entry) ≡ true) entries → length entries ≤ length keys
  few_entries entries distinct each =
      let long : length (map key_of entries) ≡ length entries = length-map entries key_of in
      let few : length (map key_of entries) ≤ length keys = length-le_from_is_member same_key-equivalence (map key_of entries) keys (IsDistinct-from_AllPairs (λ a b. (same_key-true a b, λ same. ap (same_key a) (sym same) ∙ same_key-refl a)) (map key_of entries) (names_differ entries distinct)) (among entries each) in
      omega arith

-- keys in front of others are known
pub some_keys : {X : Type 0} (key_of : X → Key) (keys : List Key) (entries : List X) → All (λ entry. known (map key_of entries ++ keys) (key_of entry) ≡ true) entries
some_keys key_of keys [] = All-nil _
some_keys key_of keys (first ∷ entries) = All-cons (λ entry. known (map key_of (first ∷ entries) ++ keys) (key_of entry) ≡ true) first entries (known_first (key_of first) (map key_of entries ++ keys)) (λ k d low. known_later (key_of first) (map key_of entries ++ keys) (key_of (get_or entries k d)) (some_keys key_of keys entries k d low))

-- some of a list are no more than all
pub length-filter-le : {X : Type 0} (stays : X → Bool) (xs : List X) → length (filter stays xs) ≤ length xs
length-filter-le stays [] = omega arith
length-filter-le stays (x ∷ xs) =
    let rest = length-filter-le stays xs in
    elim (stays x) as (λ b. stays x ≡ b → length (filter stays (x ∷ xs)) ≤ length (x ∷ xs)) [
      | true ↦ λ yes. simp yes (omega arith)
      | false ↦ λ no. simp no (omega arith)
    ] refl

-- ---- dicts

-- a dict that keeps its rule, whose keys are known, and whose next serial is at most that
pub record FewPairs (keys : List Key) (drawn : ℕ) (dict : DictContent) : Type 0 where
  pub rule : IsDict dict.next dict.pairs
  pub within : All (λ pair. known keys pair.key ≡ true) dict.pairs
  pub below : dict.next ≤ drawn

pub pairs_few : (keys : List Key) (drawn : ℕ) (dict : DictContent) → FewPairs keys drawn dict → length dict.pairs ≤ length keys
pairs_few keys drawn dict few = few_entries (λ pair. pair.key) keys dict.pairs few.rule.distinct few.within

pub pairs_stay : (keys more : List Key) (drawn most : ℕ) (dict : DictContent) → ((key : Key) → known keys key ≡ true → known more key ≡ true) → drawn ≤ most → FewPairs keys drawn dict → FewPairs more most dict
pairs_stay keys more drawn most dict still le few =
    let below = few.below in
    record {
      rule = few.rule;
      within = λ k d low. still (get_or dict.pairs k d).key (few.within k d low);
      below = omega arith;
    }

abbrev updated : Key → Value → DictPair → DictPair
updated key value pair = if is_at key pair then record pair { value = value } else pair

updated-key : (key : Key) (value : Value) (pair : DictPair) → (updated key value pair).key ≡ pair.key
updated-key key value pair =
    elim (is_at key pair) as (λ b. (if b then record pair { value = value } else pair).key ≡ pair.key) [
      | true ↦ refl
      | false ↦ refl
    ]

updated-serial : (key : Key) (value : Value) (pair : DictPair) → (updated key value pair).serial ≡ pair.serial
updated-serial key value pair =
    elim (is_at key pair) as (λ b. (if b then record pair { value = value } else pair).serial ≡ pair.serial) [
      | true ↦ refl
      | false ↦ refl
    ]

-- a key that isn't there is the key of no pair
absent-each : (pairs : List DictPair) (key : Key) → has_key pairs key ≡ false → All (λ pair. is_at key pair ≡ false) pairs
absent-each [] key none = All-nil _
absent-each (pair ∷ pairs) key none =
    elim (is_at key pair) as (λ b. is_at key pair ≡ b → All (λ pair. is_at key pair ≡ false) (pair ∷ pairs)) [
      | true ↦ λ here. absurd (false≢true (sym none ∙ simp here))
      | false ↦ λ past. All-cons (λ (pair : DictPair). is_at key pair ≡ false) pair pairs past (absent-each pairs key (simp past at none))
    ] refl

set-present : (keys : List Key) (drawn : ℕ) (dict : DictContent) (key : Key) (value : Value) → FewPairs keys drawn dict → FewPairs keys drawn (record { next = dict.next; pairs = with_value dict.pairs key value })
set-present keys drawn dict key value few =
    let pairs = dict.pairs in
    let long : length (with_value pairs key value) ≡ length pairs = length-map pairs (updated key value) in
    let key_at : (k : ℕ) (d : DictPair) → k < length pairs → (get_or (with_value pairs key value) k d).key ≡ (get_or pairs k d).key = λ k d low. ap (λ (p : DictPair). p.key) (get_or-map (updated key value) pairs k d d low) ∙ updated-key key value (get_or pairs k d) in
    let serial_at : (k : ℕ) (d : DictPair) → k < length pairs → (get_or (with_value pairs key value) k d).serial ≡ (get_or pairs k d).serial = λ k d low. ap (λ (p : DictPair). p.serial) (get_or-map (updated key value) pairs k d d low) ∙ updated-serial key value (get_or pairs k d) in
    record {
      rule = record {
        distinct = λ i j d lt low same. few.rule.distinct i j d lt (omega arith) (sym (key_at i d (omega arith)) ∙ same ∙ key_at j d (omega arith));
        rising = λ i j d lt low. rw (serial_at i d (omega arith), serial_at j d (omega arith)) (few.rule.rising i j d lt (omega arith));
        below = λ k d low. rw (serial_at k d (omega arith)) (few.rule.below k d (omega arith));
      };
      within = λ k d low. ap (known keys) (key_at k d (omega arith)) ∙ few.within k d (omega arith);
      below = few.below;
    }

set-absent : (keys : List Key) (drawn : ℕ) (dict : DictContent) (key : Key) (value : Value) → known keys key ≡ true → has_key dict.pairs key ≡ false → FewPairs keys drawn dict → FewPairs keys (drawn + 1) (record { next = dict.next + 1; pairs = dict.pairs ++ record { serial = dict.next; key = key; value = value } ∷ [] })
set-absent keys drawn dict key value there none few =
    let pair : DictPair = record { serial = dict.next; key = key; value = value } in
    let below = few.below in
    let others = absent-each dict.pairs key none in
    record {
      rule = record {
        distinct = all_pairs_push (λ (a b : DictPair). a.key ≢ b.key) dict.pairs pair few.rule.distinct (λ k d low same. false≢true (sym (others k d low) ∙ (ap (λ x. same_key x key) same ∙ same_key-refl key)));
        rising = all_pairs_push (λ (a b : DictPair). a.serial < b.serial) dict.pairs pair few.rule.rising (λ k d low. few.rule.below k d low);
        below = All-push (λ (p : DictPair). p.serial < dict.next + 1) dict.pairs pair (λ k d low. let b : (get_or dict.pairs k d).serial < dict.next = few.rule.below k d low in omega arith) (omega arith);
      };
      within = All-push (λ (p : DictPair). known keys p.key ≡ true) dict.pairs pair few.within there;
      below = omega arith;
    }

-- `d[k] = v`
pub set_few : (keys : List Key) (drawn : ℕ) (dict : DictContent) (key : Key) (value : Value) → known keys key ≡ true → FewPairs keys drawn dict → FewPairs keys (drawn + 1) (dict_set dict key value)
set_few keys drawn dict key value there few =
    elim (has_key dict.pairs key) as (λ b. has_key dict.pairs key ≡ b → FewPairs keys (drawn + 1) (dict_set dict key value)) [
      | true ↦ λ has. simp has (pairs_stay keys keys drawn (drawn + 1) _ (λ key known. known) (omega arith) (set-present keys drawn dict key value few))
      | false ↦ λ none. simp none (set-absent keys drawn dict key value there none few)
    ] refl

-- `d.update(e)`
pub update_few : (keys : List Key) (others : List DictPair) (drawn : ℕ) (dict : DictContent) → All (λ pair. known keys pair.key ≡ true) others → FewPairs keys drawn dict → FewPairs keys (drawn + length others) (dict_update dict others)
update_few keys [] drawn dict each few = pairs_stay keys keys drawn (drawn + 0) dict (λ key known. known) (omega arith) few
update_few keys (pair ∷ others) drawn dict each few =
    pairs_stay keys keys (drawn + 1 + length others) (drawn + length (pair ∷ others)) (dict_update dict (pair ∷ others)) (λ key known. known) (omega arith)
    (update_few keys others (drawn + 1) (dict_set dict pair.key pair.value) (λ k d low. each (suc k) d (omega arith)) (set_few keys drawn dict pair.key pair.value (each zero pair (omega arith)) few))

-- a copy with new serials
pub copy_few : (keys : List Key) (drawn other : ℕ) (dict : DictContent) (pairs : List DictPair) → IsDict other pairs → All (λ pair. known keys pair.key ≡ true) pairs → FewPairs keys drawn dict → FewPairs keys (drawn + length pairs) (dict_copy dict pairs)
copy_few keys drawn other dict pairs rule each few =
    let long : length (pairs_from dict.next pairs) ≡ length pairs = length-pairs_from dict.next pairs in
    let below = few.below in
    record {
      rule = IsDict_copy dict.next other pairs rule;
      within = λ k d low. ap (λ (p : DictPair). known keys p.key) (get-pairs_from dict.next pairs k d (omega arith)) ∙ each k d (omega arith);
      below = omega arith;
    }

-- some of the pairs, in their order
pub filter_few : (keys : List Key) (drawn : ℕ) (dict : DictContent) (stays : DictPair → Bool) → FewPairs keys drawn dict → FewPairs keys drawn (record { next = dict.next; pairs = filter stays dict.pairs })
filter_few keys drawn dict stays few =
    record {
      rule = IsDict-filter dict.next dict.pairs stays few.rule;
      within = All-filter stays (λ pair. known keys pair.key ≡ true) dict.pairs few.within;
      below = few.below;
    }

-- the first pairs
pub take_few : (keys : List Key) (drawn : ℕ) (dict : DictContent) (count : ℕ) → FewPairs keys drawn dict → FewPairs keys drawn (record { next = dict.next; pairs = take count dict.pairs })
take_few keys drawn dict count few =
    let pairs = dict.pairs in
    let long : length (take count pairs) ≡ min count (length pairs) = length-take count pairs in
    record {
      rule = record {
        distinct = λ i j d lt low same. few.rule.distinct i j d lt (omega arith) (sym (get_at i d (omega arith)) ∙ same ∙ get_at j d (omega arith));
        rising = λ i j d lt low. rw (get_or-take count pairs i d (omega arith), get_or-take count pairs j d (omega arith)) (few.rule.rising i j d lt (omega arith));
        below = All-take (λ (p : DictPair). p.serial < dict.next) count pairs few.rule.below;
      };
      within = All-take (λ (p : DictPair). known keys p.key ≡ true) count pairs few.within;
      below = few.below;
    }
  where
    get_at : (k : ℕ) (d : DictPair) → k < count → (get_or (take count dict.pairs) k d).key ≡ (get_or dict.pairs k d).key
    get_at k d low = ap (λ (p : DictPair). p.key) (get_or-take count dict.pairs k d low)

pub clear_few : (keys : List Key) (drawn : ℕ) (dict : DictContent) → FewPairs keys drawn dict → FewPairs keys drawn (record { next = dict.next; pairs = [] })
clear_few keys drawn dict few =
    record {
      rule = record { distinct = λ i j d lt low. absurd (let none : j < 0 = low in omega arith); rising = λ i j d lt low. absurd (let none : j < 0 = low in omega arith); below = All-nil _ };
      within = All-nil _;
      below = few.below;
    }

-- ---- sets

-- a set that keeps its rule, whose elements are known, and whose next serial is at most that
pub record FewElements (keys : List Key) (drawn : ℕ) (set : SetContent) : Type 0 where
  pub rule : IsSet set.next set.elements
  pub within : All (λ element. known keys element.key ≡ true) set.elements
  pub below : set.next ≤ drawn

pub elements_few : (keys : List Key) (drawn : ℕ) (set : SetContent) → FewElements keys drawn set → length set.elements ≤ length keys
elements_few keys drawn set few = few_entries (λ element. element.key) keys set.elements few.rule.distinct few.within

pub elements_stay : (keys more : List Key) (drawn most : ℕ) (set : SetContent) → ((key : Key) → known keys key ≡ true → known more key ≡ true) → drawn ≤ most → FewElements keys drawn set → FewElements more most set
elements_stay keys more drawn most set still le few =
    let below = few.below in
    record {
      rule = few.rule;
      within = λ k d low. still (get_or set.elements k d).key (few.within k d low);
      below = omega arith;
    }

-- elements with new serials have the keys that they had
known-elements_from : (keys : List Key) (next : ℕ) (elements : List Element) → All (λ element. known keys element.key ≡ true) elements → All (λ element. known keys element.key ≡ true) (elements_from next elements)
known-elements_from keys next elements each =
    λ k d low.
    let long : length (elements_from next elements) ≡ length elements = length-elements_from next elements in
    ap (λ (e : Element). known keys e.key) (get-elements_from next elements k d (omega arith)) ∙ each k d (omega arith)

-- `s |= t`
pub or_few : (keys : List Key) (drawn other : ℕ) (set : SetContent) (others : List Element) → IsSet other others → All (λ element. known keys element.key ≡ true) others → FewElements keys drawn set → FewElements keys (drawn + length others) (set_or set others)
or_few keys drawn other set others rule each few =
    let below = few.below in
    let fewer : length (those_not_in set.elements others) ≤ length others = length-filter-le (λ element. not (has_element set.elements element.key)) others in
    record {
      rule = IsSet-or set.next other set.elements others few.rule rule;
      within = All-append (λ (element : Element). known keys element.key ≡ true) set.elements _ few.within (known-elements_from keys set.next _ (All-filter (λ (element : Element). not (has_element set.elements element.key)) (λ element. known keys element.key ≡ true) others each));
      below = omega arith;
    }

-- `s ^= t`
pub xor_few : (keys : List Key) (drawn other : ℕ) (set : SetContent) (others : List Element) → IsSet other others → All (λ element. known keys element.key ≡ true) others → FewElements keys drawn set → FewElements keys (drawn + length others) (set_xor set others)
xor_few keys drawn other set others rule each few =
    let below = few.below in
    let fewer : length (those_not_in set.elements others) ≤ length others = length-filter-le (λ element. not (has_element set.elements element.key)) others in
    record {
      rule = IsSet-xor set.next other set.elements others few.rule rule;
      within = All-append (λ (element : Element). known keys element.key ≡ true) (those_not_in others set.elements) _ (All-filter (λ (element : Element). not (has_element others element.key)) (λ element. known keys element.key ≡ true) set.elements few.within) (known-elements_from keys set.next _ (All-filter (λ (element : Element). not (has_element set.elements element.key)) (λ element. known keys element.key ≡ true) others each));
      below = omega arith;
    }

-- a set of one element
IsSet-one : (key : Key) → IsSet 1 (record { serial = 0; key = key } ∷ [])
IsSet-one key = record { distinct = λ i j d lt low. absurd (let one : j < 1 = low in omega arith); rising = λ i j d lt low. absurd (let one : j < 1 = low in omega arith); below = All-push (λ (e : Element). e.serial < 1) [] (record { serial = 0; key = key }) (All-nil _) (omega arith) }

-- `s.add(k)` is `s |= {k}`
pub add_few : (keys : List Key) (drawn : ℕ) (set : SetContent) (key : Key) → known keys key ≡ true → FewElements keys drawn set → FewElements keys (drawn + 1) (set_add set key)
add_few keys drawn set key there few =
    let one : Element = record { serial = 0; key = key } in
    let joined : FewElements keys (drawn + 1) (set_or set (one ∷ [])) = or_few keys drawn 1 set (one ∷ []) (IsSet-one key) (All-push (λ (element : Element). known keys element.key ≡ true) [] one (All-nil _) there) few in
    elim (has_element set.elements key) as (λ b. has_element set.elements key ≡ b → FewElements keys (drawn + 1) (set_add set key)) [
      | true ↦ λ has. simp has (elements_stay keys keys drawn (drawn + 1) set (λ key known. known) (omega arith) few)
      | false ↦ λ none. simp none (simp none at joined)
    ] refl

-- some of the elements, in their order
pub filter_few_elements : (keys : List Key) (drawn : ℕ) (set : SetContent) (stays : Element → Bool) → FewElements keys drawn set → FewElements keys drawn (record { next = set.next; elements = filter stays set.elements })
filter_few_elements keys drawn set stays few =
    record {
      rule = IsSet-filter set.next set.elements stays few.rule;
      within = All-filter stays (λ element. known keys element.key ≡ true) set.elements few.within;
      below = few.below;
    }

-- all but the first elements
pub drop_few : (keys : List Key) (drawn : ℕ) (set : SetContent) (count : ℕ) → FewElements keys drawn set → FewElements keys drawn (record { next = set.next; elements = drop count set.elements })
drop_few keys drawn set count few =
    let elements = set.elements in
    let long : length (drop count elements) ≡ length elements - count = length-drop count elements in
    record {
      rule = record {
        distinct = λ i j d lt low same. few.rule.distinct (count + i) (count + j) d (omega arith) (omega arith) (sym (ap (λ (e : Element). e.key) (get_or-drop count elements i d)) ∙ same ∙ ap (λ (e : Element). e.key) (get_or-drop count elements j d));
        rising = λ i j d lt low. rw (get_or-drop count elements i d, get_or-drop count elements j d) (few.rule.rising (count + i) (count + j) d (omega arith) (omega arith));
        below = All-drop (λ (e : Element). e.serial < set.next) count elements few.rule.below;
      };
      within = All-drop (λ (e : Element). known keys e.key ≡ true) count elements few.within;
      below = few.below;
    }

pub clear_few_elements : (keys : List Key) (drawn : ℕ) (set : SetContent) → FewElements keys drawn set → FewElements keys drawn (record { next = set.next; elements = [] })
clear_few_elements keys drawn set few =
    record {
      rule = record { distinct = λ i j d lt low. absurd (let none : j < 0 = low in omega arith); rising = λ i j d lt low. absurd (let none : j < 0 = low in omega arith); below = All-nil _ };
      within = All-nil _;
      below = few.below;
    }
