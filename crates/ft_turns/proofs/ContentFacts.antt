-- What is said of keys and values stays so of what a content has after each change of it, where it is so of what it had and of the call's.
use Rattle.std.proofs.Common.{◌≡◌, ℕ, suc, ◌+◌, ◌-◌, ◌<◌, Bool, true, false, List, [], ◌∷◌, ◌++◌, length, get_or, take, drop, reverse, Option, None, Some, refl, sym, subst, arith, cond, inl, inr, ℤ, pos, negsuc, ◌==◌}
use Rattle.std.specs.Prelude.{if◌then◌else◌, All, slice_get, slice_index_or, filter, nat_le, ◌%◌}
use Rattle.std.specs.List.{find, remove}
use Rattle.std.specs.Option.{option_map}
use Rattle.std.proofs.lemmas.Bool.{cases_lt}
use Rattle.std.proofs.lemmas.List.{get_or-reverse, length-reverse, get_or_past}
use Rattle.std.proofs.lemmas.List.Elements.{All-nil, All-cons, All-head, All-tail, All-push, All-append, All-map, All-filter, All-take, All-drop}
use Rattle.std.proofs.lemmas.Option.{none-some, slice_get_within, get_or_from_slice_get}
use Rattle.ft_model.specs.declared.data.Key.{Key}
use Rattle.ft_model.specs.declared.data.Value.{Value}
use Rattle.ft_model.specs.declared.data.Value.TheVariants as value
use Rattle.ft_model.specs.declared.content.Content.{Content}
use Rattle.ft_model.specs.declared.content.Content.TheVariants as content
use Rattle.ft_model.specs.declared.content.DictPair.{DictPair}
use Rattle.ft_model.specs.declared.content.Element.{Element}
use Rattle.ft_model.specs.declared.reply.Reply.{Reply}
use Rattle.ft_model.specs.declared.reply.Reply.TheVariants as reply
use Rattle.ft_model.specs.declared.reply.Shown.{Shown}
use Rattle.ft_model.specs.declared.reply.Shown.TheVariants as shown
use Rattle.ft_model.specs.Keys.{as_value}
use Rattle.ft_model.specs.Contents.{DictContent, SetContent, is_at, has_key, with_value, dict_get, dict_set, dict_update, pairs_from, has_element, set_add, elements_from}
use Rattle.ft_model.specs.Lists.{index_in, list_slice, clamped_in, list_insert}
use Rattle.ft_model.specs.Deques.{DequeContent, right_within, left_within, with_deque_items, deque_extend, deque_extend_left, rotated, deque_rotate, deque_clear, deque_get}
use Rattle.ft_model.specs.Views.{keys_in}

-- what stands in a list keeps to what all keep to
pub held_at : {X : Type 0} (P : X → Type 0) (xs : List X) (place : ℕ) (x : X) → All P xs → slice_get xs place ≡ Some x → P x
held_at P xs place x all at = subst P (get_or_from_slice_get xs place x x at) (all place x (slice_get_within xs place x at))

pub found_in : {X : Type 0} (P : X → Type 0) (p : X → Bool) (xs : List X) (x : X) → All P xs → find p xs ≡ Some x → P x
found_in P p [] x all found = absurd (none-some x found)
found_in P p (y ∷ xs) x all found =
    elim (p y) as (λ b. cond b (Some y) (find p xs) ≡ Some x → P x) [
      | true ↦ λ same. (let is : y ≡ x = cc in subst P is (All-head P y xs all))
      | false ↦ λ later. found_in P p xs x (All-tail P y xs all) later
    ] found

All-remove : {X : Type 0} (P : X → Type 0) (xs : List X) (place : ℕ) → All P xs → All P (remove xs place)
All-remove P xs place all = All-append P (take place xs) (drop (suc place) xs) (All-take P place xs all) (All-drop P (suc place) xs all)

pub all_reversed : {X : Type 0} (P : X → Type 0) (xs : List X) → All P xs → All P (reverse xs)
all_reversed P xs all place d low =
    let within : place < length xs = omega (arith, length-reverse xs) in
    subst P (sym (get_or-reverse xs place d within)) (all (length xs - 1 - place) d (omega arith))

-- of a pair, an element, a reply and a content, where it is said of keys, of values and of counts; no container says that calls waited
abbrev pub IsPairBy : (Key → Type 0) → (Value → Type 0) → DictPair → Type 0
IsPairBy K V pair = K pair.key × V pair.value

abbrev pub IsElementBy : (Key → Type 0) → Element → Type 0
IsElementBy K element = K element.key

abbrev pub IsShownBy : (Key → Type 0) → (Value → Type 0) → Shown → Type 0
IsShownBy K V (shown.Dict pairs) = All (λ pair. K pair.0 × V pair.1) pairs
IsShownBy K V (shown.List items) = All V items
IsShownBy K V (shown.Set elements) = All K elements

abbrev pub IsReplyBy : (Key → Type 0) → (Value → Type 0) → (ℕ → Type 0) → Reply → Type 0
IsReplyBy K V C (reply.Value v) = V v
IsReplyBy K V C (reply.Pair k v) = K k × V v
IsReplyBy K V C (reply.Count count) = C count
IsReplyBy K V C (reply.Dict pairs) = All (λ pair. K pair.0 × V pair.1) pairs
IsReplyBy K V C (reply.List items) = All V items
IsReplyBy K V C (reply.Set elements) = All K elements
IsReplyBy K V C (reply.World world) = All (IsShownBy K V) world
IsReplyBy K V C (reply.Suspended count) = ⊥
IsReplyBy K V C other = Unit {0}

abbrev pub IsContentBy : (Key → Type 0) → (Value → Type 0) → Content → Type 0
IsContentBy K V (content.Dict dict) = All (IsPairBy K V) dict.pairs
IsContentBy K V (content.List items) = All V items
IsContentBy K V (content.Set set) = All (IsElementBy K) set.elements
IsContentBy K V (content.Deque deque) = All V deque.items

-- it is said of None, and of a key that stands as a value
pub record GoTogether (K : Key → Type 0) (V : Value → Type 0) : Type 0 where
  pub nothing : V value.Nothing
  pub key_value : (k : Key) → K k → V (as_value k)

module _ (K : Key → Type 0) (V : Value → Type 0) where
  -- ---- dicts

  pub got_value : (pairs : List DictPair) (k : Key) (v : Value) → All (IsPairBy K V) pairs → dict_get pairs k ≡ Some v → V v
  got_value pairs k v all got =
      elim (find (is_at k) pairs) as (λ o. find (is_at k) pairs ≡ o → option_map (λ (p : DictPair). p.value) o ≡ Some v → V v) [
        | None ↦ λ _ none. absurd (none-some v none)
        | Some pair ↦ λ found some. (let is : pair.value ≡ v = cc in subst V is (found_in (IsPairBy K V) (is_at k) pairs pair all found).1)
      ] refl got

  updated : (k : Key) (v : Value) (pair : DictPair) → V v → IsPairBy K V pair → IsPairBy K V (if is_at k pair then record pair { value = v } else pair)
  updated k v pair new old = elim (is_at k pair) as (λ b. IsPairBy K V (if b then record pair { value = v } else pair)) [ true ↦ (old.0, new) | false ↦ old ]

  pub set_pairs : (dict : DictContent) (k : Key) (v : Value) → K k → V v → All (IsPairBy K V) dict.pairs → All (IsPairBy K V) (dict_set dict k v).pairs
  set_pairs dict k v of_key of_value old =
      elim (has_key dict.pairs k) as (λ b. let left : DictContent = if b then record { next = dict.next; pairs = with_value dict.pairs k v } else record { next = dict.next + 1; pairs = dict.pairs ++ record { serial = dict.next; key = k; value = v } ∷ [] } in All (IsPairBy K V) left.pairs) [
        | true ↦ All-map (IsPairBy K V) (λ (pair : DictPair). if is_at k pair then record pair { value = v } else pair) dict.pairs (λ i d low. updated k v (get_or dict.pairs i d) of_value (old i d low))
        | false ↦ All-push (IsPairBy K V) dict.pairs (record { serial = dict.next; key = k; value = v }) old (of_key, of_value)
      ]

  pub update_pairs : (dict : DictContent) (others : List DictPair) → All (IsPairBy K V) others → All (IsPairBy K V) dict.pairs → All (IsPairBy K V) (dict_update dict others).pairs
  update_pairs dict [] new old = old
  update_pairs dict (pair ∷ others) new old =
      let first : IsPairBy K V pair = All-head (IsPairBy K V) pair others new in
      update_pairs (dict_set dict pair.key pair.value) others (All-tail (IsPairBy K V) pair others new) (set_pairs dict pair.key pair.value first.0 first.1 old)

  pub copied_pairs : (next : ℕ) (pairs : List DictPair) → All (IsPairBy K V) pairs → All (IsPairBy K V) (pairs_from next pairs)
  copied_pairs next [] old = old
  copied_pairs next (pair ∷ pairs) old = All-cons (IsPairBy K V) (record pair { serial = next }) (pairs_from (next + 1) pairs) (All-head (IsPairBy K V) pair pairs old) (copied_pairs (next + 1) pairs (All-tail (IsPairBy K V) pair pairs old))

  -- ---- lists

  pub item_value : V value.Nothing → (items : List Value) (place : ℕ) → All V items → V (slice_index_or items place value.Nothing)
  item_value nothing items place all =
      elim (cases_lt place (length items)) [
        | inl low ↦ all place value.Nothing low
        | inr high ↦ subst V (sym (get_or_past items place value.Nothing high)) nothing
      ]

  pub removed_items : (items : List Value) (place : ℕ) → All V items → All V (remove items place)
  removed_items items place all = All-remove V items place all

  pub inserted_items : (items : List Value) (index : ℤ) (v : Value) → V v → All V items → All V (list_insert items index v)
  inserted_items items index v new all =
      let at = clamped_in (length items) index in
      All-append V (take at items) (v ∷ drop at items) (All-take V at items all) (All-cons V v (drop at items) new (All-drop V at items all))

  pub sliced_items : (items : List Value) (start end : ℤ) → All V items → All V (list_slice items start end)
  sliced_items items start end all = All-drop V (clamped_in (length items) start) (take (clamped_in (length items) end) items) (All-take V (clamped_in (length items) end) items all)

  pub reversed_items : (items : List Value) → All V items → All V (reverse items)
  reversed_items items all = all_reversed V items all

  -- ---- sets

  pub added_elements : (set : SetContent) (k : Key) → K k → All (IsElementBy K) set.elements → All (IsElementBy K) (set_add set k).elements
  added_elements set k new old =
      elim (has_element set.elements k) as (λ b. let left : SetContent = if b then set else record { next = set.next + 1; elements = set.elements ++ record { serial = set.next; key = k } ∷ [] } in All (IsElementBy K) left.elements) [
        | true ↦ old
        | false ↦ All-push (IsElementBy K) set.elements (record { serial = set.next; key = k }) old new
      ]

  pub renumbered : (next : ℕ) (elements : List Element) → All (IsElementBy K) elements → All (IsElementBy K) (elements_from next elements)
  renumbered next [] old = old
  renumbered next (element ∷ elements) old = All-cons (IsElementBy K) (record element { serial = next }) (elements_from (next + 1) elements) (All-head (IsElementBy K) element elements old) (renumbered (next + 1) elements (All-tail (IsElementBy K) element elements old))

  -- ---- keys

  pub all_keys : (pairs : List DictPair) → All (IsPairBy K V) pairs → All K (keys_in pairs)
  all_keys pairs all = All-map K (λ (pair : DictPair). pair.key) pairs (λ i d low. (all i d low).0)

  pub kept_keys : (keeps : DictPair → Bool) (pairs : List DictPair) → All (IsPairBy K V) pairs → All K (keys_in (filter keeps pairs))
  kept_keys keeps pairs all = all_keys (filter keeps pairs) (All-filter keeps (IsPairBy K V) pairs all)

  -- ---- deques

  pub right_items : (bound : Option ℕ) (items : List Value) → All V items → All V (right_within bound items)
  right_items None items all = all
  right_items (Some most) items all = All-drop V (length items - most) items all

  pub left_items : (bound : Option ℕ) (items : List Value) → All V items → All V (left_within bound items)
  left_items None items all = all
  left_items (Some most) items all = All-take V most items all

  pub extended_items : (deque : DequeContent) (others : List Value) → All V deque.items → All V others → All V (deque_extend deque others).items
  extended_items deque others old new =
      elim (length others == 0) as (λ b. let left : DequeContent = if b then deque else with_deque_items deque (right_within deque.bound (deque.items ++ others)) in All V left.items) [
        | true ↦ old
        | false ↦ right_items deque.bound (deque.items ++ others) (All-append V deque.items others old new)
      ]

  pub extended_left_items : (deque : DequeContent) (others : List Value) → All V deque.items → All V others → All V (deque_extend_left deque others).items
  extended_left_items deque others old new =
      elim (length others == 0) as (λ b. let left : DequeContent = if b then deque else with_deque_items deque (left_within deque.bound (reverse others ++ deque.items)) in All V left.items) [
        | true ↦ old
        | false ↦ left_items deque.bound (reverse others ++ deque.items) (All-append V (reverse others) deque.items (reversed_items others new) old)
      ]

  turned : (items : List Value) (n : ℕ) → All V items → All V (drop n items ++ take n items)
  turned items n all = All-append V (drop n items) (take n items) (All-drop V n items all) (All-take V n items all)

  rotated_all : (items : List Value) (steps : ℤ) → All V items → All V (rotated items steps)
  rotated_all items (pos steps) all = turned items (length items - steps % length items) all
  rotated_all items (negsuc below) all = turned items (suc below % length items) all

  pub rotated_items : (deque : DequeContent) (steps : ℤ) → All V deque.items → All V (deque_rotate deque steps).items
  rotated_items deque steps old =
      elim (nat_le (length deque.items) 1) as (λ b. let left : DequeContent = if b then deque else with_deque_items deque (rotated deque.items steps) in All V left.items) [
        | true ↦ old
        | false ↦ rotated_all deque.items steps old
      ]

  pub cleared_items : (deque : DequeContent) → All V deque.items → All V (deque_clear deque).items
  cleared_items deque old =
      elim (length deque.items == 0) as (λ b. let left : DequeContent = if b then deque else with_deque_items deque [] in All V left.items) [
        | true ↦ old
        | false ↦ All-nil V
      ]

  pub got_item : V value.Nothing → (items : List Value) (index : ℤ) (v : Value) → All V items → deque_get items index ≡ Some v → V v
  got_item nothing items index v all got =
      elim (index_in (length items) index) as (λ o. option_map (λ found. slice_index_or items found value.Nothing) o ≡ Some v → V v) [
        | None ↦ λ none. absurd (none-some v none)
        | Some found ↦ λ some. (let is : slice_index_or items found value.Nothing ≡ v = cc in subst V is (item_value nothing items found all))
      ] got
