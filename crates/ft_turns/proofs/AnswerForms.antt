-- What an answer says and leaves: it raises no MemoryError, changes the world in a write alone and whatever hands it is asked with, makes the cursor that its call names, and what is said of all keys and values that were there, and of the call's, is so of those in it.
use Rattle.std.proofs.Common.{◌≡◌, ℕ, ◌-◌, ◌≤◌, Bool, true, false, not, List, [], ◌∷◌, ◌++◌, length, map, reverse, Option, None, Some, refl, ap, negsuc, arith}
use Rattle.std.specs.Prelude.{IfSome, if◌then◌else◌, All, slice_get, slice_set, slice_index_or}
use Rattle.std.specs.List.{remove}
use Rattle.std.specs.Option.{option_map_or, unwrap_or}
use Rattle.std.proofs.lemmas.Bool.{true≢false}
use Rattle.std.proofs.lemmas.List.Quantifiers.{position-Some}
use Rattle.std.proofs.lemmas.List.Sums.{count_by-le-length}
use Rattle.std.proofs.lemmas.List.Elements.{All-nil, All-cons, All-push, All-append, All-map, All-filter, All-take, All-drop, All-set}
use Rattle.ft_model.specs.declared.data.Value.{Value}
use Rattle.ft_model.specs.declared.data.Value.TheVariants as value
use Rattle.ft_model.specs.declared.data.Key.{Key}
use Rattle.ft_model.specs.declared.call.DictCall.{DictCall}
use Rattle.ft_model.specs.declared.call.DictCall.TheVariants as dict
use Rattle.ft_model.specs.declared.call.ListCall.{ListCall}
use Rattle.ft_model.specs.declared.call.ListCall.TheVariants as list
use Rattle.ft_model.specs.declared.call.SetCall.{SetCall}
use Rattle.ft_model.specs.declared.call.SetCall.TheVariants as set
use Rattle.ft_model.specs.declared.call.DequeCall.{DequeCall}
use Rattle.ft_model.specs.declared.call.DequeCall.TheVariants as deque
use Rattle.ft_model.specs.declared.reply.Reply.{Reply}
use Rattle.ft_model.specs.declared.reply.Reply.TheVariants as reply
use Rattle.ft_model.specs.declared.reply.Raise.TheVariants as raise
use Rattle.ft_model.specs.declared.content.Content.{Content}
use Rattle.ft_model.specs.declared.content.Content.TheVariants as content
use Rattle.ft_model.specs.declared.content.DictPair.{DictPair}
use Rattle.ft_model.specs.declared.content.Element.{Element}
use Rattle.ft_model.specs.declared.cursor.Cursor.{Cursor}
use Rattle.ft_model.specs.declared.script.Kind.{Kind}
use Rattle.ft_model.specs.declared.script.Kind.TheVariants as kind
use Rattle.ft_model.specs.Keys.{as_value, is_value}
use Rattle.ft_model.specs.Calls.{other_dict, other_list, other_set, is_changing_dict, is_changing_list, is_changing_set, is_changing_deque, cursor_of_dict, cursor_of_list, cursor_of_set, cursor_of_deque}
use Rattle.ft_model.specs.Contents.{DictContent, SetContent, is_at, dict_get, has_key, dict_set, dict_del, dict_update, dict_copy, has_element, set_add, set_discard, those_not_in, elements_from}
use Rattle.ft_model.specs.Lists.{index_in, index_of, count_of, list_slice, list_insert}
use Rattle.ft_model.specs.Deques.{DequeContent, deque_append, deque_append_left, deque_extend, deque_extend_left, last_item, deque_pop, first_item, deque_pop_left, deque_rotate, deque_clear, deque_get}
use Rattle.ft_model.specs.Views.{keys_in, keys_sub}
use Rattle.ft_model.specs.Cursors.{dict_iter, dict_reversed, list_iter, list_reversed, set_iter, deque_iter}
use Rattle.ft_model.specs.Worlds.{IsOfKind, kind_of, cursor_kind, container_of, dict_at, list_at, set_at, deque_at}
use Rattle.ft_model.specs.Answers.{Answer, shows, puts, moves, items_of, without_last, without_first, answer_dict, answer_list, answer_set, answer_deque, is_raised, is_memory}
use Rattle.ft_history.proofs.Effects.{HasKind, extended_bound, extended_left_bound, rotated_bound, cleared_bound}
use Rattle.ft_turns.proofs.CallParts.{IsDictCallBy, IsListCallBy, IsSetCallBy, IsDequeCallBy, is_counting_dict, is_counting_list, is_counting_set, is_counting_deque}
use Rattle.ft_turns.proofs.ContentFacts.{IsPairBy, IsElementBy, IsReplyBy, IsContentBy, GoTogether, held_at, got_value, set_pairs, update_pairs, copied_pairs, item_value, removed_items, inserted_items, sliced_items, reversed_items, added_elements, renumbered, all_keys, kept_keys, right_items, left_items, extended_items, extended_left_items, rotated_items, cleared_items, got_item}

-- a reply that no dict, list or set gives, and that no write of a container gives
abbrev pub is_uncommon : Reply → Bool
is_uncommon (reply.World world) = true
is_uncommon (reply.Raised raise.Moved) = true
is_uncommon said = is_memory said

abbrev pub is_unwritten : Reply → Bool
is_unwritten (reply.World world) = true
is_unwritten said = is_raised said

pub uncommon_memory : (said : Reply) → is_uncommon said ≡ false → is_memory said ≡ false
uncommon_memory (reply.World world) common = refl
uncommon_memory (reply.Raised raise.Moved) common = refl
uncommon_memory said common = common

pub unwritten_raised : (said : Reply) → is_unwritten said ≡ false → is_raised said ≡ false
unwritten_raised (reply.World world) wrote = refl
unwritten_raised said wrote = wrote

pub unwritten_uncommon : (said : Reply) → is_unwritten said ≡ false → is_uncommon said ≡ false
unwritten_uncommon (reply.World world) wrote = wrote
unwritten_uncommon (reply.Raised raised) wrote = absurd (true≢false wrote)
unwritten_uncommon said wrote = refl

-- how an answer depends on the hands: it shows a reply, puts a content, or makes a cursor over the container. What is said of keys, values and counts is so of its own
pub data Form (world : List Content) (K : Key → Type 0) (V : Value → Type 0) (C : ℕ → Type 0) (k : Kind) (container : ℕ) (changing : Bool) (makes : Option ℕ) : (List (Option Cursor) → Answer) → Type 0 where
  shown : makes ≡ None → (said : Reply) → is_uncommon said ≡ false → IsReplyBy K V C said → Form world K V C k container changing makes (λ hands. shows world hands said)
  put : makes ≡ None → changing ≡ true → (place : ℕ) (left : Content) (said : Reply) → is_unwritten said ≡ false → IsReplyBy K V C said → IsContentBy K V left → kind_of left ≡ k → HasKind world k place → Form world K V C k container changing makes (λ hands. puts world hands place left said)
  made : (number : ℕ) → makes ≡ Some number → changing ≡ false → (cursor : Cursor) → container_of cursor ≡ container → IsOfKind world (cursor_kind cursor) container → Form world K V C k container changing makes (λ hands. moves world hands number cursor reply.Done)

module _ {X : Type 0} {world : List Content} {K : Key → Type 0} {V : Value → Type 0} {C : ℕ → Type 0} {k : Kind} {container : ℕ} {changing : Bool} {makes : Option ℕ} (none : makes ≡ None) where
  -- it answers by what it finds, and shows the same either way
  shows_found : (found : Option X) (said : X → Reply) (missing : Reply) → ((x : X) → is_uncommon (said x) ≡ false) → is_uncommon missing ≡ false → ((x : X) → found ≡ Some x → IsReplyBy K V C (said x)) → IsReplyBy K V C missing
      → Form world K V C k container changing makes (λ hands. option_map_or (λ x. shows world hands (said x)) found (shows world hands missing))
  shows_found None said missing memory memory_missing strings strings_missing = shown none missing memory_missing strings_missing
  shows_found (Some x) said missing memory memory_missing strings strings_missing = shown none (said x) (memory x) (strings x refl)

  -- it changes what it finds
  puts_found : (found : Option X) (left : X → Content) (said : X → Reply) (missing : Reply) (place : ℕ) → changing ≡ true → ((x : X) → is_unwritten (said x) ≡ false) → is_uncommon missing ≡ false → ((x : X) → found ≡ Some x → IsReplyBy K V C (said x)) → IsReplyBy K V C missing → ((x : X) → found ≡ Some x → IsContentBy K V (left x)) → ((x : X) → kind_of (left x) ≡ k) → HasKind world k place
      → Form world K V C k container changing makes (λ hands. option_map_or (λ x. puts world hands place (left x) (said x)) found (shows world hands missing))
  puts_found None left said missing place changes done memory strings strings_missing contents kinds there = shown none missing memory strings_missing
  puts_found (Some x) left said missing place changes done memory strings strings_missing contents kinds there = put none changes place (left x) (said x) (done x) (strings x refl) (contents x refl) (kinds x) there

  -- it adds what it does not find
  puts_missing : (found : Option X) (said : X → Reply) (left : Content) (missing : Reply) (place : ℕ) → changing ≡ true → ((x : X) → is_uncommon (said x) ≡ false) → is_unwritten missing ≡ false → ((x : X) → found ≡ Some x → IsReplyBy K V C (said x)) → IsReplyBy K V C missing → IsContentBy K V left → kind_of left ≡ k → HasKind world k place
      → Form world K V C k container changing makes (λ hands. option_map_or (λ x. shows world hands (said x)) found (puts world hands place left missing))
  puts_missing None said left missing place changes memory done strings strings_missing contents kinds there = put none changes place left missing done strings_missing contents kinds there
  puts_missing (Some x) said left missing place changes memory done strings strings_missing contents kinds there = shown none (said x) (memory x) (strings x refl)

module _ {world : List Content} {K : Key → Type 0} {V : Value → Type 0} {C : ℕ → Type 0} {k : Kind} {container : ℕ} {changing : Bool} {makes : Option ℕ} (none : makes ≡ None) where
  -- it changes what is there
  puts_there : (there : Bool) (left : Content) (said missing : Reply) (place : ℕ) → changing ≡ true → is_unwritten said ≡ false → is_uncommon missing ≡ false → IsReplyBy K V C said → IsReplyBy K V C missing → IsContentBy K V left → kind_of left ≡ k → HasKind world k place
      → Form world K V C k container changing makes (λ hands. if there then puts world hands place left said else shows world hands missing)
  puts_there true left said missing place changes done memory strings strings_missing contents kinds here = put none changes place left said done strings contents kinds here
  puts_there false left said missing place changes done memory strings strings_missing contents kinds here = shown none missing memory strings_missing

-- ---- dicts

module _ (K : Key → Type 0) (V : Value → Type 0) (C : ℕ → Type 0) (together : GoTogether K V) (world : List Content) (place : ℕ) (old : DictContent) (held : All (IsPairBy K V) old.pairs) (others : (other : ℕ) → All (IsPairBy K V) (dict_at world other).pairs) (one : IsOfKind world kind.Dict place) where
  pub form_dict : (called : DictCall) → IsDictCallBy K V called → IfSome (other_dict called) (λ other. IsOfKind world kind.Dict other) → (is_counting_dict called ≡ true → (count : ℕ) → count ≤ length old.pairs → C count) → Form world K V C kind.Dict place (is_changing_dict called) (cursor_of_dict called) (λ hands. answer_dict world hands place old called)
  form_dict (dict.Get key) said both few = shows_found refl (dict_get old.pairs key) reply.Value (reply.Raised raise.NoKey) (λ _. refl) refl (λ v found. got_value K V old.pairs key v held found) tt
  form_dict (dict.GetOr key default) said both few =
      shown refl (reply.Value (unwrap_or (dict_get old.pairs key) default)) refl (elim (dict_get old.pairs key) as (λ o. dict_get old.pairs key ≡ o → V (unwrap_or o default)) [
        | None ↦ λ _. said.1
        | Some v ↦ λ found. got_value K V old.pairs key v held found
      ] refl)
  form_dict (dict.Set key v) said both few = put refl refl place (content.Dict (dict_set old key v)) reply.Done refl tt (set_pairs K V old key v said.0 said.1 held) refl one
  form_dict (dict.Del key) said both few = puts_there refl (has_key old.pairs key) (content.Dict (dict_del old key)) reply.Done (reply.Raised raise.NoKey) place refl refl refl tt tt (All-filter (λ pair. not (is_at key pair)) (IsPairBy K V) old.pairs held) refl one
  form_dict (dict.Pop key) said both few = puts_found refl (dict_get old.pairs key) (λ _. content.Dict (dict_del old key)) reply.Value (reply.Raised raise.NoKey) place refl (λ _. refl) refl (λ v found. got_value K V old.pairs key v held found) tt (λ _ _. All-filter (λ pair. not (is_at key pair)) (IsPairBy K V) old.pairs held) (λ _. refl) one
  form_dict (dict.PopOr key default) said both few = puts_found refl (dict_get old.pairs key) (λ _. content.Dict (dict_del old key)) reply.Value (reply.Value default) place refl (λ _. refl) refl (λ v found. got_value K V old.pairs key v held found) said.1 (λ _ _. All-filter (λ pair. not (is_at key pair)) (IsPairBy K V) old.pairs held) (λ _. refl) one
  form_dict dict.PopItem said both few = puts_found refl (slice_get old.pairs (length old.pairs - 1)) (λ _. content.Dict (without_last old)) (λ (pair : DictPair). reply.Pair pair.key pair.value) (reply.Raised raise.NoKey) place refl (λ _. refl) refl (λ pair found. held_at (IsPairBy K V) old.pairs (length old.pairs - 1) pair held found) tt (λ _ _. All-take (IsPairBy K V) (length old.pairs - 1) old.pairs held) (λ _. refl) one
  form_dict (dict.SetDefault key default) said both few = puts_missing refl (dict_get old.pairs key) reply.Value (content.Dict (dict_set old key default)) (reply.Value default) place refl (λ _. refl) refl (λ v found. got_value K V old.pairs key v held found) said.1 (set_pairs K V old key default said.0 said.1 held) refl one
  form_dict (dict.Has key) said both few = shown refl _ refl tt
  form_dict dict.Len said both few = shown refl _ refl (few refl (length old.pairs) (omega arith))
  form_dict dict.Items said both few = shown refl (reply.Dict (items_of old.pairs)) refl (All-map (λ (pair : Key × Value). K pair.0 × V pair.1) (λ (pair : DictPair). (pair.key, pair.value)) old.pairs held)
  form_dict (dict.Update other) said both few = put refl refl place (content.Dict (dict_update old (dict_at world other).pairs)) reply.Done refl tt (update_pairs K V old (dict_at world other).pairs (others other) held) refl one
  form_dict dict.Clear said both few = put refl refl place _ reply.Done refl tt (All-nil (IsPairBy K V)) refl one
  form_dict (dict.CopyTo other) said both few = put refl refl other (content.Dict (dict_copy (dict_at world other) old.pairs)) reply.Done refl tt (copied_pairs K V (dict_at world other).next old.pairs held) refl both
  form_dict (dict.Eq other) said both few = shown refl _ refl tt
  form_dict (dict.Iter cursor) said both few = made cursor refl refl (dict_iter place old.pairs) refl one
  form_dict (dict.KeysAnd other) said both few = shown refl _ refl (kept_keys K V (λ (pair : DictPair). has_key (dict_at world other).pairs pair.key) old.pairs held)
  form_dict (dict.KeysSub other) said both few = shown refl _ refl (kept_keys K V (λ (pair : DictPair). not (has_key (dict_at world other).pairs pair.key)) old.pairs held)
  form_dict (dict.KeysOr other) said both few = shown refl _ refl (All-append K (keys_in old.pairs) (keys_sub (dict_at world other).pairs old.pairs) (all_keys K V old.pairs held) (kept_keys K V (λ (pair : DictPair). not (has_key old.pairs pair.key)) (dict_at world other).pairs (others other)))
  form_dict (dict.KeysXor other) said both few = shown refl _ refl (All-append K (keys_sub old.pairs (dict_at world other).pairs) (keys_sub (dict_at world other).pairs old.pairs) (kept_keys K V (λ (pair : DictPair). not (has_key (dict_at world other).pairs pair.key)) old.pairs held) (kept_keys K V (λ (pair : DictPair). not (has_key old.pairs pair.key)) (dict_at world other).pairs (others other)))
  form_dict (dict.ItemsHas key value) said both few = shown refl _ refl tt
  form_dict (dict.Reversed cursor) said both few = made cursor refl refl (dict_reversed place old.pairs) refl one

-- ---- lists

found_below : (items : List Value) (v : Value) (at : ℕ) → index_of items v ≡ Some at → at ≤ length items
found_below items v at found = let low = (position-Some (λ item. is_value item v) items at v found).0 in omega arith

module _ (K : Key → Type 0) (V : Value → Type 0) (C : ℕ → Type 0) (together : GoTogether K V) (world : List Content) (place : ℕ) (items : List Value) (held : All V items) (others : (other : ℕ) → All V (list_at world other)) (one : IsOfKind world kind.List place) where
  pub form_list : (called : ListCall) → IsListCallBy K V called → IfSome (other_list called) (λ other. IsOfKind world kind.List other) → (is_counting_list called ≡ true → (count : ℕ) → count ≤ length items → C count) → Form world K V C kind.List place (is_changing_list called) (cursor_of_list called) (λ hands. answer_list world hands place items called)
  form_list (list.Append v) said both few = put refl refl place (content.List (items ++ v ∷ [])) reply.Done refl tt (All-push V items v held said) refl one
  form_list (list.Insert index v) said both few = put refl refl place (content.List (list_insert items index v)) reply.Done refl tt (inserted_items K V items index v said held) refl one
  form_list (list.Get index) said both few = shows_found refl (index_in (length items) index) (λ at. reply.Value (slice_index_or items at value.Nothing)) (reply.Raised raise.NoIndex) (λ _. refl) refl (λ at _. item_value K V together.nothing items at held) tt
  form_list (list.Set index v) said both few = puts_found refl (index_in (length items) index) (λ at. content.List (slice_set items at v)) (λ _. reply.Done) (reply.Raised raise.NoIndex) place refl (λ _. refl) refl (λ _ _. tt) tt (λ at _. All-set V items at v said held) (λ _. refl) one
  form_list (list.Del index) said both few = puts_found refl (index_in (length items) index) (λ at. content.List (remove items at)) (λ _. reply.Done) (reply.Raised raise.NoIndex) place refl (λ _. refl) refl (λ _ _. tt) tt (λ at _. removed_items K V items at held) (λ _. refl) one
  form_list (list.Pop index) said both few = puts_found refl (index_in (length items) (unwrap_or index (negsuc 0))) (λ at. content.List (remove items at)) (λ at. reply.Value (slice_index_or items at value.Nothing)) (reply.Raised raise.NoIndex) place refl (λ _. refl) refl (λ at _. item_value K V together.nothing items at held) tt (λ at _. removed_items K V items at held) (λ _. refl) one
  form_list (list.Remove v) said both few = puts_found refl (index_of items v) (λ at. content.List (remove items at)) (λ _. reply.Done) (reply.Raised raise.NoValue) place refl (λ _. refl) refl (λ _ _. tt) tt (λ at _. removed_items K V items at held) (λ _. refl) one
  form_list (list.Index v) said both few = shows_found refl (index_of items v) (λ at. reply.Count at) (reply.Raised raise.NoValue) (λ _. refl) refl (λ at found. few refl at (found_below items v at found)) tt
  form_list (list.Count v) said both few = shown refl _ refl (few refl (count_of items v) (count_by-le-length (λ item. is_value item v) items))
  form_list (list.Has v) said both few = shown refl _ refl tt
  form_list list.Reverse said both few = put refl refl place (content.List (reverse items)) reply.Done refl tt (reversed_items K V items held) refl one
  form_list (list.Extend other) said both few = put refl refl place (content.List (items ++ list_at world other)) reply.Done refl tt (All-append V items (list_at world other) held (others other)) refl one
  form_list (list.Slice start end) said both few = shown refl (reply.List (list_slice items start end)) refl (sliced_items K V items start end held)
  form_list list.Clear said both few = put refl refl place (content.List []) reply.Done refl tt (All-nil V) refl one
  form_list list.Len said both few = shown refl _ refl (few refl (length items) (omega arith))
  form_list list.Items said both few = shown refl (reply.List items) refl held
  form_list (list.Eq other) said both few = shown refl _ refl tt
  form_list (list.Iter cursor) said both few = made cursor refl refl (list_iter place) refl one
  form_list (list.Reversed cursor) said both few = made cursor refl refl (list_reversed place items) refl one

-- ---- sets

module _ (K : Key → Type 0) (V : Value → Type 0) (C : ℕ → Type 0) (together : GoTogether K V) (world : List Content) (place : ℕ) (old : SetContent) (held : All (IsElementBy K) old.elements) (others : (other : ℕ) → All (IsElementBy K) (set_at world other).elements) (one : IsOfKind world kind.Set place) where
  pub form_set : (called : SetCall) → IsSetCallBy K V called → IfSome (other_set called) (λ other. IsOfKind world kind.Set other) → (is_counting_set called ≡ true → (count : ℕ) → count ≤ length old.elements → C count) → Form world K V C kind.Set place (is_changing_set called) (cursor_of_set called) (λ hands. answer_set world hands place old called)
  form_set (set.Add key) said both few = put refl refl place (content.Set (set_add old key)) reply.Done refl tt (added_elements K V old key said held) refl one
  form_set (set.Discard key) said both few = put refl refl place (content.Set (set_discard old key)) reply.Done refl tt (All-filter _ (IsElementBy K) old.elements held) refl one
  form_set (set.Remove key) said both few = puts_there refl (has_element old.elements key) (content.Set (set_discard old key)) reply.Done (reply.Raised raise.NoKey) place refl refl refl tt tt (All-filter _ (IsElementBy K) old.elements held) refl one
  form_set set.Pop said both few = puts_found refl (slice_get old.elements 0) (λ _. content.Set (without_first old)) (λ (element : Element). reply.Value (as_value element.key)) (reply.Raised raise.NoKey) place refl (λ _. refl) refl (λ element found. together.key_value element.key (held_at (IsElementBy K) old.elements 0 element held found)) tt (λ _ _. All-drop (IsElementBy K) 1 old.elements held) (λ _. refl) one
  form_set (set.Has key) said both few = shown refl _ refl tt
  form_set set.Len said both few = shown refl _ refl (few refl (length old.elements) (omega arith))
  form_set set.Items said both few = shown refl (reply.Set (map (λ (element : Element). element.key) old.elements)) refl (All-map K (λ (element : Element). element.key) old.elements held)
  form_set (set.Eq other) said both few = shown refl _ refl tt
  form_set (set.Or other) said both few =
      let new = those_not_in old.elements (set_at world other).elements in
      put refl refl place _ reply.Done refl tt (All-append (IsElementBy K) old.elements (elements_from old.next new) held (renumbered K V old.next new (All-filter _ (IsElementBy K) (set_at world other).elements (others other)))) refl one
  form_set (set.And other) said both few = put refl refl place _ reply.Done refl tt (All-filter _ (IsElementBy K) old.elements held) refl one
  form_set (set.Sub other) said both few = put refl refl place _ reply.Done refl tt (All-filter _ (IsElementBy K) old.elements held) refl one
  form_set (set.Xor other) said both few =
      let new = those_not_in old.elements (set_at world other).elements in
      put refl refl place _ reply.Done refl tt (All-append (IsElementBy K) (those_not_in (set_at world other).elements old.elements) (elements_from old.next new) (All-filter _ (IsElementBy K) old.elements held) (renumbered K V old.next new (All-filter _ (IsElementBy K) (set_at world other).elements (others other)))) refl one
  form_set (set.Subset other) said both few = shown refl _ refl tt
  form_set (set.Disjoint other) said both few = shown refl _ refl tt
  form_set set.Clear said both few = put refl refl place _ reply.Done refl tt (All-nil (IsElementBy K)) refl one
  form_set (set.Iter cursor) said both few = made cursor refl refl (set_iter place old.elements) refl one

-- ---- deques

module _ (K : Key → Type 0) (V : Value → Type 0) (C : ℕ → Type 0) (together : GoTogether K V) (world : List Content) (place : ℕ) (old : DequeContent) (held : All V old.items) (others : (other : ℕ) → All V (deque_at world other).items) (one : IsOfKind world (kind.Deque None) place) (has : HasKind world (kind.Deque old.bound) place) where
  same_kind : (left : DequeContent) → left.bound ≡ old.bound → kind_of (content.Deque left) ≡ kind.Deque old.bound
  same_kind left same = ap kind.Deque same

  pub form_deque : (called : DequeCall) → IsDequeCallBy K V called → (is_counting_deque called ≡ true → (count : ℕ) → count ≤ length old.items → C count) → Form world K V C (kind.Deque old.bound) place (is_changing_deque called) (cursor_of_deque called) (λ hands. answer_deque world hands place old called)
  form_deque (deque.Append v) said few = put refl refl place (content.Deque (deque_append old v)) reply.Done refl tt (right_items K V old.bound (old.items ++ v ∷ []) (All-push V old.items v held said)) refl has
  form_deque (deque.AppendLeft v) said few = put refl refl place (content.Deque (deque_append_left old v)) reply.Done refl tt (left_items K V old.bound (v ∷ old.items) (All-cons V v old.items said held)) refl has
  form_deque deque.Pop said few = puts_found refl (last_item old.items) (λ _. content.Deque (deque_pop old)) reply.Value (reply.Raised raise.NoIndex) place refl (λ _. refl) refl (λ v found. held_at V old.items (length old.items - 1) v held found) tt (λ _ _. All-take V (length old.items - 1) old.items held) (λ _. refl) has
  form_deque deque.PopLeft said few = puts_found refl (first_item old.items) (λ _. content.Deque (deque_pop_left old)) reply.Value (reply.Raised raise.NoIndex) place refl (λ _. refl) refl (λ v found. held_at V old.items 0 v held found) tt (λ _ _. All-drop V 1 old.items held) (λ _. refl) has
  form_deque (deque.Extend other) said few = put refl refl place (content.Deque (deque_extend old (deque_at world other).items)) reply.Done refl tt (extended_items K V old (deque_at world other).items held (others other)) (same_kind (deque_extend old (deque_at world other).items) (extended_bound old (deque_at world other).items)) has
  form_deque (deque.ExtendLeft other) said few = put refl refl place (content.Deque (deque_extend_left old (deque_at world other).items)) reply.Done refl tt (extended_left_items K V old (deque_at world other).items held (others other)) (same_kind (deque_extend_left old (deque_at world other).items) (extended_left_bound old (deque_at world other).items)) has
  form_deque (deque.Rotate steps) said few = put refl refl place (content.Deque (deque_rotate old steps)) reply.Done refl tt (rotated_items K V old steps held) (same_kind (deque_rotate old steps) (rotated_bound old steps)) has
  form_deque deque.Clear said few = put refl refl place (content.Deque (deque_clear old)) reply.Done refl tt (cleared_items K V old held) (same_kind (deque_clear old) (cleared_bound old)) has
  form_deque (deque.Get index) said few =
      shows_found refl (deque_get old.items index) reply.Value (reply.Raised raise.NoIndex) (λ _. refl) refl (λ v found. got_item K V together.nothing old.items index v held found) tt
  form_deque deque.Len said few = shown refl _ refl (few refl (length old.items) (omega arith))
  form_deque deque.Items said few = shown refl (reply.List old.items) refl held
  form_deque (deque.Has v) said few = shown refl _ refl tt
  form_deque (deque.Iter cursor) said few = made cursor refl refl (deque_iter place old) refl one
