-- What an answer leaves: it shows what is there, puts one content in place of another of its kind, or makes a cursor.
use Rattle.std.proofs.Common.{◌≡◌, ℕ, ℤ, zero, suc, Bool, true, false, List, [], ◌∷◌, ◌++◌, length, Option, Some, None, refl, sym, subst, cond, negsuc, ◌-◌, ◌==◌}
use Rattle.std.specs.Prelude.{slice_get, slice_index_or, slice_set, IfSome, option_map, nat_le, reverse}
use Rattle.std.specs.Option.{option_map_or, unwrap_or}
use Rattle.std.specs.List.{remove}
use Rattle.ft_model.specs.declared.call.DictCall.{DictCall}
use Rattle.ft_model.specs.declared.call.DictCall.TheVariants as dict
use Rattle.ft_model.specs.declared.call.ListCall.{ListCall}
use Rattle.ft_model.specs.declared.call.ListCall.TheVariants as list
use Rattle.ft_model.specs.declared.call.SetCall.{SetCall}
use Rattle.ft_model.specs.declared.call.SetCall.TheVariants as set_call
use Rattle.ft_model.specs.declared.call.DequeCall.{DequeCall}
use Rattle.ft_model.specs.declared.call.DequeCall.TheVariants as deque
use Rattle.ft_model.specs.declared.data.Value.{Value}
use Rattle.ft_model.specs.declared.data.Value.TheVariants as value
use Rattle.ft_model.specs.declared.content.DictPair.{DictPair}
use Rattle.ft_model.specs.declared.content.Element.{Element}
use Rattle.ft_model.specs.declared.reply.Raise.TheVariants as raise
use Rattle.ft_model.specs.Keys.{as_value}
use Rattle.ft_model.specs.declared.content.Content.{Content}
use Rattle.ft_model.specs.declared.content.Content.TheVariants as content
use Rattle.ft_model.specs.declared.cursor.Cursor.{Cursor}
use Rattle.ft_model.specs.declared.reply.Reply.{Reply}
use Rattle.ft_model.specs.declared.reply.Reply.TheVariants as reply
use Rattle.ft_model.specs.declared.script.Kind.{Kind}
use Rattle.ft_model.specs.declared.script.Kind.TheVariants as kind
use Rattle.ft_model.specs.Calls.{is_changing_dict, is_changing_list, is_changing_set, is_changing_deque, other_dict, other_list, other_set, cursor_of_dict, cursor_of_list, cursor_of_set, cursor_of_deque}
use Rattle.ft_model.specs.Contents.{DictContent, SetContent, dict_get, has_key, dict_set, dict_del, has_element, set_discard}
use Rattle.ft_model.specs.Lists.{index_in, index_of}
use Rattle.ft_model.specs.Deques.{DequeContent, right_within, left_within, with_deque_items, deque_extend, deque_extend_left, last_item, deque_pop, first_item, deque_pop_left, rotated, deque_rotate, deque_clear, deque_get}
use Rattle.ft_model.specs.Worlds.{IsOfKind, kind_of, cursor_kind, container_of, deque_at}
use Rattle.ft_model.specs.Answers.{Answer, shows, puts, moves, answer_dict, answer_list, answer_set, answer_deque, without_last, without_first, is_raised}

-- the container is there, and of just that kind; a deque has just that bound
abbrev pub HasKind : List Content → Kind → ℕ → Type 0
HasKind world kind place = option_map kind_of (slice_get world place) ≡ Some kind

-- how an answer depends on the hands, where it comes from a call that changes something or not, and makes a cursor or not
pub data Effect (world : List Content) (changing : Bool) (makes : Option ℕ) : (List (Option Cursor) → Answer) → Type 0 where
  shown : makes ≡ None → (reply : Reply) → Effect world changing makes (λ hands. shows world hands reply)
  put : makes ≡ None → changing ≡ true → (place : ℕ) (content : Content) (reply : Reply) → is_raised reply ≡ false → HasKind world (kind_of content) place → Effect world changing makes (λ hands. puts world hands place content reply)
  moved : (number : ℕ) → makes ≡ Some number → (cursor : Cursor) (reply : Reply) → IsOfKind world (cursor_kind cursor) (container_of cursor) → Effect world changing makes (λ hands. moves world hands number cursor reply)

module _ {X : Type 0} {world : List Content} {changing : Bool} {makes : Option ℕ} (none : makes ≡ None) where
  -- it answers by what it finds, and shows the same either way
  shows_found : (found : Option X) (reply : X → Reply) (missing : Reply) → Effect world changing makes (λ hands. option_map_or (λ x. shows world hands (reply x)) found (shows world hands missing))
  shows_found None reply missing = shown none missing
  shows_found (Some x) reply missing = shown none (reply x)

  -- it changes what it finds
  puts_found : (found : Option X) (content : X → Content) (reply : X → Reply) (missing : Reply) (place : ℕ) → changing ≡ true → ((x : X) → is_raised (reply x) ≡ false) → ((x : X) → HasKind world (kind_of (content x)) place)
      → Effect world changing makes (λ hands. option_map_or (λ x. puts world hands place (content x) (reply x)) found (shows world hands missing))
  puts_found None content reply missing place changes done kinds = shown none missing
  puts_found (Some x) content reply missing place changes done kinds = put none changes place (content x) (reply x) (done x) (kinds x)

  -- it adds what it does not find
  puts_missing : (found : Option X) (reply : X → Reply) (content : Content) (missing : Reply) (place : ℕ) → changing ≡ true → is_raised missing ≡ false → HasKind world (kind_of content) place
      → Effect world changing makes (λ hands. option_map_or (λ x. shows world hands (reply x)) found (puts world hands place content missing))
  puts_missing None reply content missing place changes done kinds = put none changes place content missing done kinds
  puts_missing (Some x) reply content missing place changes done kinds = shown none (reply x)

module _ {world : List Content} {changing : Bool} {makes : Option ℕ} (none : makes ≡ None) where
  -- it changes what is there
  puts_there : (there : Bool) (content : Content) (reply missing : Reply) (place : ℕ) → changing ≡ true → is_raised reply ≡ false → HasKind world (kind_of content) place
      → Effect world changing makes (λ hands. cond there (puts world hands place content reply) (shows world hands missing))
  puts_there true content reply missing place changes done kinds = put none changes place content reply done kinds
  puts_there false content reply missing place changes done kinds = shown none missing

pub effect_dict : (world : List Content) (place : ℕ) (old : DictContent) (called : DictCall) → IsOfKind world kind.Dict place → IfSome (other_dict called) (λ other. IsOfKind world kind.Dict other) → Effect world (is_changing_dict called) (cursor_of_dict called) (λ hands. answer_dict world hands place old called)
effect_dict world place old (dict.Get key) one both = shows_found refl (dict_get old.pairs key) reply.Value (reply.Raised raise.NoKey)
effect_dict world place old (dict.GetOr key default) one both = shown refl _
effect_dict world place old (dict.Set key value) one both = put refl refl _ _ _ refl one
effect_dict world place old (dict.Del key) one both = puts_there refl (has_key old.pairs key) (content.Dict (dict_del old key)) reply.Done (reply.Raised raise.NoKey) place refl refl one
effect_dict world place old (dict.Pop key) one both = puts_found refl (dict_get old.pairs key) (λ _. content.Dict (dict_del old key)) reply.Value (reply.Raised raise.NoKey) place refl (λ _. refl) (λ _. one)
effect_dict world place old (dict.PopOr key default) one both = puts_found refl (dict_get old.pairs key) (λ _. content.Dict (dict_del old key)) reply.Value (reply.Value default) place refl (λ _. refl) (λ _. one)
effect_dict world place old dict.PopItem one both = puts_found refl (slice_get old.pairs (length old.pairs - 1)) (λ _. content.Dict (without_last old)) (λ (pair : DictPair). reply.Pair pair.key pair.value) (reply.Raised raise.NoKey) place refl (λ _. refl) (λ _. one)
effect_dict world place old (dict.SetDefault key default) one both = puts_missing refl (dict_get old.pairs key) reply.Value (content.Dict (dict_set old key default)) (reply.Value default) place refl refl one
effect_dict world place old (dict.Has key) one both = shown refl _
effect_dict world place old dict.Len one both = shown refl _
effect_dict world place old dict.Items one both = shown refl _
effect_dict world place old (dict.Update other) one both = put refl refl _ _ _ refl one
effect_dict world place old dict.Clear one both = put refl refl _ _ _ refl one
effect_dict world place old (dict.CopyTo other) one both = put refl refl _ _ _ refl both
effect_dict world place old (dict.Eq other) one both = shown refl _
effect_dict world place old (dict.Iter cursor) one both = moved cursor refl _ _ one
effect_dict world place old (dict.KeysAnd other) one both = shown refl _
effect_dict world place old (dict.KeysSub other) one both = shown refl _
effect_dict world place old (dict.KeysOr other) one both = shown refl _
effect_dict world place old (dict.KeysXor other) one both = shown refl _
effect_dict world place old (dict.ItemsHas key value) one both = shown refl _
effect_dict world place old (dict.Reversed cursor) one both = moved cursor refl _ _ one

pub effect_list : (world : List Content) (place : ℕ) (items : List Value) (called : ListCall) → IsOfKind world kind.List place → IfSome (other_list called) (λ other. IsOfKind world kind.List other) → Effect world (is_changing_list called) (cursor_of_list called) (λ hands. answer_list world hands place items called)
effect_list world place items (list.Append value) one both = put refl refl _ _ _ refl one
effect_list world place items (list.Insert index value) one both = put refl refl _ _ _ refl one
effect_list world place items (list.Get index) one both = shows_found refl (index_in (length items) index) (λ found. reply.Value (slice_index_or items found value.Nothing)) (reply.Raised raise.NoIndex)
effect_list world place items (list.Set index value) one both = puts_found refl (index_in (length items) index) (λ found. content.List (slice_set items found value)) (λ _. reply.Done) (reply.Raised raise.NoIndex) place refl (λ _. refl) (λ _. one)
effect_list world place items (list.Del index) one both = puts_found refl (index_in (length items) index) (λ found. content.List (remove items found)) (λ _. reply.Done) (reply.Raised raise.NoIndex) place refl (λ _. refl) (λ _. one)
effect_list world place items (list.Pop index) one both = puts_found refl (index_in (length items) (unwrap_or index (negsuc 0))) (λ found. content.List (remove items found)) (λ found. reply.Value (slice_index_or items found value.Nothing)) (reply.Raised raise.NoIndex) place refl (λ _. refl) (λ _. one)
effect_list world place items (list.Remove value) one both = puts_found refl (index_of items value) (λ found. content.List (remove items found)) (λ _. reply.Done) (reply.Raised raise.NoValue) place refl (λ _. refl) (λ _. one)
effect_list world place items (list.Index value) one both = shows_found refl (index_of items value) reply.Count (reply.Raised raise.NoValue)
effect_list world place items (list.Count value) one both = shown refl _
effect_list world place items (list.Has value) one both = shown refl _
effect_list world place items list.Reverse one both = put refl refl _ _ _ refl one
effect_list world place items (list.Extend other) one both = put refl refl _ _ _ refl one
effect_list world place items (list.Slice start end) one both = shown refl _
effect_list world place items list.Clear one both = put refl refl _ _ _ refl one
effect_list world place items list.Len one both = shown refl _
effect_list world place items list.Items one both = shown refl _
effect_list world place items (list.Eq other) one both = shown refl _
effect_list world place items (list.Iter cursor) one both = moved cursor refl _ _ one
effect_list world place items (list.Reversed cursor) one both = moved cursor refl _ _ one

pub effect_set : (world : List Content) (place : ℕ) (old : SetContent) (called : SetCall) → IsOfKind world kind.Set place → IfSome (other_set called) (λ other. IsOfKind world kind.Set other) → Effect world (is_changing_set called) (cursor_of_set called) (λ hands. answer_set world hands place old called)
effect_set world place old (set_call.Add key) one both = put refl refl _ _ _ refl one
effect_set world place old (set_call.Discard key) one both = put refl refl _ _ _ refl one
effect_set world place old (set_call.Remove key) one both = puts_there refl (has_element old.elements key) (content.Set (set_discard old key)) reply.Done (reply.Raised raise.NoKey) place refl refl one
effect_set world place old set_call.Pop one both = puts_found refl (slice_get old.elements 0) (λ _. content.Set (without_first old)) (λ (element : Element). reply.Value (as_value element.key)) (reply.Raised raise.NoKey) place refl (λ _. refl) (λ _. one)
effect_set world place old (set_call.Has key) one both = shown refl _
effect_set world place old set_call.Len one both = shown refl _
effect_set world place old set_call.Items one both = shown refl _
effect_set world place old (set_call.Eq other) one both = shown refl _
effect_set world place old (set_call.Or other) one both = put refl refl _ _ _ refl one
effect_set world place old (set_call.And other) one both = put refl refl _ _ _ refl one
effect_set world place old (set_call.Sub other) one both = put refl refl _ _ _ refl one
effect_set world place old (set_call.Xor other) one both = put refl refl _ _ _ refl one
effect_set world place old (set_call.Subset other) one both = shown refl _
effect_set world place old (set_call.Disjoint other) one both = shown refl _
effect_set world place old set_call.Clear one both = put refl refl _ _ _ refl one
effect_set world place old (set_call.Iter cursor) one both = moved cursor refl _ _ one

-- ---- deques: no call changes a bound

pub extended_bound : (deque : DequeContent) (others : List Value) → (deque_extend deque others).bound ≡ deque.bound
extended_bound deque others = elim (length others == 0) as (λ b. (cond b deque (with_deque_items deque (right_within deque.bound (deque.items ++ others)))).bound ≡ deque.bound) [ true ↦ refl | false ↦ refl ]

pub extended_left_bound : (deque : DequeContent) (others : List Value) → (deque_extend_left deque others).bound ≡ deque.bound
extended_left_bound deque others = elim (length others == 0) as (λ b. (cond b deque (with_deque_items deque (left_within deque.bound (reverse others ++ deque.items)))).bound ≡ deque.bound) [ true ↦ refl | false ↦ refl ]

pub rotated_bound : (deque : DequeContent) (steps : ℤ) → (deque_rotate deque steps).bound ≡ deque.bound
rotated_bound deque steps = elim (nat_le (length deque.items) 1) as (λ b. (cond b deque (with_deque_items deque (rotated deque.items steps))).bound ≡ deque.bound) [ true ↦ refl | false ↦ refl ]

pub cleared_bound : (deque : DequeContent) → (deque_clear deque).bound ≡ deque.bound
cleared_bound deque = elim (length deque.items == 0) as (λ b. (cond b deque (with_deque_items deque [])).bound ≡ deque.bound) [ true ↦ refl | false ↦ refl ]

-- a deque has its bound
pub deque_kind : (world : List Content) (place : ℕ) (bound : Option ℕ) → IsOfKind world (kind.Deque bound) place → HasKind world (kind.Deque (deque_at world place).bound) place
deque_kind [] place bound is = absurd (let e : None ≡ Some (kind.Deque is.0) = is.1 in cc)
deque_kind (content.Deque deque ∷ world) zero bound is = refl
deque_kind (content.Dict d ∷ world) zero bound is = absurd (let e : Some kind.Dict ≡ Some (kind.Deque is.0) = is.1 in cc)
deque_kind (content.List items ∷ world) zero bound is = absurd (let e : Some kind.List ≡ Some (kind.Deque is.0) = is.1 in cc)
deque_kind (content.Set s ∷ world) zero bound is = absurd (let e : Some kind.Set ≡ Some (kind.Deque is.0) = is.1 in cc)
deque_kind (first ∷ world) (suc place) bound is = deque_kind world place bound is

pub effect_deque : (world : List Content) (place : ℕ) (old : DequeContent) (called : DequeCall) → IsOfKind world (kind.Deque None) place → HasKind world (kind.Deque old.bound) place → Effect world (is_changing_deque called) (cursor_of_deque called) (λ hands. answer_deque world hands place old called)
effect_deque world place old (deque.Append value) one has = put refl refl _ _ _ refl has
effect_deque world place old (deque.AppendLeft value) one has = put refl refl _ _ _ refl has
effect_deque world place old deque.Pop one has = puts_found refl (last_item old.items) (λ _. content.Deque (deque_pop old)) reply.Value (reply.Raised raise.NoIndex) place refl (λ _. refl) (λ _. has)
effect_deque world place old deque.PopLeft one has = puts_found refl (first_item old.items) (λ _. content.Deque (deque_pop_left old)) reply.Value (reply.Raised raise.NoIndex) place refl (λ _. refl) (λ _. has)
effect_deque world place old (deque.Extend other) one has = put refl refl _ _ _ refl (subst (λ b. HasKind world (kind.Deque b) place) (sym (extended_bound old (deque_at world other).items)) has)
effect_deque world place old (deque.ExtendLeft other) one has = put refl refl _ _ _ refl (subst (λ b. HasKind world (kind.Deque b) place) (sym (extended_left_bound old (deque_at world other).items)) has)
effect_deque world place old (deque.Rotate steps) one has = put refl refl _ _ _ refl (subst (λ b. HasKind world (kind.Deque b) place) (sym (rotated_bound old steps)) has)
effect_deque world place old deque.Clear one has = put refl refl _ _ _ refl (subst (λ b. HasKind world (kind.Deque b) place) (sym (cleared_bound old)) has)
effect_deque world place old (deque.Get index) one has = shows_found refl (deque_get old.items index) reply.Value (reply.Raised raise.NoIndex)
effect_deque world place old deque.Len one has = shown refl _
effect_deque world place old deque.Items one has = shown refl _
effect_deque world place old (deque.Has value) one has = shown refl _
effect_deque world place old (deque.Iter cursor) one has = moved cursor refl _ _ one
