-- Calls whose keys and values words can represent leave contents whose keys and values words can represent.
use Rattle.std.proofs.Common.{◌≡◌, ℕ, suc, zero, ◌+◌, ◌-◌, ◌%◌, Bool, true, false, not, List, [], ◌∷◌, ◌++◌, length, map, take, drop, reverse, get_or, set, Option, Some, None, sym, ap, subst}
use Rattle.std.specs.Prelude.{All, IfSome, ◌==◌, nat_le, nat_lt, ℤ, pos, negsuc, slice_get, slice_set, remove, if◌then◌else◌}
use Rattle.std.specs.Option.{option_map_or, unwrap_or}
use mathlib.Core.List.{reverse-cons}
use Rattle.std.proofs.lemmas.List.Elements.{All-nil, All-cons, All-head, All-tail, All-append, All-set, All-push, All-weaker, All-take, All-drop, All-map, All-filter}
use Rattle.ft_model.specs.declared.data.Key.{Key}
use Rattle.ft_model.specs.declared.data.Value.{Value}
use Rattle.ft_model.specs.declared.call.Call.{Call}
use Rattle.ft_model.specs.declared.call.Call.TheVariants as call
use Rattle.ft_model.specs.declared.call.DictCall.{DictCall}
use Rattle.ft_model.specs.declared.call.DictCall.TheVariants as dict
use Rattle.ft_model.specs.declared.call.ListCall.{ListCall}
use Rattle.ft_model.specs.declared.call.ListCall.TheVariants as list
use Rattle.ft_model.specs.declared.call.SetCall.{SetCall}
use Rattle.ft_model.specs.declared.call.SetCall.TheVariants as set_call
use Rattle.ft_model.specs.declared.call.DequeCall.{DequeCall}
use Rattle.ft_model.specs.declared.call.DequeCall.TheVariants as deque
use Rattle.ft_model.specs.declared.content.Content.{Content}
use Rattle.ft_model.specs.declared.content.Content.TheVariants as content
use Rattle.ft_model.specs.declared.content.DictPair.{DictPair}
use Rattle.ft_model.specs.declared.content.Element.{Element}
use Rattle.ft_model.specs.declared.script.Kind.{Kind}
use Rattle.ft_model.specs.declared.script.Kind.TheVariants as kind
use Rattle.ft_model.specs.declared.script.Start.{Start}
use Rattle.ft_model.specs.Keys.{same_key}
use Rattle.ft_model.specs.Contents.{DictContent, SetContent, empty_dict, empty_set, is_at, dict_get, has_key, dict_set, dict_update, with_value, pairs_from, has_element, those_not_in, elements_from}
use Rattle.ft_model.specs.Deques.{empty_deque, right_within, left_within, rotated, with_deque_items, last_item, first_item, deque_get}
use Rattle.ft_model.specs.Lists.{index_in, index_of, clamped_in}
use Rattle.ft_model.specs.Worlds.{WorldContent, HandsContent, cursor_at, dict_of, list_of, set_of, deque_of, dict_at, list_at, set_at, deque_at, no_hands, empty_content}
use Rattle.ft_model.specs.Answers.{Answer, answer_dict, answer_list, answer_set, answer_deque, answer}
use Rattle.ft_model.specs.TableUses.{stored_newest}
use Rattle.ft_layout.specs.declared.slot.Stored.{Stored}
use Rattle.ft_layout.specs.Words.{FitsKey, FitsStored, IsEntry}
use Rattle.ft_layout.specs.Tables.{UsedEntry, is_live, hash_of, slot_with, entry_word}
use Rattle.ft_layout.specs.Containers.{class_mask, used_pair, used_element, IsDictWords, IsSetWords}
use Rattle.ft_trace.specs.declared.Shape.{Shape}
use Rattle.ft_trace.specs.declared.View.{View}
use Rattle.ft_trace.specs.declared.Act.{Act}
use Rattle.ft_trace.specs.declared.Act.TheVariants.{Commit}
use Rattle.ft_trace.specs.FitCalls.{FitsValue, FitsCall, FitsDictCall, FitsListCall, FitsSetCall, FitsDequeCall, FitsContent}
use Rattle.ft_trace.specs.ContainerStates.{first_writes}
use Rattle.ft_trace.specs.Traces.{Event, did, forked, joined, sent, run, writes_of, history, May, Valid}

abbrev FitsPair : DictPair → Type 0
FitsPair pair = FitsKey pair.key × FitsValue pair.value

abbrev FitsElement : Element → Type 0
FitsElement element = FitsKey element.key

-- ---- what stands at a place

at_or : (P : Content → Type 0) (world : WorldContent) (place : ℕ) (d : Content) → P d → All P world → P (get_or world place d)
at_or P [] place d default each = default
at_or P (first ∷ world) zero d default each = All-head P first world each
at_or P (first ∷ world) (suc place) d default each = at_or P world place d default (All-tail P first world each)

of_dict : (there : Content) → FitsContent there → All FitsPair (dict_of there).pairs
of_dict (content.Dict dict) fits = fits
of_dict (content.List items) fits = All-nil FitsPair
of_dict (content.Set set) fits = All-nil FitsPair
of_dict (content.Deque deque) fits = All-nil FitsPair

of_list : (there : Content) → FitsContent there → All FitsValue (list_of there)
of_list (content.Dict dict) fits = All-nil FitsValue
of_list (content.List items) fits = fits
of_list (content.Set set) fits = All-nil FitsValue
of_list (content.Deque deque) fits = All-nil FitsValue

of_set : (there : Content) → FitsContent there → All FitsElement (set_of there).elements
of_set (content.Dict dict) fits = All-nil FitsElement
of_set (content.List items) fits = All-nil FitsElement
of_set (content.Set set) fits = fits
of_set (content.Deque deque) fits = All-nil FitsElement

-- ---- lists

pick : {X : Type 0} (P : X → Type 0) (b : Bool) (x y : X) → P x → P y → P (if b then x else y)
pick P true x y p q = p
pick P false x y p q = q

reversed : {X : Type 0} (P : X → Type 0) (xs : List X) → All P xs → All P (reverse xs)
reversed P [] each = All-nil P
reversed P (x ∷ xs) each = subst (All P) (sym (reverse-cons x xs)) (All-push P (reverse xs) x (reversed P xs (All-tail P x xs each)) (All-head P x xs each))

set_fits : (dict : DictContent) (key : Key) (value : Value) → FitsKey key → FitsValue value → All FitsPair dict.pairs → All FitsPair (dict_set dict key value).pairs
set_fits dict key value k v each =
    pick (λ (z : DictContent). All FitsPair z.pairs) (has_key dict.pairs key) _ _
    (All-map FitsPair (λ pair. if is_at key pair then record pair { value = value } else pair) dict.pairs
    (All-weaker FitsPair (λ pair. FitsPair (if is_at key pair then record pair { value = value } else pair)) (λ pair fits. pick FitsPair (is_at key pair) (record pair { value = value }) pair (fits.0, v) fits) dict.pairs each))
    (All-push FitsPair dict.pairs (record { serial = dict.next; key = key; value = value }) each (k, v))

update_fits : (others : List DictPair) (dict : DictContent) → All FitsPair others → All FitsPair dict.pairs → All FitsPair (dict_update dict others).pairs
update_fits [] dict more each = each
update_fits (other ∷ others) dict more each = let o = All-head FitsPair other others more in update_fits others (dict_set dict other.key other.value) (All-tail FitsPair other others more) (set_fits dict other.key other.value o.0 o.1 each)

pairs_fit : (next : ℕ) (pairs : List DictPair) → All FitsPair pairs → All FitsPair (pairs_from next pairs)
pairs_fit next [] each = All-nil FitsPair
pairs_fit next (pair ∷ pairs) each = All-cons FitsPair (record pair { serial = next }) (pairs_from (next + 1) pairs) (All-head FitsPair pair pairs each) (pairs_fit (next + 1) pairs (All-tail FitsPair pair pairs each))

elements_fit : (next : ℕ) (elements : List Element) → All FitsElement elements → All FitsElement (elements_from next elements)
elements_fit next [] each = All-nil FitsElement
elements_fit next (element ∷ elements) each = All-cons FitsElement (record element { serial = next }) (elements_from (next + 1) elements) (All-head FitsElement element elements each) (elements_fit (next + 1) elements (All-tail FitsElement element elements each))

-- elements, and those of others that aren't among some, with new serials
joined_fits : (front others some : List Element) (next : ℕ) → All FitsElement front → All FitsElement others → All FitsElement (front ++ elements_from next (those_not_in some others))
joined_fits front others some next one more = All-append FitsElement front (elements_from next (those_not_in some others)) one (elements_fit next (those_not_in some others) (All-filter (λ element. not (has_element some element.key)) FitsElement others more))

of_deque : (there : Content) → FitsContent there → All FitsValue (deque_of there).items
of_deque (content.Dict dict) fits = All-nil FitsValue
of_deque (content.List items) fits = All-nil FitsValue
of_deque (content.Set set) fits = All-nil FitsValue
of_deque (content.Deque deque) fits = fits

-- those that a bound leaves, and those that were rotated
right_fits : (bound : Option ℕ) (items : List Value) → All FitsValue items → All FitsValue (right_within bound items)
right_fits None items fits = fits
right_fits (Some most) items fits = All-drop FitsValue (length items - most) items fits

left_fits : (bound : Option ℕ) (items : List Value) → All FitsValue items → All FitsValue (left_within bound items)
left_fits None items fits = fits
left_fits (Some most) items fits = All-take FitsValue most items fits

turned_fits : (items : List Value) (n : ℕ) → All FitsValue items → All FitsValue (drop n items ++ take n items)
turned_fits items n fits = All-append FitsValue (drop n items) (take n items) (All-drop FitsValue n items fits) (All-take FitsValue n items fits)

rotated_fits : (items : List Value) (steps : ℤ) → All FitsValue items → All FitsValue (rotated items steps)
rotated_fits items (pos steps) fits = turned_fits items (length items - steps % length items) fits
rotated_fits items (negsuc below) fits = turned_fits items (suc below % length items) fits

-- ---- one call

found : (R : Answer → Type 0) {X : Type 0} (f : X → Answer) (o : Option X) (none : Answer) → ((x : X) → R (f x)) → R none → R (option_map_or f o none)
found R f None none some without = without
found R f (Some x) none some without = some x

module _ (world : WorldContent) (each : All FitsContent world) where
  abbrev Left : Answer → Type 0
  Left answered = All FitsContent answered.world

  dict_fits : (place : ℕ) → All FitsPair (dict_at world place).pairs
  dict_fits place = of_dict _ (at_or FitsContent world place (content.Dict empty_dict) (All-nil FitsPair) each)

  list_fits : (place : ℕ) → All FitsValue (list_at world place)
  list_fits place = of_list _ (at_or FitsContent world place (content.List []) (All-nil FitsValue) each)

  elements_fits : (place : ℕ) → All FitsElement (set_at world place).elements
  elements_fits place = of_set _ (at_or FitsContent world place (content.Set empty_set) (All-nil FitsElement) each)

  items_fit : (place : ℕ) → All FitsValue (deque_at world place).items
  items_fit place = of_deque _ (at_or FitsContent world place (content.Deque (empty_deque None)) (All-nil FitsValue) each)

  put_fits : (place : ℕ) (there : Content) → FitsContent there → All FitsContent (slice_set world place there)
  put_fits place there fits = All-set FitsContent world place there fits each

  gone : (place i : ℕ) → All FitsValue (remove (list_at world place) i)
  gone place i = All-append FitsValue (take i (list_at world place)) (drop (suc i) (list_at world place)) (All-take FitsValue i (list_at world place) (list_fits place)) (All-drop FitsValue (suc i) (list_at world place) (list_fits place))

  by_dict : (hands : HandsContent) (place : ℕ) (c : DictCall) → FitsDictCall c → Left (answer_dict world hands place (dict_at world place) c)
  by_dict hands place (dict.Get key) fits = found Left _ (dict_get (dict_at world place).pairs key) _ (λ v. each) each
  by_dict hands place (dict.GetOr key default) fits = each
  by_dict hands place (dict.Set key value) fits = put_fits place _ (set_fits (dict_at world place) key value fits.0 fits.1 (dict_fits place))
  by_dict hands place (dict.Del key) fits = pick Left (has_key (dict_at world place).pairs key) _ _ (put_fits place _ (All-filter (λ pair. not (is_at key pair)) FitsPair (dict_at world place).pairs (dict_fits place))) each
  by_dict hands place (dict.Pop key) fits = found Left _ (dict_get (dict_at world place).pairs key) _ (λ v. put_fits place _ (All-filter (λ pair. not (is_at key pair)) FitsPair (dict_at world place).pairs (dict_fits place))) each
  by_dict hands place (dict.PopOr key default) fits = found Left _ (dict_get (dict_at world place).pairs key) _ (λ v. put_fits place _ (All-filter (λ pair. not (is_at key pair)) FitsPair (dict_at world place).pairs (dict_fits place))) each
  by_dict hands place dict.PopItem fits = found Left _ (slice_get (dict_at world place).pairs (length (dict_at world place).pairs - 1)) _ (λ v. put_fits place _ (All-take FitsPair (length (dict_at world place).pairs - 1) (dict_at world place).pairs (dict_fits place))) each
  by_dict hands place (dict.SetDefault key default) fits = found Left _ (dict_get (dict_at world place).pairs key) _ (λ v. each) (put_fits place _ (set_fits (dict_at world place) key default fits.0 fits.1 (dict_fits place)))
  by_dict hands place (dict.Has key) fits = each
  by_dict hands place dict.Len fits = each
  by_dict hands place dict.Items fits = each
  by_dict hands place (dict.Update other) fits = put_fits place _ (update_fits (dict_at world other).pairs (dict_at world place) (dict_fits other) (dict_fits place))
  by_dict hands place dict.Clear fits = put_fits place _ (All-nil FitsPair)
  by_dict hands place (dict.CopyTo other) fits = put_fits other _ (pairs_fit (dict_at world other).next (dict_at world place).pairs (dict_fits place))
  by_dict hands place (dict.Eq other) fits = each
  by_dict hands place (dict.Iter cursor) fits = each
  by_dict hands place (dict.KeysAnd other) fits = each
  by_dict hands place (dict.KeysSub other) fits = each
  by_dict hands place (dict.KeysOr other) fits = each
  by_dict hands place (dict.KeysXor other) fits = each
  by_dict hands place (dict.ItemsHas key value) fits = each
  by_dict hands place (dict.Reversed cursor) fits = each

  by_list : (hands : HandsContent) (place : ℕ) (c : ListCall) → FitsListCall c → Left (answer_list world hands place (list_at world place) c)
  by_list hands place (list.Append value) fits = put_fits place _ (All-push FitsValue (list_at world place) value (list_fits place) fits)
  by_list hands place (list.Insert index value) fits =
      let items = list_at world place in
      let i = clamped_in (length items) index in
      put_fits place _ (All-append FitsValue (take i items) (value ∷ drop i items) (All-take FitsValue i items (list_fits place)) (All-cons FitsValue value (drop i items) fits (All-drop FitsValue i items (list_fits place))))
  by_list hands place (list.Get index) fits = found Left _ (index_in (length (list_at world place)) index) _ (λ v. each) each
  by_list hands place (list.Set index value) fits = found Left _ (index_in (length (list_at world place)) index) _ (λ i. put_fits place _ (All-set FitsValue (list_at world place) i value fits (list_fits place))) each
  by_list hands place (list.Del index) fits = found Left _ (index_in (length (list_at world place)) index) _ (λ i. put_fits place _ (gone place i)) each
  by_list hands place (list.Pop index) fits = found Left _ (index_in (length (list_at world place)) (unwrap_or index (negsuc 0))) _ (λ i. put_fits place _ (gone place i)) each
  by_list hands place (list.Remove value) fits = found Left _ (index_of (list_at world place) value) _ (λ i. put_fits place _ (gone place i)) each
  by_list hands place (list.Index value) fits = found Left _ (index_of (list_at world place) value) _ (λ v. each) each
  by_list hands place (list.Count value) fits = each
  by_list hands place (list.Has value) fits = each
  by_list hands place list.Reverse fits = put_fits place _ (reversed FitsValue (list_at world place) (list_fits place))
  by_list hands place (list.Extend other) fits = put_fits place _ (All-append FitsValue (list_at world place) (list_at world other) (list_fits place) (list_fits other))
  by_list hands place (list.Slice start end) fits = each
  by_list hands place list.Clear fits = put_fits place _ (All-nil FitsValue)
  by_list hands place list.Len fits = each
  by_list hands place list.Items fits = each
  by_list hands place (list.Eq other) fits = each
  by_list hands place (list.Iter cursor) fits = each
  by_list hands place (list.Reversed cursor) fits = each

  by_set : (hands : HandsContent) (place : ℕ) (c : SetCall) → FitsSetCall c → Left (answer_set world hands place (set_at world place) c)
  by_set hands place (set_call.Add key) fits = put_fits place _ (pick (λ (z : SetContent). All FitsElement z.elements) (has_element (set_at world place).elements key) _ _ (elements_fits place) (All-push FitsElement (set_at world place).elements (record { serial = (set_at world place).next; key = key }) (elements_fits place) fits))
  by_set hands place (set_call.Discard key) fits = put_fits place _ (All-filter (λ element. not (same_key element.key key)) FitsElement (set_at world place).elements (elements_fits place))
  by_set hands place (set_call.Remove key) fits = pick Left (has_element (set_at world place).elements key) _ _ (put_fits place _ (All-filter (λ element. not (same_key element.key key)) FitsElement (set_at world place).elements (elements_fits place))) each
  by_set hands place set_call.Pop fits = found Left _ (slice_get (set_at world place).elements 0) _ (λ v. put_fits place _ (All-drop FitsElement 1 (set_at world place).elements (elements_fits place))) each
  by_set hands place (set_call.Has key) fits = each
  by_set hands place set_call.Len fits = each
  by_set hands place set_call.Items fits = each
  by_set hands place (set_call.Eq other) fits = each
  by_set hands place (set_call.Or other) fits = put_fits place _ (joined_fits (set_at world place).elements (set_at world other).elements (set_at world place).elements (set_at world place).next (elements_fits place) (elements_fits other))
  by_set hands place (set_call.And other) fits = put_fits place _ (All-filter (λ element. has_element (set_at world other).elements element.key) FitsElement (set_at world place).elements (elements_fits place))
  by_set hands place (set_call.Sub other) fits = put_fits place _ (All-filter (λ element. not (has_element (set_at world other).elements element.key)) FitsElement (set_at world place).elements (elements_fits place))
  by_set hands place (set_call.Xor other) fits = put_fits place _ (joined_fits (those_not_in (set_at world other).elements (set_at world place).elements) (set_at world other).elements (set_at world place).elements (set_at world place).next (All-filter (λ element. not (has_element (set_at world other).elements element.key)) FitsElement (set_at world place).elements (elements_fits place)) (elements_fits other))
  by_set hands place (set_call.Subset other) fits = each
  by_set hands place (set_call.Disjoint other) fits = each
  by_set hands place set_call.Clear fits = put_fits place _ (All-nil FitsElement)
  by_set hands place (set_call.Iter cursor) fits = each

  deque_fits : (place : ℕ) (stays_so : Bool) (items : List Value) → All FitsValue items → All FitsContent (slice_set world place (content.Deque (if stays_so then deque_at world place else with_deque_items (deque_at world place) items)))
  deque_fits place true items fits = put_fits place _ (items_fit place)
  deque_fits place false items fits = put_fits place _ fits

  by_deque : (hands : HandsContent) (place : ℕ) (c : DequeCall) → FitsDequeCall c → Left (answer_deque world hands place (deque_at world place) c)
  by_deque hands place (deque.Append value) fits = put_fits place _ (right_fits (deque_at world place).bound _ (All-push FitsValue (deque_at world place).items value (items_fit place) fits))
  by_deque hands place (deque.AppendLeft value) fits = put_fits place _ (left_fits (deque_at world place).bound _ (All-cons FitsValue value (deque_at world place).items fits (items_fit place)))
  by_deque hands place deque.Pop fits = found Left _ (last_item (deque_at world place).items) _ (λ v. put_fits place _ (All-take FitsValue (length (deque_at world place).items - 1) (deque_at world place).items (items_fit place))) each
  by_deque hands place deque.PopLeft fits = found Left _ (first_item (deque_at world place).items) _ (λ v. put_fits place _ (All-drop FitsValue 1 (deque_at world place).items (items_fit place))) each
  by_deque hands place (deque.Extend other) fits = deque_fits place (length (deque_at world other).items == 0) _ (right_fits (deque_at world place).bound _ (All-append FitsValue (deque_at world place).items (deque_at world other).items (items_fit place) (items_fit other)))
  by_deque hands place (deque.ExtendLeft other) fits = deque_fits place (length (deque_at world other).items == 0) _ (left_fits (deque_at world place).bound _ (All-append FitsValue (reverse (deque_at world other).items) (deque_at world place).items (reversed FitsValue (deque_at world other).items (items_fit other)) (items_fit place)))
  by_deque hands place (deque.Rotate steps) fits = deque_fits place (nat_le (length (deque_at world place).items) 1) _ (rotated_fits (deque_at world place).items steps (items_fit place))
  by_deque hands place deque.Clear fits = deque_fits place (length (deque_at world place).items == 0) [] (All-nil FitsValue)
  by_deque hands place (deque.Get index) fits = found Left _ (deque_get (deque_at world place).items index) _ (λ v. each) each
  by_deque hands place deque.Len fits = each
  by_deque hands place deque.Items fits = each
  by_deque hands place (deque.Has value) fits = each
  by_deque hands place (deque.Iter cursor) fits = each

  by_call : (hands : HandsContent) (called : Call) → FitsCall called → Left (answer world hands called)
  by_call hands (call.Dict place c) fits = by_dict hands place c fits
  by_call hands (call.List place c) fits = by_list hands place c fits
  by_call hands (call.Set place c) fits = by_set hands place c fits
  by_call hands (call.Deque place c) fits = by_deque hands place c fits
  by_call hands (call.Next number) fits = found Left _ (cursor_at hands number) _ (λ cursor. each) each
  by_call hands (call.Begin first second) fits = each
  by_call hands call.End fits = each
  by_call hands call.Quiesce fits = each
  by_call hands (call.Await thread index) fits = each
  by_call hands call.Dump fits = each

-- ---- many calls

empty_fits : (kind : Kind) → FitsContent (empty_content kind)
empty_fits kind.Dict = All-nil FitsPair
empty_fits kind.List = All-nil FitsValue
empty_fits kind.Set = All-nil FitsElement
empty_fits (kind.Deque bound) = All-nil FitsValue

stored_fits : (starts : List Start) (calls : List Call) → All FitsCall calls → All FitsContent (stored_newest starts calls).world
stored_fits starts [] fits = All-map FitsContent (λ (start : Start). empty_content start.kind) starts (λ k d low. empty_fits (get_or starts k d).kind)
stored_fits starts (called ∷ calls) fits = by_call (stored_newest starts calls).world (stored_fits starts calls (All-tail FitsCall called calls fits)) no_hands called (All-head FitsCall called calls fits)

first_fit : (n : ℕ) (calls : List Call) → All FitsCall calls → All FitsCall (first_writes n calls)
first_fit n [] fits = fits
first_fit n (called ∷ calls) fits = pick (All FitsCall) (nat_lt (length calls) n) (called ∷ calls) (first_writes n calls) fits (first_fit n calls (All-tail FitsCall called calls fits))

-- ---- words that stand for a dict

mapped : {X Y : Type 0} (P : X → Type 0) (f : Y → X) (ys : List Y) → All P (map f ys) → All (λ y. P (f y)) ys
mapped P f [] each = All-nil (λ y. P (f y))
mapped P f (y ∷ ys) each = All-cons (λ y. P (f y)) y ys (All-head P (f y) (map f ys) each) (mapped P f ys (All-tail P (f y) (map f ys) each))

-- words can represent what a live entry says
abbrev FitsUsed : UsedEntry → Type 0
FitsUsed entry = IfSome entry.stored (λ stored. FitsKey entry.key × FitsStored stored)

used_fits : (word : ℕ → ℕ) (hash : ℕ) (key : Key) (serial : ℕ) (stored : Option Stored) → IsEntry word (slot_with hash key serial stored) → IfSome stored (λ stored. FitsKey key × FitsStored stored)
used_fits word hash key serial (Some stored) says = (says.key.fits, says.value.fits)
used_fits word hash key serial None says = tt

pub dict_fits_words : (texts block ws : List ℕ) (c fill : ℕ) (dict : DictContent) → IsDictWords texts block ws (Some c) fill dict → All FitsPair dict.pairs
dict_fits_words texts block ws c fill dict says =
    let all : All FitsUsed says.used = λ p any low. let e = get_or says.used p any in used_fits (entry_word (class_mask c) ws p) (hash_of texts e.key) e.key e.serial e.stored (says.table.entries p any low) in
    mapped FitsUsed used_pair dict.pairs (subst (All FitsUsed) says.entries.live (All-filter is_live FitsUsed says.used all))

pub set_fits_words : (texts block ws : List ℕ) (c fill : ℕ) (elements : SetContent) → IsSetWords texts block ws (Some c) fill elements → All FitsElement elements.elements
set_fits_words texts block ws c fill elements says =
    let all : All FitsUsed says.used = λ p any low. let e = get_or says.used p any in used_fits (entry_word (class_mask c) ws p) (hash_of texts e.key) e.key e.serial e.stored (says.table.entries p any low) in
    All-weaker (λ element. FitsUsed (used_element element)) FitsElement (λ element fits. fits.0) elements.elements (mapped FitsUsed used_element elements.elements (subst (All FitsUsed) says.entries.live (All-filter is_live FitsUsed says.used all)))

-- a key that was set, and its value
pub set_fit : (dict : DictContent) (key : Key) (value : Value) → has_key dict.pairs key ≡ false → All FitsPair (dict_set dict key value).pairs → FitsKey key × FitsValue value
set_fit dict key value missing each =
    let one : DictPair = record { serial = dict.next; key = key; value = value } in
    let pairs : (dict_set dict key value).pairs ≡ dict.pairs ++ one ∷ [] = ap (λ (b : Bool). DictContent.pairs (if b then record { next = dict.next; pairs = with_value dict.pairs key value } else record { next = dict.next + 1; pairs = dict.pairs ++ one ∷ [] })) missing in
    last dict.pairs (subst (All FitsPair) pairs each)
  where
    last : (front : List DictPair) → All FitsPair (front ++ record { serial = dict.next; key = key; value = value } ∷ []) → FitsKey key × FitsValue value
    last [] each = All-head FitsPair (record { serial = dict.next; key = key; value = value }) [] each
    last (pair ∷ front) each = last front (All-tail FitsPair pair (front ++ record { serial = dict.next; key = key; value = value } ∷ []) each)

-- ---- traces

call_fits : (k : Shape) (es : List Event) (v : View) (a : Act) → May k (run k es) (history es) v a → All FitsCall (history es) → All FitsCall (writes_of a (history es))
call_fits k es v (Commit c r f s) may old = All-cons FitsCall c (history es) may.12 old
call_fits k es v act may old = old

pub calls_fit : (k : Shape) (es : List Event) → Valid k es → All FitsCall (history es)
calls_fit k [] valid = All-nil FitsCall
calls_fit k (did id v a ∷ es) valid = call_fits k es v a valid.1.3 (calls_fit k es valid.0)
calls_fit k (forked id v ∷ es) valid = calls_fit k es valid.0
calls_fit k (sent id v given ∷ es) valid = calls_fit k es valid.0
calls_fit k (joined id v other w ∷ es) valid = calls_fit k es valid.0

pub contents_fit : (k : Shape) (es : List Event) → Valid k es → All FitsContent (stored_newest k.starts (history es)).world
contents_fit k es valid = stored_fits k.starts (history es) (calls_fit k es valid)

pub contents_fit_at : (k : Shape) (es : List Event) → Valid k es → (n : ℕ) → All FitsContent (stored_newest k.starts (first_writes n (history es))).world
contents_fit_at k es valid n = stored_fits k.starts (first_writes n (history es)) (first_fit n (history es) (calls_fit k es valid))
