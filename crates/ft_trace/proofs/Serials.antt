-- A write draws no more serials than the largest table has entries, so the next serial is low after few writes.
use Rattle.std.proofs.Common.{◌≡◌, ℕ, suc, zero, ◌+◌, ◌-◌, ◌*◌, ◌≤◌, Bool, true, false, not, List, [], ◌∷◌, length, get_or, Option, Some, None, refl, arith}
use Rattle.std.specs.Prelude.{All, ◌==◌, nat_le, negsuc, slice_get, slice_set, if◌then◌else◌}
use Rattle.std.specs.Option.{option_map_or, unwrap_or}
use Rattle.std.proofs.lemmas.Bool.{ltb-false}
use Rattle.std.proofs.lemmas.List.Elements.{All-head, All-tail, All-set, All-weaker, All-map}
use Rattle.ft_model.specs.declared.data.Key.{Key}
use Rattle.ft_model.specs.declared.data.Value.{Value}
use Rattle.ft_model.specs.declared.call.Call.{Call}
use Rattle.ft_model.specs.declared.call.Call.TheVariants as call
use Rattle.ft_model.specs.declared.call.DictCall.{DictCall}
use Rattle.ft_model.specs.declared.call.DictCall.TheVariants as dict
use Rattle.ft_model.specs.declared.call.ListCall.{ListCall}
use Rattle.ft_model.specs.declared.call.ListCall.TheVariants as list
use Rattle.ft_model.specs.declared.call.SetCall.{SetCall}
use Rattle.ft_model.specs.declared.call.SetCall.TheVariants as set_call
use Rattle.ft_model.specs.declared.call.DequeCall.{DequeCall}
use Rattle.ft_model.specs.declared.call.DequeCall.TheVariants as deque
use Rattle.ft_model.specs.declared.content.Content.{Content}
use Rattle.ft_model.specs.declared.content.Content.TheVariants as content
use Rattle.ft_model.specs.declared.content.DictPair.{DictPair}
use Rattle.ft_model.specs.declared.content.Element.{Element}
use Rattle.ft_model.specs.declared.script.Kind.{Kind}
use Rattle.ft_model.specs.declared.script.Start.{Start}
use Rattle.ft_model.specs.declared.script.Kind.TheVariants as kind
use Rattle.ft_model.specs.Classes.{most_pairs, most_elements}
use Rattle.ft_model.specs.Contents.{DictContent, SetContent, empty_dict, empty_set, dict_get, has_key, dict_set, dict_update, has_element, set_add, those_not_in}
use Rattle.ft_model.specs.Deques.{empty_deque, with_deque_items, last_item, first_item, deque_get}
use Rattle.ft_model.specs.Lists.{index_in, index_of}
use Rattle.ft_model.specs.Worlds.{WorldContent, HandsContent, serial_of, cursor_at, dict_of, set_of, deque_of, dict_at, list_at, set_at, deque_at, no_hands, empty_content}
use Rattle.ft_model.specs.Answers.{Answer, answer_dict, answer_list, answer_set, answer_deque, answer}
use Rattle.ft_model.specs.TableUses.{passes_cap, stored_newest}
use Rattle.ft_model.proofs.KnownKeys.{length-filter-le}
use Rattle.ft_model.proofs.TableOrder.{order-caps}
use Rattle.ft_trace.specs.declared.Shape.{Shape}
use Rattle.ft_trace.specs.declared.Act.{Act}
use Rattle.ft_trace.specs.declared.Act.TheVariants.{Commit}
use Rattle.ft_trace.specs.ContainerStates.{container_after}
use Rattle.ft_trace.specs.Traces.{Event, did, forked, joined, sent, writes_of, history, Valid}
use Rattle.ft_trace.proofs.Orders.{in_order}

-- the next serial is at most that
abbrev IsLow : ℕ → Content → Type 0
IsLow most there = serial_of there ≤ most

abbrev IsCapped : Content → Type 0
IsCapped there = passes_cap there ≡ false

-- ---- what stands at a place

at_or : (P : Content → Type 0) (world : WorldContent) (place : ℕ) (d : Content) → P d → All P world → P (get_or world place d)
at_or P [] place d default each = default
at_or P (first ∷ world) zero d default each = All-head P first world each
at_or P (first ∷ world) (suc place) d default each = at_or P world place d default (All-tail P first world each)

dict_next : (most : ℕ) (there : Content) → IsLow most there → (dict_of there).next ≤ most
dict_next most (content.Dict dict) low = low
dict_next most (content.List items) low = omega arith
dict_next most (content.Set set) low = omega arith
dict_next most (content.Deque deque) low = omega arith

set_next : (most : ℕ) (there : Content) → IsLow most there → (set_of there).next ≤ most
set_next most (content.Dict dict) low = omega arith
set_next most (content.List items) low = omega arith
set_next most (content.Set set) low = low
set_next most (content.Deque deque) low = omega arith

deque_next : (most : ℕ) (there : Content) → IsLow most there → (deque_of there).moves ≤ most
deque_next most (content.Dict dict) low = omega arith
deque_next most (content.List items) low = omega arith
deque_next most (content.Set set) low = omega arith
deque_next most (content.Deque deque) low = low

dict_length : (there : Content) → IsCapped there → length (dict_of there).pairs ≤ 65536
dict_length (content.Dict dict) capped = let le : length dict.pairs ≤ 43690 = ltb-false most_pairs (length dict.pairs) capped in omega (arith, le)
dict_length (content.List items) capped = omega arith
dict_length (content.Set set) capped = omega arith
dict_length (content.Deque deque) capped = omega arith

set_length : (there : Content) → IsCapped there → length (set_of there).elements ≤ 65536
set_length (content.Dict dict) capped = omega arith
set_length (content.List items) capped = omega arith
set_length (content.Set set) capped = let le : length set.elements ≤ 39321 = ltb-false most_elements (length set.elements) capped in omega (arith, le)
set_length (content.Deque deque) capped = omega arith

-- ---- one key, or many

pick : {X : Type 0} (P : X → Type 0) (b : Bool) (x y : X) → P x → P y → P (if b then x else y)
pick P true x y p q = p
pick P false x y p q = q

set_draws : (dict : DictContent) (key : Key) (value : Value) → (dict_set dict key value).next ≤ dict.next + 1
set_draws dict key value = pick (λ (z : DictContent). z.next ≤ dict.next + 1) (has_key dict.pairs key) _ _ (omega arith) (omega arith)

add_draws : (set : SetContent) (key : Key) → (set_add set key).next ≤ set.next + 1
add_draws set key = pick (λ (z : SetContent). z.next ≤ set.next + 1) (has_element set.elements key) _ _ (omega arith) (omega arith)

update_draws : (others : List DictPair) (dict : DictContent) → (dict_update dict others).next ≤ dict.next + length others
update_draws [] dict = omega arith
update_draws (other ∷ others) dict =
    let rest = update_draws others (dict_set dict other.key other.value) in
    let one = set_draws dict other.key other.value in
    omega (arith, rest, one)

-- ---- one call

found : (R : Answer → Type 0) {X : Type 0} (f : X → Answer) (o : Option X) (none : Answer) → ((x : X) → R (f x)) → R none → R (option_map_or f o none)
found R f None none some without = without
found R f (Some x) none some without = some x

module _ (most : ℕ) (world : WorldContent) (each : All (IsLow most) world) (caps : All IsCapped world) where
  abbrev Left : Answer → Type 0
  Left answered = All (IsLow (most + 65536)) answered.world

  stays : All (IsLow (most + 65536)) world
  stays = All-weaker (IsLow most) (IsLow (most + 65536)) (λ there low. omega (arith, low)) world each

  dict_low : (place : ℕ) → (dict_at world place).next ≤ most
  dict_low place = dict_next most (get_or world place (content.Dict empty_dict)) (at_or (IsLow most) world place (content.Dict empty_dict) (omega arith) each)

  set_low : (place : ℕ) → (set_at world place).next ≤ most
  set_low place = set_next most (get_or world place (content.Set empty_set)) (at_or (IsLow most) world place (content.Set empty_set) (omega arith) each)

  deque_low : (place : ℕ) → (deque_at world place).moves ≤ most
  deque_low place = deque_next most (get_or world place (content.Deque (empty_deque None))) (at_or (IsLow most) world place (content.Deque (empty_deque None)) (omega arith) each)

  dict_few : (place : ℕ) → length (dict_at world place).pairs ≤ 65536
  dict_few place = dict_length (get_or world place (content.Dict empty_dict)) (at_or IsCapped world place (content.Dict empty_dict) refl caps)

  set_few : (place : ℕ) → length (set_at world place).elements ≤ 65536
  set_few place = set_length (get_or world place (content.Set empty_set)) (at_or IsCapped world place (content.Set empty_set) refl caps)

  puts_low : (place : ℕ) (there : Content) → IsLow (most + 65536) there → All (IsLow (most + 65536)) (slice_set world place there)
  puts_low place there low = All-set (IsLow (most + 65536)) world place there low stays

  -- no serial is drawn
  keeps_dict : (place : ℕ) (pairs : List DictPair) → All (IsLow (most + 65536)) (slice_set world place (content.Dict (record { next = (dict_at world place).next; pairs = pairs })))
  keeps_dict place pairs = let low = dict_low place in puts_low place _ (omega (arith, low))

  keeps_set : (place : ℕ) (elements : List Element) → All (IsLow (most + 65536)) (slice_set world place (content.Set (record { next = (set_at world place).next; elements = elements })))
  keeps_set place elements = let low = set_low place in puts_low place _ (omega (arith, low))

  puts_items : (place : ℕ) (items : List Value) → All (IsLow (most + 65536)) (slice_set world place (content.List items))
  puts_items place items = puts_low place (content.List items) (omega arith)

  moves_once : (place : ℕ) (items : List Value) → All (IsLow (most + 65536)) (slice_set world place (content.Deque (with_deque_items (deque_at world place) items)))
  moves_once place items = let low = deque_low place in puts_low place _ (omega (arith, low))

  moves_where : (place : ℕ) (stays_so : Bool) (items : List Value) → All (IsLow (most + 65536)) (slice_set world place (content.Deque (if stays_so then deque_at world place else with_deque_items (deque_at world place) items)))
  moves_where place true items = let low = deque_low place in puts_low place _ (omega (arith, low))
  moves_where place false items = moves_once place items

  -- those of the other set that weren't there
  joins : (place other : ℕ) (elements : List Element) → All (IsLow (most + 65536)) (slice_set world place (content.Set (record { next = (set_at world place).next + length (those_not_in (set_at world place).elements (set_at world other).elements); elements = elements })))
  joins place other elements =
      let low = set_low place in
      let few = set_few other in
      let some = length-filter-le (λ element. not (has_element (set_at world place).elements element.key)) (set_at world other).elements in
      puts_low place _ (omega (arith, low, few, some))

  by_dict : (hands : HandsContent) (place : ℕ) (c : DictCall) → Left (answer_dict world hands place (dict_at world place) c)
  by_dict hands place (dict.Get key) = found Left _ (dict_get (dict_at world place).pairs key) _ (λ v. stays) stays
  by_dict hands place (dict.GetOr key default) = stays
  by_dict hands place (dict.Set key value) = let low = dict_low place in let one = set_draws (dict_at world place) key value in puts_low place (content.Dict (dict_set (dict_at world place) key value)) (omega (arith, low, one))
  by_dict hands place (dict.Del key) = pick Left (has_key (dict_at world place).pairs key) _ _ (keeps_dict place _) stays
  by_dict hands place (dict.Pop key) = found Left _ (dict_get (dict_at world place).pairs key) _ (λ v. keeps_dict place _) stays
  by_dict hands place (dict.PopOr key default) = found Left _ (dict_get (dict_at world place).pairs key) _ (λ v. keeps_dict place _) stays
  by_dict hands place dict.PopItem = found Left _ (slice_get (dict_at world place).pairs (length (dict_at world place).pairs - 1)) _ (λ v. keeps_dict place _) stays
  by_dict hands place (dict.SetDefault key default) = found Left _ (dict_get (dict_at world place).pairs key) _ (λ v. stays) (let low = dict_low place in let one = set_draws (dict_at world place) key default in puts_low place (content.Dict (dict_set (dict_at world place) key default)) (omega (arith, low, one)))
  by_dict hands place (dict.Has key) = stays
  by_dict hands place dict.Len = stays
  by_dict hands place dict.Items = stays
  by_dict hands place (dict.Update other) = let low = dict_low place in let few = dict_few other in let more = update_draws (dict_at world other).pairs (dict_at world place) in puts_low place (content.Dict (dict_update (dict_at world place) (dict_at world other).pairs)) (omega (arith, low, few, more))
  by_dict hands place dict.Clear = keeps_dict place []
  by_dict hands place (dict.CopyTo other) = let low = dict_low other in let few = dict_few place in puts_low other _ (omega (arith, low, few))
  by_dict hands place (dict.Eq other) = stays
  by_dict hands place (dict.Iter cursor) = stays
  by_dict hands place (dict.KeysAnd other) = stays
  by_dict hands place (dict.KeysSub other) = stays
  by_dict hands place (dict.KeysOr other) = stays
  by_dict hands place (dict.KeysXor other) = stays
  by_dict hands place (dict.ItemsHas key value) = stays
  by_dict hands place (dict.Reversed cursor) = stays

  by_list : (hands : HandsContent) (place : ℕ) (c : ListCall) → Left (answer_list world hands place (list_at world place) c)
  by_list hands place (list.Append value) = puts_items place _
  by_list hands place (list.Insert index value) = puts_items place _
  by_list hands place (list.Get index) = found Left _ (index_in (length (list_at world place)) index) _ (λ v. stays) stays
  by_list hands place (list.Set index value) = found Left _ (index_in (length (list_at world place)) index) _ (λ i. puts_items place _) stays
  by_list hands place (list.Del index) = found Left _ (index_in (length (list_at world place)) index) _ (λ i. puts_items place _) stays
  by_list hands place (list.Pop index) = found Left _ (index_in (length (list_at world place)) (unwrap_or index (negsuc 0))) _ (λ i. puts_items place _) stays
  by_list hands place (list.Remove value) = found Left _ (index_of (list_at world place) value) _ (λ i. puts_items place _) stays
  by_list hands place (list.Index value) = found Left _ (index_of (list_at world place) value) _ (λ v. stays) stays
  by_list hands place (list.Count value) = stays
  by_list hands place (list.Has value) = stays
  by_list hands place list.Reverse = puts_items place _
  by_list hands place (list.Extend other) = puts_items place _
  by_list hands place (list.Slice start end) = stays
  by_list hands place list.Clear = puts_items place []
  by_list hands place list.Len = stays
  by_list hands place list.Items = stays
  by_list hands place (list.Eq other) = stays
  by_list hands place (list.Iter cursor) = stays
  by_list hands place (list.Reversed cursor) = stays

  by_set : (hands : HandsContent) (place : ℕ) (c : SetCall) → Left (answer_set world hands place (set_at world place) c)
  by_set hands place (set_call.Add key) = let low = set_low place in let one = add_draws (set_at world place) key in puts_low place (content.Set (set_add (set_at world place) key)) (omega (arith, low, one))
  by_set hands place (set_call.Discard key) = keeps_set place _
  by_set hands place (set_call.Remove key) = pick Left (has_element (set_at world place).elements key) _ _ (keeps_set place _) stays
  by_set hands place set_call.Pop = found Left _ (slice_get (set_at world place).elements 0) _ (λ v. keeps_set place _) stays
  by_set hands place (set_call.Has key) = stays
  by_set hands place set_call.Len = stays
  by_set hands place set_call.Items = stays
  by_set hands place (set_call.Eq other) = stays
  by_set hands place (set_call.Or other) = joins place other _
  by_set hands place (set_call.And other) = keeps_set place _
  by_set hands place (set_call.Sub other) = keeps_set place _
  by_set hands place (set_call.Xor other) = joins place other _
  by_set hands place (set_call.Subset other) = stays
  by_set hands place (set_call.Disjoint other) = stays
  by_set hands place set_call.Clear = keeps_set place []
  by_set hands place (set_call.Iter cursor) = stays

  by_deque : (hands : HandsContent) (place : ℕ) (c : DequeCall) → Left (answer_deque world hands place (deque_at world place) c)
  by_deque hands place (deque.Append value) = moves_once place _
  by_deque hands place (deque.AppendLeft value) = moves_once place _
  by_deque hands place deque.Pop = found Left _ (last_item (deque_at world place).items) _ (λ v. moves_once place _) stays
  by_deque hands place deque.PopLeft = found Left _ (first_item (deque_at world place).items) _ (λ v. moves_once place _) stays
  by_deque hands place (deque.Extend other) = moves_where place (length (deque_at world other).items == 0) _
  by_deque hands place (deque.ExtendLeft other) = moves_where place (length (deque_at world other).items == 0) _
  by_deque hands place (deque.Rotate steps) = moves_where place (nat_le (length (deque_at world place).items) 1) _
  by_deque hands place deque.Clear = moves_where place (length (deque_at world place).items == 0) _
  by_deque hands place (deque.Get index) = found Left _ (deque_get (deque_at world place).items index) _ (λ v. stays) stays
  by_deque hands place deque.Len = stays
  by_deque hands place deque.Items = stays
  by_deque hands place (deque.Has value) = stays
  by_deque hands place (deque.Iter cursor) = stays

  by_call : (hands : HandsContent) (called : Call) → Left (answer world hands called)
  by_call hands (call.Dict place c) = by_dict hands place c
  by_call hands (call.List place c) = by_list hands place c
  by_call hands (call.Set place c) = by_set hands place c
  by_call hands (call.Deque place c) = by_deque hands place c
  by_call hands (call.Next number) = found Left _ (cursor_at hands number) _ (λ cursor. stays) stays
  by_call hands (call.Begin first second) = stays
  by_call hands call.End = stays
  by_call hands call.Quiesce = stays
  by_call hands (call.Await thread index) = stays
  by_call hands call.Dump = stays

-- ---- traces

empty_low : (kind : Kind) → IsLow 0 (empty_content kind)
empty_low kind.Dict = omega arith
empty_low kind.List = omega arith
empty_low kind.Set = omega arith
empty_low (kind.Deque bound) = omega arith

abbrev AllLow : Shape → List Call → Type 0
AllLow k cs = All (IsLow (65536 * length cs)) (stored_newest k.starts cs).world

one_write : (k : Shape) (cs : List Call) (c : Call) → All IsCapped (stored_newest k.starts cs).world → AllLow k cs → AllLow k (c ∷ cs)
one_write k cs c caps old =
    All-weaker (IsLow (65536 * length cs + 65536)) (IsLow (65536 * length (c ∷ cs))) (λ there low. omega (arith, low)) _
    (by_call (65536 * length cs) (stored_newest k.starts cs).world old caps no_hands c)

by_act : (k : Shape) (cs : List Call) (a : Act) → All IsCapped (stored_newest k.starts cs).world → AllLow k cs → AllLow k (writes_of a cs)
by_act k cs (Commit c r f s) caps old = one_write k cs c caps old
by_act k cs act caps old = old

all_low : (k : Shape) (es : List Event) → Valid k es → AllLow k (history es)
all_low k [] valid = All-map (IsLow 0) (λ (start : Start). empty_content start.kind) k.starts (λ p d low. empty_low (get_or k.starts p d).kind)
all_low k (did id v a ∷ es) valid = by_act k (history es) a (order-caps (stored_newest k.starts (history es)) (in_order k es valid.0)) (all_low k es valid.0)
all_low k (forked id v ∷ es) valid = all_low k es valid.0
all_low k (sent id v given ∷ es) valid = all_low k es valid.0
all_low k (joined id v other w ∷ es) valid = all_low k es valid.0

-- the next serial of each container
pub next_low : (k : Shape) (es : List Event) → Valid k es → (o : ℕ) → serial_of (container_after k.starts (history es) o).content ≤ 65536 * length (history es)
next_low k es valid o = at_or (IsLow (65536 * length (history es))) (stored_newest k.starts (history es)).world o (content.List []) (omega arith) (all_low k es valid)
