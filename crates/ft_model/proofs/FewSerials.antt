-- Of a world whose contents keep their rule, with known keys and few serials, each call leaves another such world.
use Rattle.ft_model.specs.declared.script.Start.{Start}
use Rattle.std.proofs.Common.{◌≡◌, ℕ, suc, zero, ◌+◌, ◌-◌, ◌*◌, ◌<◌, ◌≤◌, Bool, true, false, not, List, [], ◌∷◌, ◌++◌, length, map, get_or, set, Option, Some, None, refl, sym, ap, ◌∙◌, subst, take, drop, arith}
use Rattle.std.specs.Prelude.{◌==◌, ◌%◌, All, IfSome, fold, reverse, replicate, nat_le, sum, ℤ, pos, negsuc, option_map, slice_get, if◌then◌else◌}
use Rattle.std.specs.Option.{option_map_or, unwrap_or}
use Rattle.std.proofs.lemmas.List.{length-append, length-take, length-drop, length-replicate}
use Rattle.std.proofs.lemmas.Bool.{false≢true}
use Rattle.std.proofs.lemmas.Nat.{mul-le}
use Rattle.std.proofs.lemmas.List.Elements.{All-cons, All-set, All-map, All-nil}
use Rattle.ft_model.specs.declared.data.Key.{Key}
use Rattle.ft_model.specs.declared.data.Key.TheVariants as key_of
use Rattle.ft_model.specs.declared.data.Value.{Value}
use Rattle.ft_model.specs.declared.call.Call.{Call}
use Rattle.ft_model.specs.declared.call.Call.TheVariants as call
use Rattle.ft_model.specs.declared.call.DictCall.{DictCall}
use Rattle.ft_model.specs.declared.call.DictCall.TheVariants as dict
use Rattle.ft_model.specs.declared.call.ListCall.{ListCall}
use Rattle.ft_model.specs.declared.call.ListCall.TheVariants as list
use Rattle.ft_model.specs.declared.call.SetCall.{SetCall}
use Rattle.ft_model.specs.declared.call.SetCall.TheVariants as set_call
use Rattle.ft_model.specs.declared.call.DequeCall.{DequeCall}
use Rattle.ft_model.specs.declared.call.DequeCall.TheVariants as deque
use Rattle.ft_model.specs.declared.content.Content.{Content}
use Rattle.ft_model.specs.declared.content.Content.TheVariants as content
use Rattle.ft_model.specs.declared.reply.Reply.{Reply}
use Rattle.ft_model.specs.declared.script.Kind.{Kind}
use Rattle.ft_model.specs.declared.script.Kind.TheVariants as kind
use Rattle.ft_model.specs.Keys.{same_key}
use Rattle.ft_model.specs.Contents.{DictContent, SetContent, empty_dict, empty_set, is_at, dict_get, has_key, dict_set, has_element}
use Rattle.ft_model.specs.Deques.{IsDeque, empty_deque, right_within, left_within, with_deque_items, last_item, first_item, rotated, deque_get}
use Rattle.ft_model.specs.Lists.{index_in, index_of}
use Rattle.ft_model.specs.Worlds.{WorldContent, HandsContent, kind_of, length_of, serial_of, cursor_at, dict_of, set_of, deque_of, dict_at, list_at, set_at, deque_at, no_hands, empty_content, empty_world, IsOfKind, IsDeclared, HasSerials, HasRoom}
use Rattle.ft_model.specs.Calls.{one_or_two, other_dict, other_list, other_set, other_deque}
use Rattle.ft_model.specs.Answers.{Answer, shows, puts, answer_dict, answer_list, answer_set, answer_deque, answer, after_write, world_by}
use Rattle.ft_model.specs.Serials.{IsContent, HasFewSerials}
use Rattle.ft_model.proofs.KnownKeys.{known, known_later, known_first, FewPairs, pairs_few, pairs_stay, set_few, update_few, copy_few, filter_few, take_few, clear_few}
use Rattle.ft_model.proofs.KnownKeys.{FewElements, elements_few, elements_stay, some_keys, or_few, xor_few, add_few, filter_few_elements, drop_few, clear_few_elements}

-- a content keeps its rule, its keys are known, and its next serial is at most that; a deque was changed no more often
-- than keys are known
abbrev pub Few : List Key → ℕ → Content → Type 0
Few keys drawn (content.Dict dict) = FewPairs keys drawn dict
Few keys drawn (content.List items) = Unit {0}
Few keys drawn (content.Set set) = FewElements keys drawn set
Few keys drawn (content.Deque deque) = IsDeque deque.bound deque.items × (deque.moves ≤ length keys)

empty_bounded : (bound : Option ℕ) → IsDeque bound []
empty_bounded None = record { bounded = tt }
empty_bounded (Some most) = record { bounded = omega arith }

few_empty : (keys : List Key) (drawn : ℕ) (kind : Kind) → Few keys drawn (empty_content kind)
few_empty keys drawn kind.Dict = record { rule = record { distinct = λ i j d lt low. absurd (let none : j < 0 = low in omega arith); rising = λ i j d lt low. absurd (let none : j < 0 = low in omega arith); below = All-nil _ }; within = All-nil _; below = omega arith }
few_empty keys drawn kind.List = tt
few_empty keys drawn kind.Set = record { rule = record { distinct = λ i j d lt low. absurd (let none : j < 0 = low in omega arith); rising = λ i j d lt low. absurd (let none : j < 0 = low in omega arith); below = All-nil _ }; within = All-nil _; below = omega arith }
few_empty keys drawn (kind.Deque bound) = (empty_bounded bound, omega arith)

few_stays : (keys more : List Key) (drawn most : ℕ) → length keys ≤ length more → ((key : Key) → known keys key ≡ true → known more key ≡ true) → drawn ≤ most → (there : Content) → Few keys drawn there → Few more most there
few_stays keys more drawn most longer still le (content.Dict dict) few = pairs_stay keys more drawn most dict still le few
few_stays keys more drawn most longer still le (content.List items) few = tt
few_stays keys more drawn most longer still le (content.Set set) few = elements_stay keys more drawn most set still le few
few_stays keys more drawn most longer still le (content.Deque deque) few = (few.0, let low = few.1 in omega arith)

-- ---- what stands at a place

at_or : (P : Content → Type 0) (world : WorldContent) (place : ℕ) (d : Content) → P d → All P world → P (get_or world place d)
at_or P [] place d default each = default
at_or P (first ∷ world) zero d default each = each zero d (omega arith)
at_or P (first ∷ world) (suc place) d default each = at_or P world place d default (λ k e low. each (suc k) e (omega arith))

dict_of_few : (keys : List Key) (drawn : ℕ) (there : Content) → Few keys drawn there → FewPairs keys drawn (dict_of there)
dict_of_few keys drawn (content.Dict dict) few = few
dict_of_few keys drawn (content.List items) few = few_empty keys drawn kind.Dict
dict_of_few keys drawn (content.Set set) few = few_empty keys drawn kind.Dict
dict_of_few keys drawn (content.Deque deque) few = few_empty keys drawn kind.Dict

set_of_few : (keys : List Key) (drawn : ℕ) (there : Content) → Few keys drawn there → FewElements keys drawn (set_of there)
set_of_few keys drawn (content.Dict dict) few = few_empty keys drawn kind.Set
set_of_few keys drawn (content.List items) few = few_empty keys drawn kind.Set
set_of_few keys drawn (content.Set set) few = few
set_of_few keys drawn (content.Deque deque) few = few_empty keys drawn kind.Set

deque_of_few : (keys : List Key) (drawn : ℕ) (there : Content) → Few keys drawn there → Few keys drawn (content.Deque (deque_of there))
deque_of_few keys drawn (content.Dict dict) few = few_empty keys drawn (kind.Deque None)
deque_of_few keys drawn (content.List items) few = few_empty keys drawn (kind.Deque None)
deque_of_few keys drawn (content.Set set) few = few_empty keys drawn (kind.Deque None)
deque_of_few keys drawn (content.Deque deque) few = few

dict_there : (keys : List Key) (drawn : ℕ) (world : WorldContent) (place : ℕ) → All (Few keys drawn) world → FewPairs keys drawn (dict_at world place)
dict_there keys drawn world place each = dict_of_few keys drawn _ (at_or (Few keys drawn) world place (content.Dict empty_dict) (few_empty keys drawn kind.Dict) each)

set_there : (keys : List Key) (drawn : ℕ) (world : WorldContent) (place : ℕ) → All (Few keys drawn) world → FewElements keys drawn (set_at world place)
set_there keys drawn world place each = set_of_few keys drawn _ (at_or (Few keys drawn) world place (content.Set empty_set) (few_empty keys drawn kind.Set) each)

deque_there : (keys : List Key) (drawn : ℕ) (world : WorldContent) (place : ℕ) → All (Few keys drawn) world → Few keys drawn (content.Deque (deque_at world place))
deque_there keys drawn world place each = deque_of_few keys drawn _ (at_or (Few keys drawn) world place (content.Deque (empty_deque None)) (few_empty keys drawn (kind.Deque None)) each)

-- ---- bounds of deques

right_bounded : (bound : Option ℕ) (items : List Value) → IsDeque bound (right_within bound items)
right_bounded None items = record { bounded = tt }
right_bounded (Some most) items = record { bounded = omega (arith, length-drop (length items - most) items) }

left_bounded : (bound : Option ℕ) (items : List Value) → IsDeque bound (left_within bound items)
left_bounded None items = record { bounded = tt }
left_bounded (Some most) items = record { bounded = omega (arith, length-take most items) }

fewer_bounded : (bound : Option ℕ) (items fewer : List Value) → length fewer ≤ length items → IsDeque bound items → IsDeque bound fewer
fewer_bounded None items fewer le is = record { bounded = tt }
fewer_bounded (Some most) items fewer le is = record { bounded = let low = is.bounded in omega arith }

length-turned : (items : List Value) (at : ℕ) → length (drop at items ++ take at items) ≡ length items
length-turned items at = omega (arith, length-append (drop at items) (take at items), length-drop at items, length-take at items)

pub length-rotated : (items : List Value) (steps : ℤ) → length (rotated items steps) ≡ length items
length-rotated items (pos steps) = length-turned items (length items - steps % length items)
length-rotated items (negsuc below) = length-turned items (suc below % length items)

-- ---- one call

-- the key that a call can add; for a call of a deque, which may change it once, one that is not added
abbrev added_to_dict : DictCall → List Key
added_to_dict (dict.Set key value) = key ∷ []
added_to_dict (dict.SetDefault key default) = key ∷ []
added_to_dict _ = []

abbrev added_to_set : SetCall → List Key
added_to_set (set_call.Add key) = key ∷ []
added_to_set _ = []

abbrev added : Call → List Key
added (call.Dict place dict_call) = added_to_dict dict_call
added (call.List place list_call) = []
added (call.Set place called) = added_to_set called
added (call.Deque place deque_call) = key_of.Int (pos 0) ∷ []
added (call.Next number) = []
added (call.Begin first second) = []
added call.End = []
added call.Quiesce = []
added (call.Await thread index) = []
added call.Dump = []

one_added : (called : Call) → length (added called) ≤ 1
one_added (call.Dict place (dict.Set key value)) = omega arith
one_added (call.Dict place (dict.SetDefault key default)) = omega arith
one_added (call.Dict place _) = omega arith
one_added (call.List place list_call) = omega arith
one_added (call.Set place (set_call.Add key)) = omega arith
one_added (call.Set place _) = omega arith
one_added (call.Deque place deque_call) = omega arith
one_added (call.Next number) = omega arith
one_added (call.Begin first second) = omega arith
one_added call.End = omega arith
one_added call.Quiesce = omega arith
one_added (call.Await thread index) = omega arith
one_added call.Dump = omega arith

-- an answer leaves the world, or it puts a content in place of one
data Left (world : WorldContent) (P : Content → Type 0) (answered : Answer) : Type 0 where
  same : answered.world ≡ world → Left world P answered
  put : (place : ℕ) (there : Content) → answered.world ≡ set world place there → P there → Left world P answered

module _ (world : WorldContent) (hands : HandsContent) (P : Content → Type 0) where
  found : {X : Type 0} (f : X → Answer) (o : Option X) (none : Answer) → ((x : X) → Left world P (f x)) → Left world P none → Left world P (option_map_or f o none)
  found f None none some without = without
  found f (Some x) none some without = some x

  either : (b : Bool) (one other : Answer) → Left world P one → Left world P other → Left world P (if b then one else other)
  either true one other first second = first
  either false one other first second = second

  stays : (r : Reply) → Left world P (shows world hands r)
  stays r = same refl

  writes : (place : ℕ) (there : Content) (r : Reply) → P there → Left world P (puts world hands place there r)
  writes place there r is = put place there refl is

module _ (keys : List Key) (drawn : ℕ) (world : WorldContent) (each : All (Few keys drawn) world) (hands : HandsContent) (place : ℕ) where
  -- what a call leaves that adds no key
  abbrev Same : Content → Type 0
  Same = Few keys (drawn + length keys)

  kept_dict : (left : DictContent) → FewPairs keys drawn left → Same (content.Dict left)
  kept_dict left few = pairs_stay keys keys drawn (drawn + length keys) left (λ key there. there) (omega arith) few

  kept_set : (left : SetContent) → FewElements keys drawn left → Same (content.Set left)
  kept_set left few = elements_stay keys keys drawn (drawn + length keys) left (λ key there. there) (omega arith) few

  set_once : (key : Key) (value : Value) → Few (key ∷ keys) (drawn + length (key ∷ keys)) (content.Dict (dict_set (dict_at world place) key value))
  set_once key value =
      let old = dict_there keys drawn world place each in
      pairs_stay (key ∷ keys) (key ∷ keys) (drawn + 1) (drawn + length (key ∷ keys)) (dict_set (dict_at world place) key value) (λ key there. there) (omega arith) (set_few (key ∷ keys) drawn (dict_at world place) key value (known_first key keys) (pairs_stay keys (key ∷ keys) drawn drawn (dict_at world place) (known_later key keys) (omega arith) old))

  left-dict : (c : DictCall) → Left world (Few (added_to_dict c ++ keys) (drawn + length (added_to_dict c ++ keys))) (answer_dict world hands place (dict_at world place) c)
  left-dict (dict.Get key) = found world hands Same _ (dict_get (dict_at world place).pairs key) _ (λ v. same refl) (same refl)
  left-dict (dict.GetOr key default) = same refl
  left-dict (dict.Set key value) = put place _ refl (set_once key value)
  left-dict (dict.Del key) = either world hands Same (has_key (dict_at world place).pairs key) _ _ (put place _ refl (kept_dict _ (filter_few keys drawn (dict_at world place) (λ pair. not (is_at key pair)) (dict_there keys drawn world place each)))) (same refl)
  left-dict (dict.Pop key) = found world hands Same _ (dict_get (dict_at world place).pairs key) _ (λ v. put place _ refl (kept_dict _ (filter_few keys drawn (dict_at world place) (λ pair. not (is_at key pair)) (dict_there keys drawn world place each)))) (same refl)
  left-dict (dict.PopOr key default) = found world hands Same _ (dict_get (dict_at world place).pairs key) _ (λ v. put place _ refl (kept_dict _ (filter_few keys drawn (dict_at world place) (λ pair. not (is_at key pair)) (dict_there keys drawn world place each)))) (same refl)
  left-dict dict.PopItem = found world hands Same _ (slice_get (dict_at world place).pairs (length (dict_at world place).pairs - 1)) _ (λ v. put place _ refl (kept_dict _ (take_few keys drawn (dict_at world place) (length (dict_at world place).pairs - 1) (dict_there keys drawn world place each)))) (same refl)
  left-dict (dict.SetDefault key default) = found world hands _ _ (dict_get (dict_at world place).pairs key) _ (λ v. same refl) (put place _ refl (set_once key default))
  left-dict (dict.Has key) = same refl
  left-dict dict.Len = same refl
  left-dict dict.Items = same refl
  left-dict (dict.Update other) =
      let there = dict_there keys drawn world other each in
      let few : length (dict_at world other).pairs ≤ length keys = pairs_few keys drawn (dict_at world other) there in
      put place _ refl (pairs_stay keys keys (drawn + length (dict_at world other).pairs) (drawn + length keys) _ (λ key there. there) (omega arith) (update_few keys (dict_at world other).pairs drawn (dict_at world place) there.within (dict_there keys drawn world place each)))
  left-dict dict.Clear = put place _ refl (kept_dict _ (clear_few keys drawn (dict_at world place) (dict_there keys drawn world place each)))
  left-dict (dict.CopyTo other) =
      let here = dict_there keys drawn world place each in
      let few : length (dict_at world place).pairs ≤ length keys = pairs_few keys drawn (dict_at world place) here in
      put other _ refl (pairs_stay keys keys (drawn + length (dict_at world place).pairs) (drawn + length keys) _ (λ key there. there) (omega arith) (copy_few keys drawn (dict_at world place).next (dict_at world other) (dict_at world place).pairs here.rule here.within (dict_there keys drawn world other each)))
  left-dict (dict.Eq other) = same refl
  left-dict (dict.Iter cursor) = same refl
  left-dict (dict.KeysAnd other) = same refl
  left-dict (dict.KeysSub other) = same refl
  left-dict (dict.KeysOr other) = same refl
  left-dict (dict.KeysXor other) = same refl
  left-dict (dict.ItemsHas key value) = same refl
  left-dict (dict.Reversed cursor) = same refl

  left-list : (items : List Value) (c : ListCall) → Left world Same (answer_list world hands place items c)
  left-list items (list.Append value) = put place _ refl tt
  left-list items (list.Insert index value) = put place _ refl tt
  left-list items (list.Get index) = found world hands Same _ (index_in (length items) index) _ (λ v. same refl) (same refl)
  left-list items (list.Set index value) = found world hands Same _ (index_in (length items) index) _ (λ v. put place _ refl tt) (same refl)
  left-list items (list.Del index) = found world hands Same _ (index_in (length items) index) _ (λ v. put place _ refl tt) (same refl)
  left-list items (list.Pop index) = found world hands Same _ (index_in (length items) (unwrap_or index (negsuc 0))) _ (λ v. put place _ refl tt) (same refl)
  left-list items (list.Remove value) = found world hands Same _ (index_of items value) _ (λ v. put place _ refl tt) (same refl)
  left-list items (list.Index value) = found world hands Same _ (index_of items value) _ (λ v. same refl) (same refl)
  left-list items (list.Count value) = same refl
  left-list items (list.Has value) = same refl
  left-list items list.Reverse = put place _ refl tt
  left-list items (list.Extend other) = put place _ refl tt
  left-list items (list.Slice start end) = same refl
  left-list items list.Clear = put place _ refl tt
  left-list items list.Len = same refl
  left-list items list.Items = same refl
  left-list items (list.Eq other) = same refl
  left-list items (list.Iter cursor) = same refl
  left-list items (list.Reversed cursor) = same refl

  left-set : (c : SetCall) → Left world (Few (added_to_set c ++ keys) (drawn + length (added_to_set c ++ keys))) (answer_set world hands place (set_at world place) c)
  left-set (set_call.Add key) =
      let old = set_there keys drawn world place each in
      put place _ refl (elements_stay (key ∷ keys) (key ∷ keys) (drawn + 1) (drawn + length (key ∷ keys)) _ (λ key there. there) (omega arith) (add_few (key ∷ keys) drawn (set_at world place) key (known_first key keys) (elements_stay keys (key ∷ keys) drawn drawn (set_at world place) (known_later key keys) (omega arith) old)))
  left-set (set_call.Discard key) = put place _ refl (kept_set _ (filter_few_elements keys drawn (set_at world place) (λ element. not (same_key element.key key)) (set_there keys drawn world place each)))
  left-set (set_call.Remove key) = either world hands Same (has_element (set_at world place).elements key) _ _ (put place _ refl (kept_set _ (filter_few_elements keys drawn (set_at world place) (λ element. not (same_key element.key key)) (set_there keys drawn world place each)))) (same refl)
  left-set set_call.Pop = found world hands Same _ (slice_get (set_at world place).elements 0) _ (λ v. put place _ refl (kept_set _ (drop_few keys drawn (set_at world place) 1 (set_there keys drawn world place each)))) (same refl)
  left-set (set_call.Has key) = same refl
  left-set set_call.Len = same refl
  left-set set_call.Items = same refl
  left-set (set_call.Eq other) = same refl
  left-set (set_call.Or other) =
      let there = set_there keys drawn world other each in
      let few : length (set_at world other).elements ≤ length keys = elements_few keys drawn (set_at world other) there in
      put place _ refl (elements_stay keys keys (drawn + length (set_at world other).elements) (drawn + length keys) _ (λ key there. there) (omega arith) (or_few keys drawn (set_at world other).next (set_at world place) (set_at world other).elements there.rule there.within (set_there keys drawn world place each)))
  left-set (set_call.And other) = put place _ refl (kept_set _ (filter_few_elements keys drawn (set_at world place) (λ element. has_element (set_at world other).elements element.key) (set_there keys drawn world place each)))
  left-set (set_call.Sub other) = put place _ refl (kept_set _ (filter_few_elements keys drawn (set_at world place) (λ element. not (has_element (set_at world other).elements element.key)) (set_there keys drawn world place each)))
  left-set (set_call.Xor other) =
      let there = set_there keys drawn world other each in
      let few : length (set_at world other).elements ≤ length keys = elements_few keys drawn (set_at world other) there in
      put place _ refl (elements_stay keys keys (drawn + length (set_at world other).elements) (drawn + length keys) _ (λ key there. there) (omega arith) (xor_few keys drawn (set_at world other).next (set_at world place) (set_at world other).elements there.rule there.within (set_there keys drawn world place each)))
  left-set (set_call.Subset other) = same refl
  left-set (set_call.Disjoint other) = same refl
  left-set set_call.Clear = put place _ refl (kept_set _ (clear_few_elements keys drawn (set_at world place) (set_there keys drawn world place each)))
  left-set (set_call.Iter cursor) = same refl

  -- what a call of a deque leaves
  abbrev Counted : Content → Type 0
  Counted = Few (key_of.Int (pos 0) ∷ keys) (drawn + length (key_of.Int (pos 0) ∷ keys))

  changed_deque : (items : List Value) → IsDeque (deque_at world place).bound items → Counted (content.Deque (with_deque_items (deque_at world place) items))
  changed_deque items bounded = (bounded, let low = (deque_there keys drawn world place each).1 in omega arith)

  changed_or_not : (b : Bool) (items : List Value) → IsDeque (deque_at world place).bound items → Counted (content.Deque (if b then deque_at world place else with_deque_items (deque_at world place) items))
  changed_or_not true items bounded = let there = deque_there keys drawn world place each in (there.0, let low = there.1 in omega arith)
  changed_or_not false items bounded = changed_deque items bounded

  left-deque : (c : DequeCall) → Left world Counted (answer_deque world hands place (deque_at world place) c)
  left-deque (deque.Append value) = put place _ refl (changed_deque _ (right_bounded (deque_at world place).bound ((deque_at world place).items ++ value ∷ [])))
  left-deque (deque.AppendLeft value) = put place _ refl (changed_deque _ (left_bounded (deque_at world place).bound (value ∷ (deque_at world place).items)))
  left-deque deque.Pop =
      let items = (deque_at world place).items in
      found world hands Counted _ (last_item items) _ (λ v. put place _ refl (changed_deque (take (length items - 1) items) (fewer_bounded (deque_at world place).bound items (take (length items - 1) items) (omega (arith, length-take (length items - 1) items)) (deque_there keys drawn world place each).0))) (same refl)
  left-deque deque.PopLeft =
      let items = (deque_at world place).items in
      found world hands Counted _ (first_item items) _ (λ v. put place _ refl (changed_deque (drop 1 items) (fewer_bounded (deque_at world place).bound items (drop 1 items) (omega (arith, length-drop 1 items)) (deque_there keys drawn world place each).0))) (same refl)
  left-deque (deque.Extend other) =
      let others = (deque_at world other).items in
      put place _ refl (changed_or_not (length others == 0) _ (right_bounded (deque_at world place).bound ((deque_at world place).items ++ others)))
  left-deque (deque.ExtendLeft other) =
      let others = (deque_at world other).items in
      put place _ refl (changed_or_not (length others == 0) _ (left_bounded (deque_at world place).bound (reverse others ++ (deque_at world place).items)))
  left-deque (deque.Rotate steps) =
      let items = (deque_at world place).items in
      put place _ refl (changed_or_not (nat_le (length items) 1) (rotated items steps) (fewer_bounded (deque_at world place).bound items (rotated items steps) (omega (arith, length-rotated items steps)) (deque_there keys drawn world place each).0))
  left-deque deque.Clear = put place _ refl (changed_or_not (length (deque_at world place).items == 0) [] (empty_bounded (deque_at world place).bound))
  left-deque (deque.Get index) = found world hands Counted _ (deque_get (deque_at world place).items index) _ (λ v. same refl) (same refl)
  left-deque deque.Len = same refl
  left-deque deque.Items = same refl
  left-deque (deque.Has value) = same refl
  left-deque (deque.Iter cursor) = same refl

left : (keys : List Key) (drawn : ℕ) (world : WorldContent) (each : All (Few keys drawn) world) (hands : HandsContent) (called : Call) → Left world (Few (added called ++ keys) (drawn + length (added called ++ keys))) (answer world hands called)
left keys drawn world each hands (call.Dict place c) = left-dict keys drawn world each hands place c
left keys drawn world each hands (call.List place c) = left-list keys drawn world each hands place (list_at world place) c
left keys drawn world each hands (call.Set place c) = left-set keys drawn world each hands place c
left keys drawn world each hands (call.Deque place c) = left-deque keys drawn world each hands place c
left keys drawn world each hands (call.Next number) = found world hands _ _ (cursor_at hands number) _ (λ cursor. same refl) (same refl)
left keys drawn world each hands (call.Begin first second) = same refl
left keys drawn world each hands call.End = same refl
left keys drawn world each hands call.Quiesce = same refl
left keys drawn world each hands (call.Await thread index) = same refl
left keys drawn world each hands call.Dump = same refl

known_among : (front keys : List Key) (key : Key) → known keys key ≡ true → known (front ++ keys) key ≡ true
known_among [] keys key there = there
known_among (first ∷ front) keys key there = known_later first (front ++ keys) key (known_among front keys key there)

-- a call adds one key at most, and draws no more serials than there are keys then
pub few_answer : (keys : List Key) (drawn : ℕ) (world : WorldContent) (hands : HandsContent) (called : Call) → All (Few keys drawn) world → All (Few (added called ++ keys) (drawn + length (added called ++ keys))) (answer world hands called).world
few_answer keys drawn world hands called each =
    let more : List Key = added called ++ keys in
    let P : Content → Type 0 = Few more (drawn + length more) in
    let stayed : All P world = λ k d low. few_stays keys more drawn (drawn + length more) (omega (arith, length-append (added called) keys)) (known_among (added called) keys) (omega arith) (get_or world k d) (each k d low) in
    elim (left keys drawn world each hands called) [
      | same is ↦ subst (All P) (sym is) stayed
      | put place there is few ↦ subst (All P) (sym is) (All-set P world place there few stayed)
    ]

-- ---- the rule

rule_of : (keys : List Key) (drawn : ℕ) (there : Content) → Few keys drawn there → IsContent there
rule_of keys drawn (content.Dict dict) few = few.rule
rule_of keys drawn (content.List items) few = tt
rule_of keys drawn (content.Set set) few = few.rule
rule_of keys drawn (content.Deque deque) few = few.0

-- the keys that a content has; for each change of a deque one
keys_in : Content → List Key
keys_in (content.Dict dict) = map (λ pair. pair.key) dict.pairs
keys_in (content.List items) = []
keys_in (content.Set set) = map (λ element. element.key) set.elements
keys_in (content.Deque deque) = replicate deque.moves (key_of.Int (pos 0))

few_own : (keys : List Key) (drawn : ℕ) (there : Content) → IsContent there → serial_of there ≤ drawn → Few (keys_in there ++ keys) drawn there
unfolding keys_in
few_own keys drawn (content.Dict dict) rule le = record { rule = rule; within = some_keys (λ pair. pair.key) keys dict.pairs; below = le }
few_own keys drawn (content.List items) rule le = tt
few_own keys drawn (content.Set set) rule le = record { rule = rule; within = some_keys (λ element. element.key) keys set.elements; below = le }
few_own keys drawn (content.Deque deque) rule le = (rule, omega (arith, length-append (replicate deque.moves (key_of.Int (pos 0))) keys, length-replicate deque.moves (key_of.Int (pos 0))))

-- contents that keep their rule have all their keys and serials among some
gathered : (world : WorldContent) → All IsContent world → (keys : List Key) × (drawn : ℕ) × All (Few keys drawn) world
gathered [] each = ([], 0, All-nil _)
gathered (first ∷ world) each =
    let rest = gathered world (λ k d low. each (suc k) d (omega arith)) in
    (keys_in first ++ rest.0, serial_of first + rest.1, All-cons (Few (keys_in first ++ rest.0) (serial_of first + rest.1)) first world (few_own rest.0 (serial_of first + rest.1) first (each zero first (omega arith)) (omega arith)) (λ k d low. few_stays rest.0 (keys_in first ++ rest.0) rest.1 (serial_of first + rest.1) (omega (arith, length-append (keys_in first) rest.0)) (known_among (keys_in first) rest.0) (omega arith) (get_or world k d) (rest.2 k d low)))

pub rule_answer : (world : WorldContent) (hands : HandsContent) (called : Call) → All IsContent world → All IsContent (answer world hands called).world
rule_answer world hands called each =
    let known = gathered world each in
    λ k d low. rule_of _ _ _ (few_answer known.0 known.1 world hands called known.2 k d low)

rule_writes : (world : WorldContent) (calls : List Call) → All IsContent world → All IsContent (fold after_write world calls)
rule_writes world [] each = each
rule_writes world (called ∷ calls) each = rule_writes (after_write world called) calls (rule_answer world no_hands called each)

-- ---- serials

-- no more keys than that many calls, and no more serials than their square
pub record FewAfter (count : ℕ) (world : WorldContent) : Type 0 where
  pub keys : List Key
  pub drawn : ℕ
  pub long : length keys ≤ count
  pub square : drawn ≤ count * count
  pub each : All (Few keys drawn) world

pub few_call : (count : ℕ) (world : WorldContent) (hands : HandsContent) (called : Call) → FewAfter count world → FewAfter (count + 1) (answer world hands called).world
few_call count world hands called few =
    let more : List Key = added called ++ few.keys in
    let one = one_added called in
    let joined : length more ≡ length (added called) + length few.keys = length-append (added called) few.keys in
    let long = few.long in
    let square = few.square in
    record { keys = more; drawn = few.drawn + length more; long = omega arith; square = omega arith; each = few_answer few.keys few.drawn world hands called few.each }

few_writes : (calls : List Call) (count : ℕ) (world : WorldContent) → FewAfter count world → FewAfter (count + length calls) (fold after_write world calls)
few_writes [] count world few = subst (λ n. FewAfter n world) (let e : count ≡ count + 0 = omega arith in e) few
few_writes (called ∷ calls) count world few =
    let rest = few_writes calls (count + 1) (after_write world called) (few_call count world no_hands called few) in
    subst (λ n. FewAfter n (fold after_write (after_write world called) calls)) (let same : count + 1 + length calls ≡ count + length (called ∷ calls) = omega arith in same) rest

few_serials : (keys : List Key) (drawn calls : ℕ) (there : Content) → length keys ≤ calls → drawn ≤ calls * calls → Few keys drawn there → HasFewSerials calls there
few_serials keys drawn calls (content.Dict dict) long le few = let count = pairs_few keys drawn dict few in let below = few.below in (omega arith, omega arith)
few_serials keys drawn calls (content.List items) long le few = tt
few_serials keys drawn calls (content.Set set) long le few = let count = elements_few keys drawn set few in let below = few.below in (omega arith, omega arith)
few_serials keys drawn calls (content.Deque deque) long le few = let moves = few.1 in omega arith

pub few_contents : (count : ℕ) (world : WorldContent) → FewAfter count world → All (HasFewSerials count) world
few_contents count world few = λ k d low. few_serials few.keys few.drawn count (get_or world k d) few.long few.square (few.each k d low)

all_empty : (P : Content → Type 0) (starts : List Start) → ((kind : Kind) → P (empty_content kind)) → All P (empty_world starts)
all_empty P starts each = All-map P (λ (start : Start). empty_content start.kind) starts (λ k d low. each (get_or starts k d).kind)

-- from the start
pub rule_by : (starts : List Start) (calls : List Call) → All IsContent (world_by starts calls)
rule_by starts calls = rule_writes (empty_world starts) calls (all_empty IsContent starts (λ kind. rule_of [] 0 (empty_content kind) (few_empty [] 0 kind)))

pub few_start : (starts : List Start) → FewAfter 0 (empty_world starts)
few_start starts = record { keys = []; drawn = 0; long = omega arith; square = omega arith; each = all_empty (Few [] 0) starts (few_empty [] 0) }

pub serials_by : (starts : List Start) (calls : List Call) → All (HasFewSerials (length calls)) (world_by starts calls)
serials_by starts calls =
    let after = few_writes calls 0 (empty_world starts) (few_start starts) in
    few_contents (length calls) (world_by starts calls) (subst (λ n. FewAfter n (world_by starts calls)) (let count : 0 + length calls ≡ length calls = omega arith in count) after)

-- ---- room

-- what a dict or a set has
abbrev is_sized : Kind → Bool
is_sized kind.Dict = true
is_sized kind.List = false
is_sized kind.Set = true
is_sized (kind.Deque bound) = false

sized : (calls : ℕ) (there : Content) → is_sized (kind_of there) ≡ true → HasFewSerials calls there → length_of there ≤ calls
sized calls (content.Dict dict) keyed few = few.0
sized calls (content.List items) keyed few = absurd (false≢true keyed)
sized calls (content.Set set) keyed few = few.0
sized calls (content.Deque deque) keyed few = absurd (false≢true keyed)

has_serials : (calls added : ℕ) (there : Content) → calls ≤ 500000 → added ≤ calls + calls → HasFewSerials calls there → HasSerials added there
has_serials calls added (content.Dict dict) few le serials = let square : calls * calls ≤ 500000 * 500000 = mul-le calls calls 500000 500000 few few in omega (arith, serials.1)
has_serials calls added (content.List items) few le serials = tt
has_serials calls added (content.Set set) few le serials = let square : calls * calls ≤ 500000 * 500000 = mul-le calls calls 500000 500000 few few in omega (arith, serials.1)
has_serials calls added (content.Deque deque) few le serials = omega (arith, serials)

list_has : (added : ℕ) (there : Content) → kind_of there ≡ kind.List → HasSerials added there
list_has added (content.Dict dict) is = absurd cc
list_has added (content.List items) is = tt
list_has added (content.Set set) is = absurd cc
list_has added (content.Deque deque) is = absurd cc

deque_has : (calls added : ℕ) (bound : Option ℕ) (there : Content) → calls ≤ 500000 → kind_of there ≡ kind.Deque bound → HasFewSerials calls there → HasSerials added there
deque_has calls added bound (content.Dict dict) few is serials = absurd cc
deque_has calls added bound (content.List items) few is serials = absurd cc
deque_has calls added bound (content.Set set) few is serials = absurd cc
deque_has calls added bound (content.Deque deque) few is serials = omega (arith, serials)

-- a container of just that kind is declared
abbrev IsJust : WorldContent → Kind → ℕ → Type 0
IsJust world declared place = option_map kind_of (slice_get world place) ≡ Some declared

-- what stands at a declared place
there_of : (P : Content → Type 0) (world : WorldContent) (declared : Kind) (place : ℕ) (d : Content) → All P world → IsJust world declared place → P (get_or world place d) × (kind_of (get_or world place d) ≡ declared)
there_of P [] declared place d each is = absurd (let none : None ≡ Some declared = is in cc)
there_of P (first ∷ world) declared zero d each is = (each zero d (omega arith), let some : Some (kind_of first) ≡ Some declared = is in cc)
there_of P (first ∷ world) declared (suc place) d each is = there_of P world declared place d (λ k e low. each (suc k) e (omega arith)) is

abbrev in_world : WorldContent → ℕ → Content
in_world world place = get_or world place (content.List [])

-- of one container or two
module _ (world : WorldContent) (P : Content → Type 0) (one : ℕ) where
  all_named : (other : Option ℕ) → P (in_world world one) → IfSome other (λ place. P (in_world world place)) → All P (map (in_world world) (one_or_two one other))
  all_named None first second = All-cons P (in_world world one) [] first (All-nil P)
  all_named (Some other) first second =
      elim (one == other) as (λ b. All P (map (in_world world) (if b then one ∷ [] else one ∷ other ∷ []))) [
        | true ↦ All-cons P (in_world world one) [] first (All-nil P)
        | false ↦ All-cons P (in_world world one) (in_world world other ∷ []) first (All-cons P (in_world world other) [] second (All-nil P))
      ]

total_few : (world : WorldContent) (calls one : ℕ) (other : Option ℕ) → length_of (in_world world one) ≤ calls → IfSome other (λ place. length_of (in_world world place) ≤ calls) → sum (map length_of (map (in_world world) (one_or_two one other))) ≤ calls + calls
total_few world calls one None first second = omega arith
total_few world calls one (Some other) first second =
    elim (one == other) as (λ b. sum (map length_of (map (in_world world) (if b then one ∷ [] else one ∷ other ∷ []))) ≤ calls + calls) [
      | true ↦ omega arith
      | false ↦ let both : length_of (in_world world other) ≤ calls = second in omega arith
    ]

if_some : {X : Type 0} (P Q : X → Type 0) (o : Option X) → ((x : X) → P x → Q x) → IfSome o P → IfSome o Q
if_some P Q None f h = tt
if_some P Q (Some x) f h = f x h

room_sized : (world : WorldContent) (calls : ℕ) (declared : Kind) (one : ℕ) (other : Option ℕ) → calls ≤ 500000 → is_sized declared ≡ true → All (HasFewSerials calls) world → IsJust world declared one → IfSome other (λ place. IsJust world declared place) → All (HasSerials (sum (map length_of (map (in_world world) (one_or_two one other))))) (map (in_world world) (one_or_two one other))
room_sized world calls declared one other few keyed each first second =
    let there : (place : ℕ) → IsJust world declared place → HasFewSerials calls (in_world world place) × (length_of (in_world world place) ≤ calls) = λ place is. let at = there_of (HasFewSerials calls) world declared place (content.List []) each is in (at.0, sized calls (in_world world place) (ap is_sized at.1 ∙ keyed) at.0) in
    let total = total_few world calls one other (there one first).1 (if_some _ _ other (λ place is. (there place is).1) second) in
    let fits : (place : ℕ) → IsJust world declared place → HasSerials (sum (map length_of (map (in_world world) (one_or_two one other)))) (in_world world place) = λ place is. has_serials calls _ (in_world world place) few total (there place is).0 in
    all_named world (HasSerials (sum (map length_of (map (in_world world) (one_or_two one other))))) one other (fits one first) (if_some _ _ other fits second)

room_list : (world : WorldContent) (added one : ℕ) (other : Option ℕ) → IsOfKind world kind.List one → IfSome other (λ place. IsOfKind world kind.List place) → All (HasSerials added) (map (in_world world) (one_or_two one other))
room_list world added one other first second =
    let fits : (place : ℕ) → IsOfKind world kind.List place → HasSerials added (in_world world place) = λ place is. list_has added (in_world world place) (there_of (λ there. Unit {0}) world kind.List place (content.List []) (λ k d low. tt) is).1 in
    all_named world (HasSerials added) one other (fits one first) (if_some _ _ other fits second)

room_deque : (world : WorldContent) (calls added one : ℕ) (other : Option ℕ) → calls ≤ 500000 → All (HasFewSerials calls) world → IsOfKind world (kind.Deque None) one → IfSome other (λ place. IsOfKind world (kind.Deque None) place) → All (HasSerials added) (map (in_world world) (one_or_two one other))
room_deque world calls added one other few each first second =
    let fits : (place : ℕ) → IsOfKind world (kind.Deque None) place → HasSerials added (in_world world place) = λ place is. let at = there_of (HasFewSerials calls) world (kind.Deque is.0) place (content.List []) each is.1 in deque_has calls added is.0 (in_world world place) few at.1 at.0 in
    all_named world (HasSerials added) one other (fits one first) (if_some _ _ other fits second)

pub room_for : (world : WorldContent) (hands : HandsContent) (calls : ℕ) (called : Call) → calls ≤ 500000 → All (HasFewSerials calls) world → IsDeclared world hands called → HasRoom world called
room_for world hands calls (call.Dict place c) few each declared = room_sized world calls kind.Dict place (other_dict c) few refl each declared.one declared.both
room_for world hands calls (call.List place c) few each declared = room_list world _ place (other_list c) declared.one declared.both
room_for world hands calls (call.Set place c) few each declared = room_sized world calls kind.Set place (other_set c) few refl each declared.one declared.both
room_for world hands calls (call.Deque place c) few each declared = room_deque world calls _ place (other_deque c) few each declared.one declared.both
room_for world hands calls (call.Next number) few each declared = All-nil _
room_for world hands calls (call.Begin first second) few each declared = absurd declared
room_for world hands calls call.End few each declared = absurd declared
room_for world hands calls call.Quiesce few each declared = absurd declared
room_for world hands calls (call.Await thread index) few each declared = absurd declared
room_for world hands calls call.Dump few each declared = All-nil _
