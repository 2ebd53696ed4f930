-- Tables that are in order stay so, whatever write comes that passes no cap.
use Rattle.std.proofs.Common.{◌≡◌, ◌≢◌, ℕ, suc, zero, ◌+◌, ◌-◌, ◌*◌, ◌^◌, ◌<◌, ◌≤◌, Bool, true, false, not, List, [], ◌∷◌, ◌++◌, length, map, take, drop, reverse, get_or, set, Option, Some, None, refl, sym, ap, subst, ◌∙◌, arith, inl, inr, length-set}
use Rattle.std.specs.Prelude.{◌==◌, ◌&&◌, ◌||◌, ◌⊎◌, All, IfSome, filter, negsuc, nat_lt, nat_le, slice_get, if◌then◌else◌}
use Rattle.std.specs.Option.{option_map_or, unwrap_or}
use Rattle.std.specs.List.{list_any, remove}
use Rattle.std.proofs.lemmas.Bool.{cases_eq, false≢true, ltb-false, le-ltb, eqb-true, not-false}
use Rattle.std.proofs.lemmas.List.{get_or_default, get_or-set_same, length-map, length-append, length-take, length-drop, length-reverse}
use Rattle.std.proofs.lemmas.Option.{unwrap_or-slice_get}
use Rattle.ft_model.specs.declared.data.Key.{Key}
use Rattle.ft_model.specs.declared.data.Value.{Value}
use Rattle.ft_model.specs.declared.call.Call.{Call}
use Rattle.ft_model.specs.declared.call.Call.TheVariants as call
use Rattle.ft_model.specs.declared.call.DictCall.{DictCall}
use Rattle.ft_model.specs.declared.call.DictCall.TheVariants as dict
use Rattle.ft_model.specs.declared.call.ListCall.{ListCall}
use Rattle.ft_model.specs.declared.call.ListCall.TheVariants as list
use Rattle.ft_model.specs.declared.call.SetCall.{SetCall}
use Rattle.ft_model.specs.declared.call.SetCall.TheVariants as set_call
use Rattle.ft_model.specs.declared.call.DequeCall.{DequeCall}
use Rattle.ft_model.specs.declared.call.DequeCall.TheVariants as deque
use Rattle.ft_model.specs.declared.call.TableChange.{TableChange}
use Rattle.ft_model.specs.declared.call.TableChange.TheVariants as change
use Rattle.ft_model.specs.declared.content.Content.{Content}
use Rattle.ft_model.specs.declared.content.Content.TheVariants as content
use Rattle.ft_model.specs.declared.content.DictPair.{DictPair}
use Rattle.ft_model.specs.declared.content.Element.{Element}
use Rattle.ft_model.specs.declared.script.Kind.{Kind}
use Rattle.ft_model.specs.declared.script.Start.{Start}
use Rattle.ft_model.specs.declared.script.Kind.TheVariants as kind
use Rattle.ft_model.specs.Keys.{same_key}
use Rattle.ft_model.specs.Calls.{is_changing_dict, is_changing_list, is_changing_set, is_changing_deque, one_or_two, other_dict, other_list, other_set, other_deque, dict_change, list_change, set_change, deque_change, adds}
use Rattle.ft_model.specs.Classes.{IsClass, dict_entries, set_entries, list_items, most_pairs, most_elements, most_items, dict_class, set_class, list_class}
use Rattle.ft_model.specs.Contents.{DictContent, SetContent, empty_dict, empty_set, is_at, dict_get, has_key, dict_set, dict_update, has_element, those_not_in, elements_from, set_add, set_or, set_xor}
use Rattle.ft_model.specs.Deques.{DequeContent, empty_deque, last_item, first_item, with_deque_items, rotated, deque_get}
use Rattle.ft_model.specs.Lists.{index_in, index_of}
use Rattle.ft_model.specs.Views.{keys_in}
use Rattle.ft_model.specs.Worlds.{WorldContent, HandsContent, dict_of, list_of, set_of, deque_of, dict_at, list_at, set_at, deque_at, IsOfKind, IsDeclared, no_hands, empty_content}
use Rattle.ft_model.specs.Answers.{Answer, answer_dict, answer_list, answer_set, answer_deque, after_write}
use Rattle.ft_model.specs.TableUses.{TableUse, StoredWorld, empty_stored, no_table, start_table, table_at, taken, are_first, ends_split, leaving_takes, combined_table, dict_call_leaves, dict_call_takes, outgrows_dict, outgrows_set, outgrows_list, dict_takes, set_takes, list_takes, copy_takes, copy_leaves, change_takes, change_leaves, grown_table, after_stored, passes_cap, would_pass}
use Rattle.ft_model.specs.TablesInOrder.{changed_dict, changed_by, HasTableFor, IsSplitOver, IsDictTable, IsTableFor, AreTablesInOrder}
use Rattle.ft_model.proofs.Copies.{length-pairs_from, length-elements_from}
use Rattle.ft_model.proofs.KnownKeys.{length-filter-le}
use Rattle.ft_model.proofs.WorldPlaces.{is_there}
use Rattle.ft_model.proofs.FewSerials.{length-rotated}
use Rattle.ft_model.proofs.SplitDicts.{same_keys_update, same_filtered, same_taken, unsplit_tables}
use Rattle.ft_model.proofs.ClassRooms.{dict_fits, set_fits, list_fits, most_slots}
use Rattle.ft_model.proofs.Untouched.{other_contents, other_tables, as_many_contents, as_many_tables}

abbrev in_world : WorldContent → ℕ → Content
in_world world place = get_or world place (content.List [])

-- ---- one table

-- there is room for that many entries more
abbrev Fits : Option ℕ → ℕ → ℕ → (ℕ → ℕ) → Type 0
Fits None added fill room = added ≡ 0
Fits (Some class) added fill room = (added ≡ 0) ⊎ (fill + added ≤ room class)

fits_where : (class : Option ℕ) (added fill : ℕ) (room : ℕ → ℕ) (over : ℕ → Bool) → ((class : ℕ) → over class ≡ false → fill + added ≤ room class) → (nat_lt 0 added && option_map_or over class true) ≡ false → Fits class added fill room
fits_where class added fill room over each h =
    elim (nat_lt 0 added) as (λ b. nat_lt 0 added ≡ b → Fits class added fill room) [
      | true ↦ λ some. some_fit class (simp some at h)
      | false ↦ λ none. none_fit class (let zero : added ≤ 0 = ltb-false 0 added none in omega arith)
    ] refl
  where
    some_fit : (class : Option ℕ) → option_map_or over class true ≡ false → Fits class added fill room
    some_fit None h = absurd (false≢true (sym h))
    some_fit (Some class) h = inr (each class h)

    none_fit : (class : Option ℕ) → added ≡ 0 → Fits class added fill room
    none_fit None none = none
    none_fit (Some class) none = inl none

stays_in : (count stored added fill : ℕ) (room : ℕ → ℕ) (class : Option ℕ) → Fits class added fill room → count ≤ stored + added → HasTableFor stored class fill room → HasTableFor count class (fill + added) room
stays_in count stored added fill room None fits le old = (let h = old.0 in omega (arith, fits), let h = old.1 in omega (arith, fits))
stays_in count stored added fill room (Some class) fits le old =
    let few = old.1 in
    let within = old.2 in (
      old.0,
      omega arith,
      elim fits [
        | inl none ↦ omega arith
        | inr more ↦ more
      ],
    )

-- the table has room for that many entries more, or a new one is taken
grows : (table : TableUse) (count stored added : ℕ) (room : ℕ → ℕ) (class : ℕ) (outgrows : Bool) → (outgrows ≡ false → Fits table.class added table.fill room) → IsClass class × (count ≤ room class) → count ≤ stored + added → HasTableFor stored table.class table.fill room → HasTableFor count (grown_table table (if outgrows then Some class else None) added count).class (grown_table table (if outgrows then Some class else None) added count).fill room
grows table count stored added room class true fits new le old = (new.0, omega arith, new.1)
grows table count stored added room class false fits new le old = stays_in count stored added table.fill room table.class (fits refl) le old

-- less is stored than before
fewer : (count stored : ℕ) (class : Option ℕ) (fill : ℕ) (room : ℕ → ℕ) → count ≤ stored → HasTableFor stored class fill room → HasTableFor count class fill room
fewer count stored None fill room le old = (let h = old.0 in omega arith, old.1)
fewer count stored (Some class) fill room le old = (old.0, let h = old.1 in omega arith, old.2)

-- what is stored in a table passes no cap
pub capped : (count : ℕ) (class : Option ℕ) (fill : ℕ) (room : ℕ → ℕ) (most : ℕ) → ((class : ℕ) → IsClass class → room class ≤ most) → HasTableFor count class fill room → count ≤ most
capped count None fill room most each old = let h = old.0 in omega arith
capped count (Some class) fill room most each old = let few = old.1 in let within = old.2 in let bound = each class old.0 in omega arith

pub dict_capped : (class : ℕ) → IsClass class → dict_entries class ≤ most_pairs
dict_capped class is = let most = most_slots class is in omega arith

pub set_capped : (class : ℕ) → IsClass class → set_entries class ≤ most_elements
set_capped class is = let most = most_slots class is in omega arith

pub list_capped : (class : ℕ) → IsClass class → list_items class ≤ most_items
list_capped class is = most_slots class is

-- ---- what a call leaves of its container

found : (R : Answer → Type 0) {X : Type 0} (f : X → Answer) (o : Option X) (none : Answer) → ((x : X) → R (f x)) → R none → R (option_map_or f o none)
found R f None none some without = without
found R f (Some x) none some without = some x

either : (R : Answer → Type 0) (b : Bool) (one other : Answer) → R one → R other → R (if b then one else other)
either R true one other first second = first
either R false one other first second = second

-- a dict stands there, of which this holds
abbrev DictAfter : WorldContent → ℕ → (DictContent → Type 0) → Type 0
DictAfter world place Q = (in_world world place ≡ content.Dict (dict_at world place)) × Q (dict_at world place)

abbrev ListAfter : WorldContent → ℕ → (List Value → Type 0) → Type 0
ListAfter world place Q = (in_world world place ≡ content.List (list_at world place)) × Q (list_at world place)

abbrev SetAfter : WorldContent → ℕ → (SetContent → Type 0) → Type 0
SetAfter world place Q = (in_world world place ≡ content.Set (set_at world place)) × Q (set_at world place)

abbrev DequeAfter : WorldContent → ℕ → (DequeContent → Type 0) → Type 0
DequeAfter world place Q = (in_world world place ≡ content.Deque (deque_at world place)) × Q (deque_at world place)

pub dict_stands : (world : WorldContent) (place : ℕ) → IsOfKind world kind.Dict place → in_world world place ≡ content.Dict (dict_at world place)
dict_stands [] place is = absurd (let none : None ≡ Some kind.Dict = is in cc)
dict_stands (content.Dict dict ∷ world) zero is = refl
dict_stands (content.List items ∷ world) zero is = absurd (let some : Some kind.List ≡ Some kind.Dict = is in cc)
dict_stands (content.Set elements ∷ world) zero is = absurd (let some : Some kind.Set ≡ Some kind.Dict = is in cc)
dict_stands (content.Deque deque ∷ world) zero is = absurd (let some : Some (kind.Deque deque.bound) ≡ Some kind.Dict = is in cc)
dict_stands (first ∷ world) (suc place) is = dict_stands world place is

list_stands : (world : WorldContent) (place : ℕ) → IsOfKind world kind.List place → in_world world place ≡ content.List (list_at world place)
list_stands [] place is = absurd (let none : None ≡ Some kind.List = is in cc)
list_stands (content.Dict dict ∷ world) zero is = absurd (let some : Some kind.Dict ≡ Some kind.List = is in cc)
list_stands (content.List items ∷ world) zero is = refl
list_stands (content.Set elements ∷ world) zero is = absurd (let some : Some kind.Set ≡ Some kind.List = is in cc)
list_stands (content.Deque deque ∷ world) zero is = absurd (let some : Some (kind.Deque deque.bound) ≡ Some kind.List = is in cc)
list_stands (first ∷ world) (suc place) is = list_stands world place is

set_stands : (world : WorldContent) (place : ℕ) → IsOfKind world kind.Set place → in_world world place ≡ content.Set (set_at world place)
set_stands [] place is = absurd (let none : None ≡ Some kind.Set = is in cc)
set_stands (content.Dict dict ∷ world) zero is = absurd (let some : Some kind.Dict ≡ Some kind.Set = is in cc)
set_stands (content.List items ∷ world) zero is = absurd (let some : Some kind.List ≡ Some kind.Set = is in cc)
set_stands (content.Set elements ∷ world) zero is = refl
set_stands (content.Deque deque ∷ world) zero is = absurd (let some : Some (kind.Deque deque.bound) ≡ Some kind.Set = is in cc)
set_stands (first ∷ world) (suc place) is = set_stands world place is

deque_stands : (world : WorldContent) (place : ℕ) → IsOfKind world (kind.Deque None) place → in_world world place ≡ content.Deque (deque_at world place)
deque_stands [] place is = absurd (let none : None ≡ Some (kind.Deque is.0) = is.1 in cc)
deque_stands (content.Dict dict ∷ world) zero is = absurd (let some : Some kind.Dict ≡ Some (kind.Deque is.0) = is.1 in cc)
deque_stands (content.List items ∷ world) zero is = absurd (let some : Some kind.List ≡ Some (kind.Deque is.0) = is.1 in cc)
deque_stands (content.Set elements ∷ world) zero is = absurd (let some : Some kind.Set ≡ Some (kind.Deque is.0) = is.1 in cc)
deque_stands (content.Deque deque ∷ world) zero is = refl
deque_stands (first ∷ world) (suc place) is = deque_stands world place is

dict_put : (world : WorldContent) (place : ℕ) (Q : DictContent → Type 0) (new : DictContent) → place < length world → Q new → DictAfter (set world place (content.Dict new)) place Q
dict_put world place Q new low holds =
    let at : dict_at (set world place (content.Dict new)) place ≡ new = ap dict_of (get_or-set_same world place (content.Dict new) (content.Dict empty_dict) low) in
    (get_or-set_same world place (content.Dict new) (content.List []) low ∙ ap (λ (d : DictContent). content.Dict d) (sym at), subst Q (sym at) holds)

list_put : (world : WorldContent) (place : ℕ) (Q : List Value → Type 0) (new : List Value) → place < length world → Q new → ListAfter (set world place (content.List new)) place Q
list_put world place Q new low holds =
    let at : list_at (set world place (content.List new)) place ≡ new = ap list_of (get_or-set_same world place (content.List new) (content.List []) low) in
    (get_or-set_same world place (content.List new) (content.List []) low ∙ ap (λ (d : List Value). content.List d) (sym at), subst Q (sym at) holds)

set_put : (world : WorldContent) (place : ℕ) (Q : SetContent → Type 0) (new : SetContent) → place < length world → Q new → SetAfter (set world place (content.Set new)) place Q
set_put world place Q new low holds =
    let at : set_at (set world place (content.Set new)) place ≡ new = ap set_of (get_or-set_same world place (content.Set new) (content.Set empty_set) low) in
    (get_or-set_same world place (content.Set new) (content.List []) low ∙ ap (λ (d : SetContent). content.Set d) (sym at), subst Q (sym at) holds)

deque_put : (world : WorldContent) (place : ℕ) (Q : DequeContent → Type 0) (new : DequeContent) → place < length world → Q new → DequeAfter (set world place (content.Deque new)) place Q
deque_put world place Q new low holds =
    let at : deque_at (set world place (content.Deque new)) place ≡ new = ap deque_of (get_or-set_same world place (content.Deque new) (content.Deque (empty_deque None)) low) in
    (get_or-set_same world place (content.Deque new) (content.List []) low ∙ ap (λ (d : DequeContent). content.Deque d) (sym at), subst Q (sym at) holds)

-- ---- how much more there is

-- no more came than serials were drawn
abbrev Grown : ℕ → ℕ → ℕ → ℕ → Type 0
Grown stored next count after = (next ≤ after) × (count + next ≤ stored + after)

set_grows : (dict : DictContent) (key : Key) (value : Value) → Grown (length dict.pairs) dict.next (length (dict_set dict key value).pairs) (dict_set dict key value).next
set_grows dict key value =
    elim (has_key dict.pairs key) as (λ b. has_key dict.pairs key ≡ b → Grown (length dict.pairs) dict.next (length (dict_set dict key value).pairs) (dict_set dict key value).next) [
      | true ↦ λ here. simp here (omega arith, omega (arith, length-map dict.pairs (λ (pair : DictPair). if is_at key pair then record pair { value = value } else pair)))
      | false ↦ λ none. simp none (omega arith, omega (arith, length-append dict.pairs (record { serial = dict.next; key = key; value = value } ∷ [])))
    ] refl

update_grows : (others : List DictPair) (dict : DictContent) → Grown (length dict.pairs) dict.next (length (dict_update dict others).pairs) (dict_update dict others).next
update_grows [] dict = (omega arith, omega arith)
update_grows (pair ∷ others) dict =
    let first = set_grows dict pair.key pair.value in
    let rest = update_grows others (dict_set dict pair.key pair.value) in
    (omega (arith, first.0, rest.0), omega (arith, first.1, rest.1))

-- ---- calls of a dict

abbrev DictStep : WorldContent → ℕ → DictContent → TableChange → Type 0
DictStep world place old change.Stays = DictAfter world place (λ new. length new.pairs ≤ length old.pairs)
DictStep world place old change.Grows = DictAfter world place (λ new. Grown (length old.pairs) old.next (length new.pairs) new.next)
DictStep world place old (change.CopiesTo other) = DictAfter world other (λ new. length new.pairs ≡ length old.pairs)
DictStep world place old change.GivesUp = DictAfter world place (λ new. length new.pairs ≡ 0)

module _ (world : WorldContent) (hands : HandsContent) (place : ℕ) (declared : IsOfKind world kind.Dict place) where
  fewer-pairs : (new : DictContent) → length new.pairs ≤ length (dict_at world place).pairs → DictAfter (set world place (content.Dict new)) place (λ new. length new.pairs ≤ length (dict_at world place).pairs)
  fewer-pairs new le = dict_put world place (λ new. length new.pairs ≤ length (dict_at world place).pairs) new (is_there world kind.Dict place declared) le

  same-pairs : DictAfter world place (λ new. length new.pairs ≤ length (dict_at world place).pairs)
  same-pairs = (dict_stands world place declared, omega arith)

  without-key : (key : Key) → DictAfter (set world place (content.Dict (record { next = (dict_at world place).next; pairs = filter (λ pair. not (is_at key pair)) (dict_at world place).pairs }))) place (λ new. length new.pairs ≤ length (dict_at world place).pairs)
  without-key key = fewer-pairs (record { next = (dict_at world place).next; pairs = filter (λ pair. not (is_at key pair)) (dict_at world place).pairs }) (length-filter-le (λ pair. not (is_at key pair)) (dict_at world place).pairs)

  more-pairs : (new : DictContent) → Grown (length (dict_at world place).pairs) (dict_at world place).next (length new.pairs) new.next → DictAfter (set world place (content.Dict new)) place (λ new. Grown (length (dict_at world place).pairs) (dict_at world place).next (length new.pairs) new.next)
  more-pairs new grown = dict_put world place (λ new. Grown (length (dict_at world place).pairs) (dict_at world place).next (length new.pairs) new.next) new (is_there world kind.Dict place declared) grown

  pub dict-step : (c : DictCall) → IfSome (other_dict c) (λ other. IsOfKind world kind.Dict other) → DictStep (answer_dict world hands place (dict_at world place) c).world place (dict_at world place) (dict_change c)
  dict-step (dict.Get key) both = found (λ a. DictStep a.world place (dict_at world place) change.Stays) _ (dict_get (dict_at world place).pairs key) _ (λ v. same-pairs) same-pairs
  dict-step (dict.GetOr key default) both = same-pairs
  dict-step (dict.Set key value) both = more-pairs (dict_set (dict_at world place) key value) (set_grows (dict_at world place) key value)
  dict-step (dict.Del key) both = either (λ a. DictStep a.world place (dict_at world place) change.Stays) (has_key (dict_at world place).pairs key) _ _ (without-key key) same-pairs
  dict-step (dict.Pop key) both = found (λ a. DictStep a.world place (dict_at world place) change.Stays) _ (dict_get (dict_at world place).pairs key) _ (λ v. without-key key) same-pairs
  dict-step (dict.PopOr key default) both = found (λ a. DictStep a.world place (dict_at world place) change.Stays) _ (dict_get (dict_at world place).pairs key) _ (λ v. without-key key) same-pairs
  dict-step dict.PopItem both =
      let pairs = (dict_at world place).pairs in
      found (λ a. DictStep a.world place (dict_at world place) change.Stays) _ (slice_get pairs (length pairs - 1)) _ (λ v. fewer-pairs (record { next = (dict_at world place).next; pairs = take (length pairs - 1) pairs }) (omega (arith, length-take (length pairs - 1) pairs))) same-pairs
  dict-step (dict.SetDefault key default) both = found (λ a. DictStep a.world place (dict_at world place) change.Grows) _ (dict_get (dict_at world place).pairs key) _ (λ v. (dict_stands world place declared, (omega arith, omega arith))) (more-pairs (dict_set (dict_at world place) key default) (set_grows (dict_at world place) key default))
  dict-step (dict.Has key) both = same-pairs
  dict-step dict.Len both = same-pairs
  dict-step dict.Items both = same-pairs
  dict-step (dict.Update other) both = more-pairs (dict_update (dict_at world place) (dict_at world other).pairs) (update_grows (dict_at world other).pairs (dict_at world place))
  dict-step dict.Clear both = dict_put world place (λ new. length new.pairs ≡ 0) (record { next = (dict_at world place).next; pairs = [] }) (is_there world kind.Dict place declared) refl
  dict-step (dict.CopyTo other) both = dict_put world other (λ new. length new.pairs ≡ length (dict_at world place).pairs) _ (is_there world kind.Dict other both) (length-pairs_from (dict_at world other).next (dict_at world place).pairs)
  dict-step (dict.Eq other) both = same-pairs
  dict-step (dict.Iter cursor) both = same-pairs
  dict-step (dict.KeysAnd other) both = same-pairs
  dict-step (dict.KeysSub other) both = same-pairs
  dict-step (dict.KeysOr other) both = same-pairs
  dict-step (dict.KeysXor other) both = same-pairs
  dict-step (dict.ItemsHas key value) both = same-pairs
  dict-step (dict.Reversed cursor) both = same-pairs

  -- where a call that does not add a pair leaves as many, it leaves the same keys
  abbrev KeepsKeys : Answer → Type 0
  KeepsKeys a = length (dict_at a.world place).pairs ≡ length (dict_at world place).pairs → keys_in (dict_at a.world place).pairs ≡ keys_in (dict_at world place).pairs

  put-keys : (new : DictContent) → (length new.pairs ≡ length (dict_at world place).pairs → keys_in new.pairs ≡ keys_in (dict_at world place).pairs) → length (dict_at (set world place (content.Dict new)) place).pairs ≡ length (dict_at world place).pairs → keys_in (dict_at (set world place (content.Dict new)) place).pairs ≡ keys_in (dict_at world place).pairs
  put-keys new keeps =
      let at : dict_at (set world place (content.Dict new)) place ≡ new = ap dict_of (get_or-set_same world place (content.Dict new) (content.Dict empty_dict) (is_there world kind.Dict place declared)) in
      λ same. ap (λ (d : DictContent). keys_in d.pairs) at ∙ keeps (ap (λ (d : DictContent). length d.pairs) (sym at) ∙ same)

  without-keys : (key : Key) → length (dict_at (set world place (content.Dict (record { next = (dict_at world place).next; pairs = filter (λ pair. not (is_at key pair)) (dict_at world place).pairs }))) place).pairs ≡ length (dict_at world place).pairs → keys_in (dict_at (set world place (content.Dict (record { next = (dict_at world place).next; pairs = filter (λ pair. not (is_at key pair)) (dict_at world place).pairs }))) place).pairs ≡ keys_in (dict_at world place).pairs
  without-keys key = put-keys (record { next = (dict_at world place).next; pairs = filter (λ pair. not (is_at key pair)) (dict_at world place).pairs }) (λ same. ap keys_in (same_filtered (λ pair. not (is_at key pair)) (dict_at world place).pairs same))

  del-keys : (key : Key) → KeepsKeys (answer_dict world hands place (dict_at world place) (dict.Del key))
  del-keys key = either KeepsKeys (has_key (dict_at world place).pairs key) _ _ (without-keys key) (λ same. refl)

  pop-keys : (key : Key) → KeepsKeys (answer_dict world hands place (dict_at world place) (dict.Pop key))
  pop-keys key = found KeepsKeys _ (dict_get (dict_at world place).pairs key) _ (λ v. without-keys key) (λ same. refl)

  pop_or-keys : (key : Key) (default : Value) → KeepsKeys (answer_dict world hands place (dict_at world place) (dict.PopOr key default))
  pop_or-keys key default = found KeepsKeys _ (dict_get (dict_at world place).pairs key) _ (λ v. without-keys key) (λ same. refl)

  pop_item-keys : KeepsKeys (answer_dict world hands place (dict_at world place) dict.PopItem)
  pop_item-keys =
      let pairs = (dict_at world place).pairs in
      found KeepsKeys _ (slice_get pairs (length pairs - 1)) _ (λ v. put-keys (record { next = (dict_at world place).next; pairs = take (length pairs - 1) pairs }) (λ same. ap keys_in (same_taken (length pairs - 1) pairs same))) (λ same. refl)

  update-keys : (other : ℕ) → (dict_at (answer_dict world hands place (dict_at world place) (dict.Update other)).world place).next ≡ (dict_at world place).next → keys_in (dict_at (answer_dict world hands place (dict_at world place) (dict.Update other)).world place).pairs ≡ keys_in (dict_at world place).pairs
  update-keys other =
      let new = dict_update (dict_at world place) (dict_at world other).pairs in
      let at : dict_at (set world place (content.Dict new)) place ≡ new = ap dict_of (get_or-set_same world place (content.Dict new) (content.Dict empty_dict) (is_there world kind.Dict place declared)) in
      λ same. ap (λ (d : DictContent). keys_in d.pairs) at ∙ same_keys_update (dict_at world other).pairs (dict_at world place) (ap (λ (d : DictContent). d.next) (sym at) ∙ same)

  -- a call after which a dict is still split leaves the first of its keys
  still-first : (keys : List Key) (c : DictCall) → ((other : ℕ) → c ≢ dict.CopyTo other) → are_first (keys_in (dict_at world place).pairs) keys ≡ true → ends_split keys c (dict_at world place) (dict_at (answer_dict world hands place (dict_at world place) c).world place) ≡ false → are_first (keys_in (dict_at (answer_dict world hands place (dict_at world place) c).world place).pairs) keys ≡ true
  still-first keys (dict.Get key) other_than old stays = found (λ a. are_first (keys_in (dict_at a.world place).pairs) keys ≡ true) _ (dict_get (dict_at world place).pairs key) _ (λ v. old) old
  still-first keys (dict.GetOr key default) other_than old stays = old
  still-first keys (dict.Set key value) other_than old stays = not-false _ stays
  still-first keys (dict.Del key) other_than old stays = ap (λ (ks : List Key). are_first ks keys) (del-keys key (eqb-true _ _ (not-false _ stays))) ∙ old
  still-first keys (dict.Pop key) other_than old stays = ap (λ (ks : List Key). are_first ks keys) (pop-keys key (eqb-true _ _ (not-false _ stays))) ∙ old
  still-first keys (dict.PopOr key default) other_than old stays = ap (λ (ks : List Key). are_first ks keys) (pop_or-keys key default (eqb-true _ _ (not-false _ stays))) ∙ old
  still-first keys dict.PopItem other_than old stays = ap (λ (ks : List Key). are_first ks keys) (pop_item-keys (eqb-true _ _ (not-false _ stays))) ∙ old
  still-first keys (dict.SetDefault key default) other_than old stays = not-false _ stays
  still-first keys (dict.Has key) other_than old stays = old
  still-first keys dict.Len other_than old stays = old
  still-first keys dict.Items other_than old stays = old
  still-first keys (dict.Update other) other_than old stays = ap (λ (ks : List Key). are_first ks keys) (update-keys other (eqb-true _ _ (not-false _ stays))) ∙ old
  still-first keys dict.Clear other_than old stays = absurd (false≢true (sym stays))
  still-first keys (dict.CopyTo other) other_than old stays = absurd (other_than other refl)
  still-first keys (dict.Eq other) other_than old stays = old
  still-first keys (dict.Iter cursor) other_than old stays = old
  still-first keys (dict.KeysAnd other) other_than old stays = old
  still-first keys (dict.KeysSub other) other_than old stays = old
  still-first keys (dict.KeysOr other) other_than old stays = old
  still-first keys (dict.KeysXor other) other_than old stays = old
  still-first keys (dict.ItemsHas key value) other_than old stays = old
  still-first keys (dict.Reversed cursor) other_than old stays = old

copy-table : (count : ℕ) → count ≤ most_pairs → HasTableFor count (copy_leaves count).class (copy_leaves count).fill dict_entries
copy-table count few =
    elim (nat_lt 0 count) as (λ b. nat_lt 0 count ≡ b → HasTableFor count (copy_leaves count).class (copy_leaves count).fill dict_entries) [
      | true ↦ λ some. simp some (let fits = dict_fits count few in (fits.0, omega arith, fits.1))
      | false ↦ λ none. simp none (let zero : count ≤ 0 = ltb-false 0 count none in omega arith, refl)
    ] refl

-- the tables of dicts that are not split
combined : (table : TableUse) (dict : DictContent) → table.keys ≡ [] → HasTableFor (length dict.pairs) table.class table.fill dict_entries → IsDictTable table.keys dict table
combined table dict none old = subst (λ keys. IsDictTable keys dict table) (sym none) old

pub grown-keys : (table : TableUse) (takes : Option ℕ) (added count : ℕ) → table.keys ≡ [] → (grown_table table takes added count).keys ≡ []
grown-keys table None added count none = none
grown-keys table (Some class) added count none = refl

pub copied-keys : (count : ℕ) → (copy_leaves count).keys ≡ []
copied-keys count =
    elim (nat_lt 0 count) as (λ b. (option_map_or (λ class. taken class count) (if b then Some (dict_class count) else None) no_table).keys ≡ []) [
      | true ↦ refl
      | false ↦ refl
    ]

-- a copy has a table of its own
copied-table : (other : ℕ) (world left : WorldContent) (tables : List TableUse) (place : ℕ) → other < length tables → length (dict_at world place).pairs ≤ most_pairs → DictAfter left other (λ new. length new.pairs ≡ length (dict_at world place).pairs) → IsTableFor (in_world left other) (table_at (set tables other (copy_leaves (length (dict_at world place).pairs))) other)
copied-table other world left tables place low few step =
    let count = length (dict_at world place).pairs in
    rw (step.0, get_or-set_same tables other (copy_leaves count) no_table low) (combined (copy_leaves count) (dict_at left other) (copied-keys count) (subst (λ n. HasTableFor n (copy_leaves count).class (copy_leaves count).fill dict_entries) (sym step.1) (copy-table count few)))

-- the table at the place of a dict that a call changed, where it is not split
pub dict-table : (t : TableChange) (world left : WorldContent) (tables : List TableUse) (place : ℕ) → changed_dict place t < length tables → (table_at tables place).keys ≡ [] → HasTableFor (length (dict_at world place).pairs) (table_at tables place).class (table_at tables place).fill dict_entries → (adds t ≡ true → passes_cap (in_world left place) ≡ false) → DictStep left place (dict_at world place) t
    → IsTableFor (in_world left (changed_dict place t)) (table_at (change_leaves tables place t (grown_table (table_at tables place) (change_takes t (dict_takes (table_at tables place) (dict_at world place) (dict_at left place)) (copy_takes (length (dict_at world place).pairs))) ((dict_at left place).next - (dict_at world place).next) (length (dict_at left place).pairs)) (copy_leaves (length (dict_at world place).pairs))) (changed_dict place t))
dict-table change.Stays world left tables place low none old few step =
    subst (λ there. IsTableFor there (table_at tables place)) (sym step.0) (combined (table_at tables place) (dict_at left place) none (fewer _ _ (table_at tables place).class (table_at tables place).fill dict_entries step.1 old))
dict-table change.Grows world left tables place low none old few step =
    let table = table_at tables place in
    let added = (dict_at left place).next - (dict_at world place).next in
    let count = length (dict_at left place).pairs in
    let grown = grown_table table (dict_takes table (dict_at world place) (dict_at left place)) added count in
    rw (step.0, get_or-set_same tables place grown no_table low) (combined grown (dict_at left place) (grown-keys table (dict_takes table (dict_at world place) (dict_at left place)) added count none) (grows table count (length (dict_at world place).pairs) added dict_entries (dict_class count) (outgrows_dict table added) (fits_where table.class added table.fill dict_entries (λ class. nat_lt (dict_entries class) (table.fill + added)) (λ class within. ltb-false _ _ within)) (dict_fits count (ltb-false most_pairs count (subst (λ there. passes_cap there ≡ false) step.0 (few refl)))) (omega (arith, step.1.0, step.1.1)) old))
dict-table (change.CopiesTo other) world left tables place low none old few step =
    copied-table other world left tables place low (capped (length (dict_at world place).pairs) (table_at tables place).class (table_at tables place).fill dict_entries most_pairs dict_capped old) step
dict-table change.GivesUp world left tables place low none old few step = rw (step.0, get_or-set_same tables place no_table no_table low) (step.1, refl)

-- ---- calls of a dict that is split

combined-takes : (new : DictContent) → length new.pairs ≤ most_pairs → IsTableFor (content.Dict new) (combined_table (leaving_takes new) new)
combined-takes new few =
    let count = length new.pairs in
    elim (nat_lt 0 count) as (λ b. nat_lt 0 count ≡ b → IsTableFor (content.Dict new) (combined_table (if b then Some (dict_class count) else None) new)) [
      | true ↦ λ some. let fits = dict_fits count few in (fits.0, omega arith, fits.1)
      | false ↦ λ none. (let zero : count ≤ 0 = ltb-false 0 count none in omega arith, refl)
    ] refl

-- it stays split with the first of its keys, or it takes a table for its pairs
split-table : (left : WorldContent) (tables : List TableUse) (place : ℕ) (old : DictContent) (ends : Bool) (first : Key) (keys : List Key) → (table_at tables place).keys ≡ first ∷ keys → IsSplitOver (first ∷ keys) old (table_at tables place) → place < length tables → in_world left place ≡ content.Dict (dict_at left place) → length (dict_at left place).pairs ≤ most_pairs → (ends ≡ false → are_first (keys_in (dict_at left place).pairs) (first ∷ keys) ≡ true)
    → IsTableFor (in_world left place) (table_at (if ends then set tables place (combined_table (if ends then leaving_takes (dict_at left place) else None) (dict_at left place)) else tables) place)
split-table left tables place old true first keys is split low stands few kept =
    let new = dict_at left place in
    rw (stands, get_or-set_same tables place (combined_table (leaving_takes new) new) no_table low) (combined-takes new few)
split-table left tables place old false first keys is split low stands few kept =
    let new = dict_at left place in
    let still : IsSplitOver (first ∷ keys) new (table_at tables place) = record { first = kept refl; few = few; class = split.class; fill = split.fill } in
    subst (λ there. IsTableFor there (table_at tables place)) (sym stands) (subst (λ ks. IsDictTable ks new (table_at tables place)) (sym is) still)

-- a call that copies nothing leaves no more pairs than a table has room for
step-few : (t : TableChange) (left : WorldContent) (place : ℕ) (old : DictContent) → ((other : ℕ) → t ≢ change.CopiesTo other) → length old.pairs ≤ most_pairs → (adds t ≡ true → passes_cap (in_world left place) ≡ false) → DictStep left place old t → (in_world left place ≡ content.Dict (dict_at left place)) × (length (dict_at left place).pairs ≤ most_pairs)
step-few change.Stays left place old other_than few cap step = (step.0, omega (arith, step.1))
step-few change.Grows left place old other_than few cap step = (step.0, ltb-false most_pairs (length (dict_at left place).pairs) (subst (λ there. passes_cap there ≡ false) step.0 (cap refl)))
step-few (change.CopiesTo other) left place old other_than few cap step = absurd (other_than other refl)
step-few change.GivesUp left place old other_than few cap step = (step.0, omega (arith, step.1))

-- ---- calls of a list

abbrev ListStep : WorldContent → ℕ → List Value → TableChange → Type 0
ListStep world place old change.Stays = ListAfter world place (λ new. length new ≤ length old)
ListStep world place old change.Grows = ListAfter world place (λ new. Unit {0})
ListStep world place old (change.CopiesTo other) = ⊥
ListStep world place old change.GivesUp = ListAfter world place (λ new. length new ≡ 0)

removed-le : (items : List Value) (index : ℕ) → length (remove items index) ≤ length items
removed-le items index = omega (arith, length-append (take index items) (drop (suc index) items), length-take index items, length-drop (suc index) items)

module _ (world : WorldContent) (hands : HandsContent) (place : ℕ) (declared : IsOfKind world kind.List place) where
  fewer-items : (new : List Value) → length new ≤ length (list_at world place) → ListAfter (set world place (content.List new)) place (λ new. length new ≤ length (list_at world place))
  fewer-items new le = list_put world place (λ new. length new ≤ length (list_at world place)) new (is_there world kind.List place declared) le

  same-items : ListAfter world place (λ new. length new ≤ length (list_at world place))
  same-items = (list_stands world place declared, omega arith)

  more-items : (new : List Value) → ListAfter (set world place (content.List new)) place (λ new. Unit {0})
  more-items new = list_put world place (λ new. Unit {0}) new (is_there world kind.List place declared) tt

  list-step : (c : ListCall) → ListStep (answer_list world hands place (list_at world place) c).world place (list_at world place) (list_change c)
  list-step (list.Append value) = more-items _
  list-step (list.Insert index value) = more-items _
  list-step (list.Get index) = found (λ a. ListStep a.world place (list_at world place) change.Stays) _ (index_in (length (list_at world place)) index) _ (λ v. same-items) same-items
  list-step (list.Set index value) = found (λ a. ListStep a.world place (list_at world place) change.Stays) _ (index_in (length (list_at world place)) index) _ (λ v. fewer-items (set (list_at world place) v value) (omega (arith, length-set (list_at world place) v value))) same-items
  list-step (list.Del index) = found (λ a. ListStep a.world place (list_at world place) change.Stays) _ (index_in (length (list_at world place)) index) _ (λ v. fewer-items (remove (list_at world place) v) (removed-le (list_at world place) v)) same-items
  list-step (list.Pop index) = found (λ a. ListStep a.world place (list_at world place) change.Stays) _ (index_in (length (list_at world place)) (unwrap_or index (negsuc 0))) _ (λ v. fewer-items (remove (list_at world place) v) (removed-le (list_at world place) v)) same-items
  list-step (list.Remove value) = found (λ a. ListStep a.world place (list_at world place) change.Stays) _ (index_of (list_at world place) value) _ (λ v. fewer-items (remove (list_at world place) v) (removed-le (list_at world place) v)) same-items
  list-step (list.Index value) = found (λ a. ListStep a.world place (list_at world place) change.Stays) _ (index_of (list_at world place) value) _ (λ v. same-items) same-items
  list-step (list.Count value) = same-items
  list-step (list.Has value) = same-items
  list-step list.Reverse = fewer-items (reverse (list_at world place)) (omega (arith, length-reverse (list_at world place)))
  list-step (list.Extend other) = more-items _
  list-step (list.Slice start end) = same-items
  list-step list.Clear = list_put world place (λ new. length new ≡ 0) [] (is_there world kind.List place declared) refl
  list-step list.Len = same-items
  list-step list.Items = same-items
  list-step (list.Eq other) = same-items
  list-step (list.Iter cursor) = same-items
  list-step (list.Reversed cursor) = same-items

-- a list's table after a call that may have grown it
list-grows : (table : TableUse) (count : ℕ) → count ≤ most_items → (stored : ℕ) → HasTableFor stored table.class stored list_items → table.fill ≡ 0 → HasTableFor count (grown_table table (list_takes table count) 0 0).class count list_items × ((grown_table table (list_takes table count) 0 0).fill ≡ 0)
list-grows table count few stored old empty =
    elim (outgrows_list table count) as (λ b. outgrows_list table count ≡ b → HasTableFor count (grown_table table (if b then Some (list_class count) else None) 0 0).class count list_items × ((grown_table table (if b then Some (list_class count) else None) 0 0).fill ≡ 0)) [
      | true ↦ λ more. let fits = list_fits count few in ((fits.0, omega arith, fits.1), refl)
      | false ↦ λ within. (still table.class old (fits_where table.class count 0 list_items (λ class. nat_lt (list_items class) count) (λ class small. let le = ltb-false _ _ small in omega arith) within), omega (arith, empty))
    ] refl
  where
    still : (class : Option ℕ) → HasTableFor stored class stored list_items → Fits class count 0 list_items → HasTableFor count class count list_items
    still None old fits = (fits, fits)
    still (Some class) old fits = (old.0, omega arith, elim fits [ inl none ↦ omega arith | inr le ↦ omega arith ])

-- what a call leaves of the number of items, and the table that it leaves for them
abbrev ItemsStep : TableChange → ℕ → ℕ → Type 0
ItemsStep change.Stays before count = count ≤ before
ItemsStep change.Grows before count = Unit {0}
ItemsStep (change.CopiesTo other) before count = ⊥
ItemsStep change.GivesUp before count = count ≡ 0

abbrev IsItemsTable : ℕ → TableUse → Type 0
IsItemsTable count table = HasTableFor count table.class count list_items × (table.fill ≡ 0)

fewer-in : (class : Option ℕ) (before count : ℕ) → count ≤ before → HasTableFor before class before list_items → HasTableFor count class count list_items
fewer-in None before count le old = let none = old.0 in (omega arith, omega arith)
fewer-in (Some class) before count le old = let within = old.2 in (old.0, omega arith, omega arith)

items-table : (t : TableChange) (tables : List TableUse) (place before count : ℕ) → place < length tables → IsItemsTable before (table_at tables place) → (adds t ≡ true → count ≤ most_items) → ItemsStep t before count
    → IsItemsTable count (table_at (change_leaves tables place t (grown_table (table_at tables place) (change_takes t (list_takes (table_at tables place) count) None) 0 0) no_table) place)
items-table change.Stays tables place before count low old few step = (fewer-in (table_at tables place).class before count step old.0, old.1)
items-table change.Grows tables place before count low old few step =
    let table = table_at tables place in
    rw (get_or-set_same tables place (grown_table table (list_takes table count) 0 0) no_table low) (list-grows table count (few refl) before old.0 old.1)
items-table (change.CopiesTo other) tables place before count low old few step = absurd step
items-table change.GivesUp tables place before count low old few step = rw (get_or-set_same tables place no_table no_table low) ((step, step), refl)

pub list-table : (t : TableChange) (world left : WorldContent) (tables : List TableUse) (place : ℕ) → place < length tables → HasTableFor (length (list_at world place)) (table_at tables place).class (length (list_at world place)) list_items × ((table_at tables place).fill ≡ 0) → (adds t ≡ true → passes_cap (in_world left place) ≡ false) → ListStep left place (list_at world place) t
    → IsTableFor (in_world left place) (table_at (change_leaves tables place t (grown_table (table_at tables place) (change_takes t (list_takes (table_at tables place) (length (list_at left place))) None) 0 0) no_table) place)
list-table t world left tables place low old few step =
    let parts = split-step t step in
    subst (λ there. IsTableFor there (table_at (change_leaves tables place t (grown_table (table_at tables place) (change_takes t (list_takes (table_at tables place) (length (list_at left place))) None) 0 0) no_table) place)) (sym parts.0)
    (items-table t tables place (length (list_at world place)) (length (list_at left place)) low old (λ adding. ltb-false most_items (length (list_at left place)) (subst (λ there. passes_cap there ≡ false) parts.0 (few adding))) parts.1)
  where
    split-step : (t : TableChange) → ListStep left place (list_at world place) t → (in_world left place ≡ content.List (list_at left place)) × ItemsStep t (length (list_at world place)) (length (list_at left place))
    split-step change.Stays step = step
    split-step change.Grows step = step
    split-step (change.CopiesTo other) step = absurd step
    split-step change.GivesUp step = step

-- ---- calls of a deque

abbrev DequeStep : WorldContent → ℕ → DequeContent → TableChange → Type 0
DequeStep world place old t = DequeAfter world place (λ new. ItemsStep t (length old.items) (length new.items))

module _ (world : WorldContent) (hands : HandsContent) (place : ℕ) (declared : IsOfKind world (kind.Deque None) place) where
  abbrev old-deque : DequeContent
  old-deque = deque_at world place

  put-deque : (t : TableChange) (new : DequeContent) → ItemsStep t (length old-deque.items) (length new.items) → DequeStep (set world place (content.Deque new)) place old-deque t
  put-deque t new step = deque_put world place (λ new. ItemsStep t (length old-deque.items) (length new.items)) new (is_there world (kind.Deque declared.0) place declared.1) step

  same-deque : DequeStep world place old-deque change.Stays
  same-deque = (deque_stands world place declared, omega arith)

  either-deque : (b : Bool) (t : TableChange) (items : List Value) → ItemsStep t (length old-deque.items) (length old-deque.items) → ItemsStep t (length old-deque.items) (length items) → DequeStep (set world place (content.Deque (if b then old-deque else with_deque_items old-deque items))) place old-deque t
  either-deque true t items first second = put-deque t old-deque first
  either-deque false t items first second = put-deque t (with_deque_items old-deque items) second

  deque-step : (c : DequeCall) → DequeStep (answer_deque world hands place old-deque c).world place old-deque (deque_change c)
  deque-step (deque.Append value) = put-deque change.Grows _ tt
  deque-step (deque.AppendLeft value) = put-deque change.Grows _ tt
  deque-step deque.Pop =
      let items = old-deque.items in
      found (λ a. DequeStep a.world place old-deque change.Stays) _ (last_item items) _ (λ v. put-deque change.Stays (with_deque_items old-deque (take (length items - 1) items)) (omega (arith, length-take (length items - 1) items))) same-deque
  deque-step deque.PopLeft =
      let items = old-deque.items in
      found (λ a. DequeStep a.world place old-deque change.Stays) _ (first_item items) _ (λ v. put-deque change.Stays (with_deque_items old-deque (drop 1 items)) (omega (arith, length-drop 1 items))) same-deque
  deque-step (deque.Extend other) = put-deque change.Grows _ tt
  deque-step (deque.ExtendLeft other) = put-deque change.Grows _ tt
  deque-step (deque.Rotate steps) =
      let items = old-deque.items in
      either-deque (nat_le (length items) 1) change.Stays (rotated items steps) (omega arith) (omega (arith, length-rotated items steps))
  deque-step deque.Clear = emptied (length old-deque.items == 0) refl
    where
      emptied : (b : Bool) → (length old-deque.items == 0) ≡ b → DequeStep (set world place (content.Deque (if b then old-deque else with_deque_items old-deque []))) place old-deque change.GivesUp
      emptied true is = put-deque change.GivesUp old-deque (eqb-true (length old-deque.items) 0 is)
      emptied false is = put-deque change.GivesUp (with_deque_items old-deque []) refl
  deque-step (deque.Get index) = found (λ a. DequeStep a.world place old-deque change.Stays) _ (deque_get old-deque.items index) _ (λ v. same-deque) same-deque
  deque-step deque.Len = same-deque
  deque-step deque.Items = same-deque
  deque-step (deque.Has value) = same-deque
  deque-step (deque.Iter cursor) = same-deque

deque-table : (t : TableChange) (world left : WorldContent) (tables : List TableUse) (place : ℕ) → place < length tables → IsItemsTable (length (deque_at world place).items) (table_at tables place) → (adds t ≡ true → passes_cap (in_world left place) ≡ false) → DequeStep left place (deque_at world place) t
    → IsTableFor (in_world left place) (table_at (change_leaves tables place t (grown_table (table_at tables place) (change_takes t (list_takes (table_at tables place) (length (deque_at left place).items)) None) 0 0) no_table) place)
deque-table t world left tables place low old few step =
    let count = length (deque_at left place).items in
    subst (λ there. IsTableFor there (table_at (change_leaves tables place t (grown_table (table_at tables place) (change_takes t (list_takes (table_at tables place) count) None) 0 0) no_table) place)) (sym step.0)
    (items-table t tables place (length (deque_at world place).items) count low old (λ adding. ltb-false most_items count (subst (λ there. passes_cap there ≡ false) step.0 (few adding))) step.1)

-- ---- calls of a set

abbrev SetStep : WorldContent → ℕ → SetContent → TableChange → Type 0
SetStep world place old change.Stays = SetAfter world place (λ new. length new.elements ≤ length old.elements)
SetStep world place old change.Grows = SetAfter world place (λ new. Grown (length old.elements) old.next (length new.elements) new.next)
SetStep world place old (change.CopiesTo other) = ⊥
SetStep world place old change.GivesUp = SetAfter world place (λ new. length new.elements ≡ 0)

module _ (world : WorldContent) (hands : HandsContent) (place : ℕ) (declared : IsOfKind world kind.Set place) where
  fewer-elements : (new : SetContent) → length new.elements ≤ length (set_at world place).elements → SetAfter (set world place (content.Set new)) place (λ new. length new.elements ≤ length (set_at world place).elements)
  fewer-elements new le = set_put world place (λ new. length new.elements ≤ length (set_at world place).elements) new (is_there world kind.Set place declared) le

  same-elements : SetAfter world place (λ new. length new.elements ≤ length (set_at world place).elements)
  same-elements = (set_stands world place declared, omega arith)

  some-elements : (stays : Element → Bool) → SetAfter (set world place (content.Set (record { next = (set_at world place).next; elements = filter stays (set_at world place).elements }))) place (λ new. length new.elements ≤ length (set_at world place).elements)
  some-elements stays = fewer-elements (record { next = (set_at world place).next; elements = filter stays (set_at world place).elements }) (length-filter-le stays (set_at world place).elements)

  more-elements : (new : SetContent) → Grown (length (set_at world place).elements) (set_at world place).next (length new.elements) new.next → SetAfter (set world place (content.Set new)) place (λ new. Grown (length (set_at world place).elements) (set_at world place).next (length new.elements) new.next)
  more-elements new grown = set_put world place (λ new. Grown (length (set_at world place).elements) (set_at world place).next (length new.elements) new.next) new (is_there world kind.Set place declared) grown

  joined : (some others : List Element) → length some ≤ length (set_at world place).elements → Grown (length (set_at world place).elements) (set_at world place).next (length (some ++ elements_from (set_at world place).next others)) ((set_at world place).next + length others)
  joined some others le = (omega arith, omega (arith, length-append some (elements_from (set_at world place).next others), length-elements_from (set_at world place).next others))

  add-grows : (key : Key) → Grown (length (set_at world place).elements) (set_at world place).next (length (set_add (set_at world place) key).elements) (set_add (set_at world place) key).next
  add-grows key =
      let old = set_at world place in
      elim (has_element old.elements key) as (λ b. has_element old.elements key ≡ b → Grown (length old.elements) old.next (length (set_add old key).elements) (set_add old key).next) [
        | true ↦ λ here. simp here (omega arith, omega arith)
        | false ↦ λ none. simp none (omega arith, omega (arith, length-append old.elements (record { serial = old.next; key = key } ∷ [])))
      ] refl

  set-step : (c : SetCall) → SetStep (answer_set world hands place (set_at world place) c).world place (set_at world place) (set_change c)
  set-step (set_call.Add key) = more-elements (set_add (set_at world place) key) (add-grows key)
  set-step (set_call.Discard key) = some-elements (λ element. not (same_key element.key key))
  set-step (set_call.Remove key) = either (λ a. SetStep a.world place (set_at world place) change.Stays) (has_element (set_at world place).elements key) _ _ (some-elements (λ element. not (same_key element.key key))) same-elements
  set-step set_call.Pop =
      let elements = (set_at world place).elements in
      found (λ a. SetStep a.world place (set_at world place) change.Stays) _ (slice_get elements 0) _ (λ v. fewer-elements (record { next = (set_at world place).next; elements = drop 1 elements }) (omega (arith, length-drop 1 elements))) same-elements
  set-step (set_call.Has key) = same-elements
  set-step set_call.Len = same-elements
  set-step set_call.Items = same-elements
  set-step (set_call.Eq other) = same-elements
  set-step (set_call.Or other) = more-elements (set_or (set_at world place) (set_at world other).elements) (joined (set_at world place).elements (those_not_in (set_at world place).elements (set_at world other).elements) (omega arith))
  set-step (set_call.And other) = some-elements (λ element. has_element (set_at world other).elements element.key)
  set-step (set_call.Sub other) = some-elements (λ element. not (has_element (set_at world other).elements element.key))
  set-step (set_call.Xor other) = more-elements (set_xor (set_at world place) (set_at world other).elements) (joined (those_not_in (set_at world other).elements (set_at world place).elements) (those_not_in (set_at world place).elements (set_at world other).elements) (length-filter-le (λ (element : Element). not (has_element (set_at world other).elements element.key)) (set_at world place).elements))
  set-step (set_call.Subset other) = same-elements
  set-step (set_call.Disjoint other) = same-elements
  set-step set_call.Clear = set_put world place (λ new. length new.elements ≡ 0) (record { next = (set_at world place).next; elements = [] }) (is_there world kind.Set place declared) refl
  set-step (set_call.Iter cursor) = same-elements

pub set-table : (t : TableChange) (world left : WorldContent) (tables : List TableUse) (place : ℕ) → place < length tables → HasTableFor (length (set_at world place).elements) (table_at tables place).class (table_at tables place).fill set_entries → (adds t ≡ true → passes_cap (in_world left place) ≡ false) → SetStep left place (set_at world place) t
    → IsTableFor (in_world left place) (table_at (change_leaves tables place t (grown_table (table_at tables place) (change_takes t (set_takes (table_at tables place) (set_at world place) (set_at left place)) None) ((set_at left place).next - (set_at world place).next) (length (set_at left place).elements)) no_table) place)
set-table change.Stays world left tables place low old few step =
    subst (λ there. IsTableFor there (table_at tables place)) (sym step.0) (fewer _ _ (table_at tables place).class (table_at tables place).fill set_entries step.1 old)
set-table change.Grows world left tables place low old few step =
    let table = table_at tables place in
    let added = (set_at left place).next - (set_at world place).next in
    let count = length (set_at left place).elements in
    rw (step.0, get_or-set_same tables place (grown_table table (set_takes table (set_at world place) (set_at left place)) added count) no_table low) (grows table count (length (set_at world place).elements) added set_entries (set_class count) (outgrows_set table added) (fits_where table.class added table.fill set_entries (λ class. nat_lt (3 * 2 ^ class) (5 * (table.fill + added))) (λ class within. let le = ltb-false _ _ within in omega arith)) (set_fits count (ltb-false most_elements count (subst (λ there. passes_cap there ≡ false) step.0 (few refl)))) (omega (arith, step.1.0, step.1.1)) old)
set-table (change.CopiesTo other) world left tables place low old few step = absurd step
set-table change.GivesUp world left tables place low old few step = rw (step.0, get_or-set_same tables place no_table no_table low) (step.1, refl)

-- ---- all calls

-- of what a call that can add leaves, the container that it is made on passes no cap
first-capped : (world : WorldContent) (one : ℕ) (other : Option ℕ) (can : Bool) → (can && list_any passes_cap (map (in_world world) (one_or_two one other))) ≡ false → can ≡ true → passes_cap (in_world world one) ≡ false
first-capped world one other can h is = first other (simp is at h)
  where
    head : (here rest : Bool) → (here || rest) ≡ false → here ≡ false
    head true rest h = h
    head false rest h = refl

    either_way : (second : ℕ) (same : Bool) → list_any passes_cap (map (in_world world) (if same then one ∷ [] else one ∷ second ∷ [])) ≡ false → passes_cap (in_world world one) ≡ false
    either_way second true h = head (passes_cap (in_world world one)) false h
    either_way second false h = head (passes_cap (in_world world one)) (list_any passes_cap (map (in_world world) (second ∷ []))) h

    first : (other : Option ℕ) → list_any passes_cap (map (in_world world) (one_or_two one other)) ≡ false → passes_cap (in_world world one) ≡ false
    first None h = head (passes_cap (in_world world one)) false h
    first (Some second) h = either_way second (one == second) h

-- tables are in order where the one that may have changed is
order-after : (stored : StoredWorld) (called : Call) (changed : ℕ) → ((place : ℕ) → changed_by called ≡ Some place → changed ≡ place) → AreTablesInOrder stored → IsTableFor (in_world (after_write stored.world called) changed) (table_at (after_stored stored called).tables changed) → AreTablesInOrder (after_stored stored called)
order-after stored called changed only old here =
    record {
      as_many = as_many_tables stored called ∙ old.as_many ∙ sym (as_many_contents stored.world no_hands called);
      each = λ place.
          elim (cases_eq place changed) [
            | inl same ↦ subst (λ p. IsTableFor (in_world (after_write stored.world called) p) (table_at (after_stored stored called).tables p)) (sym same) here
            | inr differ ↦
                let other : changed_by called ≢ Some place = λ is. differ (sym (only place is)) in
                let content_at : in_world (after_write stored.world called) place ≡ in_world stored.world place = sym (unwrap_or-slice_get (after_write stored.world called) place (content.List [])) ∙ ap (λ o. unwrap_or o (content.List [])) (other_contents stored.world no_hands called place other) ∙ unwrap_or-slice_get stored.world place (content.List []) in
                let table_there : table_at (after_stored stored called).tables place ≡ table_at stored.tables place = sym (unwrap_or-slice_get (after_stored stored called).tables place no_table) ∙ ap (λ o. unwrap_or o no_table) (other_tables stored called place other) ∙ unwrap_or-slice_get stored.tables place no_table in
                rw (content_at, table_there) (old.each place)
          ];
    }

the-one : (b : Bool) (at place : ℕ) → (if b then Some at else None) ≡ Some place → at ≡ place
the-one true at place is = let some : Some at ≡ Some place = is in cc
the-one false at place is = absurd (let none : None ≡ Some place = is in cc)

-- the dict that a call changes is declared
dict-low : (world : WorldContent) (place : ℕ) (c : DictCall) → IsOfKind world kind.Dict place → IfSome (other_dict c) (λ other. IsOfKind world kind.Dict other) → changed_dict place (dict_change c) < length world
dict-low world place (dict.Get key) one both = is_there world kind.Dict place one
dict-low world place (dict.GetOr key default) one both = is_there world kind.Dict place one
dict-low world place (dict.Set key value) one both = is_there world kind.Dict place one
dict-low world place (dict.Del key) one both = is_there world kind.Dict place one
dict-low world place (dict.Pop key) one both = is_there world kind.Dict place one
dict-low world place (dict.PopOr key default) one both = is_there world kind.Dict place one
dict-low world place dict.PopItem one both = is_there world kind.Dict place one
dict-low world place (dict.SetDefault key default) one both = is_there world kind.Dict place one
dict-low world place (dict.Has key) one both = is_there world kind.Dict place one
dict-low world place dict.Len one both = is_there world kind.Dict place one
dict-low world place dict.Items one both = is_there world kind.Dict place one
dict-low world place (dict.Update other) one both = is_there world kind.Dict place one
dict-low world place dict.Clear one both = is_there world kind.Dict place one
dict-low world place (dict.CopyTo other) one both = is_there world kind.Dict other both
dict-low world place (dict.Eq other) one both = is_there world kind.Dict place one
dict-low world place (dict.Iter cursor) one both = is_there world kind.Dict place one
dict-low world place (dict.KeysAnd other) one both = is_there world kind.Dict place one
dict-low world place (dict.KeysSub other) one both = is_there world kind.Dict place one
dict-low world place (dict.KeysOr other) one both = is_there world kind.Dict place one
dict-low world place (dict.KeysXor other) one both = is_there world kind.Dict place one
dict-low world place (dict.ItemsHas key value) one both = is_there world kind.Dict place one
dict-low world place (dict.Reversed cursor) one both = is_there world kind.Dict place one

-- the table of a split dict after a call that copies nothing
own-split : (stored : StoredWorld) (place : ℕ) (first : Key) (keys : List Key) → IsOfKind stored.world kind.Dict place → (table_at stored.tables place).keys ≡ first ∷ keys → IsSplitOver (first ∷ keys) (dict_at stored.world place) (table_at stored.tables place)
    → (c : DictCall) → ((other : ℕ) → c ≢ dict.CopyTo other) → ((other : ℕ) → dict_change c ≢ change.CopiesTo other) → IfSome (other_dict c) (λ other. IsOfKind stored.world kind.Dict other) → (let left = after_write stored.world (call.Dict place c) in let ends = ends_split (first ∷ keys) c (dict_at stored.world place) (dict_at left place) in place < length stored.tables → (adds (dict_change c) ≡ true → passes_cap (in_world left place) ≡ false) → IsTableFor (in_world left place) (table_at (if ends then set stored.tables place (combined_table (if ends then leaving_takes (dict_at left place) else None) (dict_at left place)) else stored.tables) place))
own-split stored place first keys declared is split c other_than none both low cap =
    let left = after_write stored.world (call.Dict place c) in
    let old = dict_at stored.world place in
    let few = step-few (dict_change c) left place old none split.few cap (dict-step stored.world no_hands place declared c both) in
    split-table left stored.tables place old (ends_split (first ∷ keys) c old (dict_at left place)) first keys is split low few.0 few.1 (still-first stored.world no_hands place declared (first ∷ keys) c other_than split.first)

-- the table at the place of a split dict that a call changed
split-order : (stored : StoredWorld) (place : ℕ) (first : Key) (keys : List Key) → IsOfKind stored.world kind.Dict place → (table_at stored.tables place).keys ≡ first ∷ keys → IsSplitOver (first ∷ keys) (dict_at stored.world place) (table_at stored.tables place)
    → (c : DictCall) → IfSome (other_dict c) (λ other. IsOfKind stored.world kind.Dict other) → (let left = after_write stored.world (call.Dict place c) in changed_dict place (dict_change c) < length stored.tables → (adds (dict_change c) ≡ true → passes_cap (in_world left place) ≡ false) → IsTableFor (in_world left (changed_dict place (dict_change c))) (table_at (dict_call_leaves stored.tables place c (dict_at stored.world place) (dict_at left place) (dict_call_takes (table_at stored.tables place) c (dict_at stored.world place) (dict_at left place))) (changed_dict place (dict_change c))))
split-order stored place first keys declared is split (dict.CopyTo other) both low cap =
    let step = dict-step stored.world no_hands place declared (dict.CopyTo other) both in
    rw is (copied-table other stored.world (after_write stored.world (call.Dict place (dict.CopyTo other))) stored.tables place low split.few step)
split-order stored place first keys declared is split (dict.Get key) both low cap = rw is (own-split stored place first keys declared is split (dict.Get key) (λ another same. absurd cc) (λ another same. absurd cc) both low cap)
split-order stored place first keys declared is split (dict.GetOr key default) both low cap = rw is (own-split stored place first keys declared is split (dict.GetOr key default) (λ another same. absurd cc) (λ another same. absurd cc) both low cap)
split-order stored place first keys declared is split (dict.Set key value) both low cap = rw is (own-split stored place first keys declared is split (dict.Set key value) (λ another same. absurd cc) (λ another same. absurd cc) both low cap)
split-order stored place first keys declared is split (dict.Del key) both low cap = rw is (own-split stored place first keys declared is split (dict.Del key) (λ another same. absurd cc) (λ another same. absurd cc) both low cap)
split-order stored place first keys declared is split (dict.Pop key) both low cap = rw is (own-split stored place first keys declared is split (dict.Pop key) (λ another same. absurd cc) (λ another same. absurd cc) both low cap)
split-order stored place first keys declared is split (dict.PopOr key default) both low cap = rw is (own-split stored place first keys declared is split (dict.PopOr key default) (λ another same. absurd cc) (λ another same. absurd cc) both low cap)
split-order stored place first keys declared is split dict.PopItem both low cap = rw is (own-split stored place first keys declared is split dict.PopItem (λ another same. absurd cc) (λ another same. absurd cc) both low cap)
split-order stored place first keys declared is split (dict.SetDefault key default) both low cap = rw is (own-split stored place first keys declared is split (dict.SetDefault key default) (λ another same. absurd cc) (λ another same. absurd cc) both low cap)
split-order stored place first keys declared is split (dict.Has key) both low cap = rw is (own-split stored place first keys declared is split (dict.Has key) (λ another same. absurd cc) (λ another same. absurd cc) both low cap)
split-order stored place first keys declared is split dict.Len both low cap = rw is (own-split stored place first keys declared is split dict.Len (λ another same. absurd cc) (λ another same. absurd cc) both low cap)
split-order stored place first keys declared is split dict.Items both low cap = rw is (own-split stored place first keys declared is split dict.Items (λ another same. absurd cc) (λ another same. absurd cc) both low cap)
split-order stored place first keys declared is split (dict.Update other) both low cap = rw is (own-split stored place first keys declared is split (dict.Update other) (λ another same. absurd cc) (λ another same. absurd cc) both low cap)
split-order stored place first keys declared is split dict.Clear both low cap = rw is (own-split stored place first keys declared is split dict.Clear (λ another same. absurd cc) (λ another same. absurd cc) both low cap)
split-order stored place first keys declared is split (dict.Eq other) both low cap = rw is (own-split stored place first keys declared is split (dict.Eq other) (λ another same. absurd cc) (λ another same. absurd cc) both low cap)
split-order stored place first keys declared is split (dict.Iter cursor) both low cap = rw is (own-split stored place first keys declared is split (dict.Iter cursor) (λ another same. absurd cc) (λ another same. absurd cc) both low cap)
split-order stored place first keys declared is split (dict.KeysAnd other) both low cap = rw is (own-split stored place first keys declared is split (dict.KeysAnd other) (λ another same. absurd cc) (λ another same. absurd cc) both low cap)
split-order stored place first keys declared is split (dict.KeysSub other) both low cap = rw is (own-split stored place first keys declared is split (dict.KeysSub other) (λ another same. absurd cc) (λ another same. absurd cc) both low cap)
split-order stored place first keys declared is split (dict.KeysOr other) both low cap = rw is (own-split stored place first keys declared is split (dict.KeysOr other) (λ another same. absurd cc) (λ another same. absurd cc) both low cap)
split-order stored place first keys declared is split (dict.KeysXor other) both low cap = rw is (own-split stored place first keys declared is split (dict.KeysXor other) (λ another same. absurd cc) (λ another same. absurd cc) both low cap)
split-order stored place first keys declared is split (dict.ItemsHas key value) both low cap = rw is (own-split stored place first keys declared is split (dict.ItemsHas key value) (λ another same. absurd cc) (λ another same. absurd cc) both low cap)
split-order stored place first keys declared is split (dict.Reversed cursor) both low cap = rw is (own-split stored place first keys declared is split (dict.Reversed cursor) (λ another same. absurd cc) (λ another same. absurd cc) both low cap)

-- a write on declared containers that passes no cap
pub order-step : (stored : StoredWorld) (hands : HandsContent) (called : Call) → IsDeclared stored.world hands called → would_pass stored.world called ≡ false → AreTablesInOrder stored → AreTablesInOrder (after_stored stored called)
order-step stored hands (call.Dict place c) declared few old =
    let left = after_write stored.world (call.Dict place c) in
    let low : changed_dict place (dict_change c) < length stored.tables = omega (arith, old.as_many, dict-low stored.world place c declared.one declared.both) in
    let T = table_at stored.tables place in
    let own : IsDictTable T.keys (dict_at stored.world place) T = subst (λ there. IsTableFor there T) (dict_stands stored.world place declared.one) (old.each place) in
    let cap = first-capped left place (other_dict c) (adds (dict_change c)) few in
    order-after stored (call.Dict place c) (changed_dict place (dict_change c)) (the-one (is_changing_dict c) (changed_dict place (dict_change c))) old
    (elim T.keys as (λ keys. T.keys ≡ keys → IsTableFor (in_world left (changed_dict place (dict_change c))) (table_at (after_stored stored (call.Dict place c)).tables (changed_dict place (dict_change c)))) [
      | [] ↦ λ none. subst (λ tables. IsTableFor (in_world left (changed_dict place (dict_change c))) (table_at tables (changed_dict place (dict_change c)))) (sym (unsplit_tables stored.tables place c (dict_at stored.world place) (dict_at left place) none)) (dict-table (dict_change c) stored.world left stored.tables place low none (subst (λ keys. IsDictTable keys (dict_at stored.world place) T) none own) cap (dict-step stored.world no_hands place declared.one c declared.both))
      | first ∷ keys ↦ λ is. split-order stored place first keys declared.one is (subst (λ keys. IsDictTable keys (dict_at stored.world place) T) is own) c declared.both low cap
    ] refl)
order-step stored hands (call.List place c) declared few old =
    let left = after_write stored.world (call.List place c) in
    let low : place < length stored.tables = omega (arith, old.as_many, is_there stored.world kind.List place declared.one) in
    order-after stored (call.List place c) place (the-one (is_changing_list c) place) old
    (list-table (list_change c) stored.world left stored.tables place low
    (subst (λ there. IsTableFor there (table_at stored.tables place)) (list_stands stored.world place declared.one) (old.each place))
    (first-capped left place (other_list c) (adds (list_change c)) few)
    (list-step stored.world no_hands place declared.one c))
order-step stored hands (call.Set place c) declared few old =
    let left = after_write stored.world (call.Set place c) in
    let low : place < length stored.tables = omega (arith, old.as_many, is_there stored.world kind.Set place declared.one) in
    order-after stored (call.Set place c) place (the-one (is_changing_set c) place) old
    (set-table (set_change c) stored.world left stored.tables place low
    (subst (λ there. IsTableFor there (table_at stored.tables place)) (set_stands stored.world place declared.one) (old.each place))
    (first-capped left place (other_set c) (adds (set_change c)) few)
    (set-step stored.world no_hands place declared.one c))
order-step stored hands (call.Deque place c) declared few old =
    let left = after_write stored.world (call.Deque place c) in
    let low : place < length stored.tables = omega (arith, old.as_many, is_there stored.world (kind.Deque declared.one.0) place declared.one.1) in
    order-after stored (call.Deque place c) place (the-one (is_changing_deque c) place) old
    (deque-table (deque_change c) stored.world left stored.tables place low
    (subst (λ there. IsTableFor there (table_at stored.tables place)) (deque_stands stored.world place declared.one) (old.each place))
    (first-capped left place (other_deque c) (adds (deque_change c)) few)
    (deque-step stored.world no_hands place declared.one c))
order-step stored hands (call.Next number) declared few old = order-after stored (call.Next number) 0 (λ place is. absurd (let none : None ≡ Some place = is in cc)) old (old.each 0)
order-step stored hands (call.Begin first second) declared few old = absurd declared
order-step stored hands call.End declared few old = absurd declared
order-step stored hands call.Quiesce declared few old = absurd declared
order-step stored hands (call.Await thread index) declared few old = absurd declared
order-step stored hands call.Dump declared few old = order-after stored call.Dump 0 (λ place is. absurd (let none : None ≡ Some place = is in cc)) old (old.each 0)

-- ---- the start, and the caps

empty-table : (kind : Kind) (keys : List Key) → IsTableFor (empty_content kind) (start_table (record { kind = kind; keys = keys }))
empty-table kind.Dict [] = (refl, refl)
empty-table kind.Dict (first ∷ keys) = record { first = refl; few = omega arith; class = refl; fill = refl }
empty-table kind.List keys = ((refl, refl), refl)
empty-table kind.Set keys = (refl, refl)
empty-table (kind.Deque bound) keys = ((refl, refl), refl)

all-empty : (starts : List Start) (place : ℕ) → IsTableFor (get_or (map (λ (start : Start). empty_content start.kind) starts) place (content.List [])) (get_or (map start_table starts) place no_table)
all-empty [] place = ((refl, refl), refl)
all-empty (first ∷ starts) zero = empty-table first.kind first.keys
all-empty (first ∷ starts) (suc place) = all-empty starts place

pub order-start : (starts : List Start) → AreTablesInOrder (empty_stored starts)
order-start starts = record { as_many = length-map starts start_table ∙ sym (length-map starts (λ (start : Start). empty_content start.kind)); each = all-empty starts }

dict-few : (keys : List Key) (dict : DictContent) (table : TableUse) → IsDictTable keys dict table → length dict.pairs ≤ most_pairs
dict-few [] dict table old = capped (length dict.pairs) table.class table.fill dict_entries most_pairs dict_capped old
dict-few (first ∷ keys) dict table old = old.few

under_cap : (there : Content) (table : TableUse) → IsTableFor there table → passes_cap there ≡ false
under_cap (content.Dict dict) table old = le-ltb most_pairs (length dict.pairs) (dict-few table.keys dict table old)
under_cap (content.List items) table old = le-ltb most_items (length items) (capped (length items) table.class (length items) list_items most_items list_capped old.0)
under_cap (content.Set set) table old = le-ltb most_elements (length set.elements) (capped (length set.elements) table.class table.fill set_entries most_elements set_capped old)
under_cap (content.Deque deque) table old = le-ltb most_items (length deque.items) (capped (length deque.items) table.class (length deque.items) list_items most_items list_capped old.0)

pub order-caps : (stored : StoredWorld) → AreTablesInOrder stored → All (λ content. passes_cap content ≡ false) stored.world
order-caps stored old = λ place d low. ap passes_cap (get_or_default stored.world place d (content.List []) low) ∙ under_cap (in_world stored.world place) (table_at stored.tables place) (old.each place)
