-- A call changes one container at most, and its table.
use Rattle.std.proofs.Common.{◌≡◌, ◌≢◌, ℕ, ◌-◌, Bool, true, false, List, length, set, Option, Some, None, refl, sym, ap, ◌∙◌, length-set}
use Rattle.std.specs.Prelude.{negsuc, slice_get, if◌then◌else◌}
use Rattle.std.specs.Option.{option_map_or, unwrap_or}
use Rattle.ft_model.specs.declared.data.Value.{Value}
use Rattle.ft_model.specs.declared.call.Call.{Call}
use Rattle.ft_model.specs.declared.call.Call.TheVariants as call
use Rattle.ft_model.specs.declared.call.DictCall.{DictCall}
use Rattle.ft_model.specs.declared.call.DictCall.TheVariants as dict
use Rattle.ft_model.specs.declared.call.ListCall.{ListCall}
use Rattle.ft_model.specs.declared.call.ListCall.TheVariants as list
use Rattle.ft_model.specs.declared.call.SetCall.{SetCall}
use Rattle.ft_model.specs.declared.call.SetCall.TheVariants as set_call
use Rattle.ft_model.specs.declared.call.DequeCall.{DequeCall}
use Rattle.ft_model.specs.declared.call.DequeCall.TheVariants as deque
use Rattle.ft_model.specs.Contents.{DictContent, SetContent, dict_get, has_key, has_element}
use Rattle.ft_model.specs.Deques.{DequeContent, last_item, first_item, deque_get}
use Rattle.ft_model.specs.Lists.{index_in, index_of}
use Rattle.ft_model.specs.Worlds.{WorldContent, HandsContent, cursor_at, dict_at, list_at, set_at, deque_at}
use Rattle.ft_model.specs.Answers.{Answer, answer_dict, answer_list, answer_set, answer_deque, answer, after_write}
use Rattle.ft_model.specs.TableUses.{TableUse, StoredWorld, table_at, is_split, ends_split, leaves_tables, takes_in, after_stored}
use Rattle.ft_model.specs.TablesInOrder.{changed_by}
use Rattle.ft_model.proofs.AnswerLaws.{slice_get-other}

-- one list has what another has, or something else at the place that may change
data Left {X : Type 0} (old : List X) (changed : Option ℕ) (new : List X) : Type 0 where
  same : new ≡ old → Left old changed new
  put : (place : ℕ) (there : X) → new ≡ set old place there → changed ≡ Some place → Left old changed new

module _ (world : WorldContent) (changed : Option ℕ) where
  found : {X : Type 0} (f : X → Answer) (o : Option X) (none : Answer) → ((x : X) → Left world changed (f x).world) → Left world changed none.world → Left world changed (option_map_or f o none).world
  found f None none some without = without
  found f (Some x) none some without = some x

  either : (b : Bool) (one other : Answer) → Left world changed one.world → Left world changed other.world → Left world changed (if b then one else other).world
  either true one other first second = first
  either false one other first second = second

module _ (world : WorldContent) (hands : HandsContent) (place : ℕ) where
  left-dict : (old : DictContent) (c : DictCall) → Left world (changed_by (call.Dict place c)) (answer_dict world hands place old c).world
  left-dict old (dict.Get key) = found world _ _ (dict_get old.pairs key) _ (λ v. same refl) (same refl)
  left-dict old (dict.GetOr key default) = same refl
  left-dict old (dict.Set key value) = put place _ refl refl
  left-dict old (dict.Del key) = either world _ (has_key old.pairs key) _ _ (put place _ refl refl) (same refl)
  left-dict old (dict.Pop key) = found world _ _ (dict_get old.pairs key) _ (λ v. put place _ refl refl) (same refl)
  left-dict old (dict.PopOr key default) = found world _ _ (dict_get old.pairs key) _ (λ v. put place _ refl refl) (same refl)
  left-dict old dict.PopItem = found world _ _ (slice_get old.pairs (length old.pairs - 1)) _ (λ v. put place _ refl refl) (same refl)
  left-dict old (dict.SetDefault key default) = found world _ _ (dict_get old.pairs key) _ (λ v. same refl) (put place _ refl refl)
  left-dict old (dict.Has key) = same refl
  left-dict old dict.Len = same refl
  left-dict old dict.Items = same refl
  left-dict old (dict.Update other) = put place _ refl refl
  left-dict old dict.Clear = put place _ refl refl
  left-dict old (dict.CopyTo other) = put other _ refl refl
  left-dict old (dict.Eq other) = same refl
  left-dict old (dict.Iter cursor) = same refl
  left-dict old (dict.KeysAnd other) = same refl
  left-dict old (dict.KeysSub other) = same refl
  left-dict old (dict.KeysOr other) = same refl
  left-dict old (dict.KeysXor other) = same refl
  left-dict old (dict.ItemsHas key value) = same refl
  left-dict old (dict.Reversed cursor) = same refl

  left-list : (items : List Value) (c : ListCall) → Left world (changed_by (call.List place c)) (answer_list world hands place items c).world
  left-list items (list.Append value) = put place _ refl refl
  left-list items (list.Insert index value) = put place _ refl refl
  left-list items (list.Get index) = found world _ _ (index_in (length items) index) _ (λ v. same refl) (same refl)
  left-list items (list.Set index value) = found world _ _ (index_in (length items) index) _ (λ v. put place _ refl refl) (same refl)
  left-list items (list.Del index) = found world _ _ (index_in (length items) index) _ (λ v. put place _ refl refl) (same refl)
  left-list items (list.Pop index) = found world _ _ (index_in (length items) (unwrap_or index (negsuc 0))) _ (λ v. put place _ refl refl) (same refl)
  left-list items (list.Remove value) = found world _ _ (index_of items value) _ (λ v. put place _ refl refl) (same refl)
  left-list items (list.Index value) = found world _ _ (index_of items value) _ (λ v. same refl) (same refl)
  left-list items (list.Count value) = same refl
  left-list items (list.Has value) = same refl
  left-list items list.Reverse = put place _ refl refl
  left-list items (list.Extend other) = put place _ refl refl
  left-list items (list.Slice start end) = same refl
  left-list items list.Clear = put place _ refl refl
  left-list items list.Len = same refl
  left-list items list.Items = same refl
  left-list items (list.Eq other) = same refl
  left-list items (list.Iter cursor) = same refl
  left-list items (list.Reversed cursor) = same refl

  left-set : (old : SetContent) (c : SetCall) → Left world (changed_by (call.Set place c)) (answer_set world hands place old c).world
  left-set old (set_call.Add key) = put place _ refl refl
  left-set old (set_call.Discard key) = put place _ refl refl
  left-set old (set_call.Remove key) = either world _ (has_element old.elements key) _ _ (put place _ refl refl) (same refl)
  left-set old set_call.Pop = found world _ _ (slice_get old.elements 0) _ (λ v. put place _ refl refl) (same refl)
  left-set old (set_call.Has key) = same refl
  left-set old set_call.Len = same refl
  left-set old set_call.Items = same refl
  left-set old (set_call.Eq other) = same refl
  left-set old (set_call.Or other) = put place _ refl refl
  left-set old (set_call.And other) = put place _ refl refl
  left-set old (set_call.Sub other) = put place _ refl refl
  left-set old (set_call.Xor other) = put place _ refl refl
  left-set old (set_call.Subset other) = same refl
  left-set old (set_call.Disjoint other) = same refl
  left-set old set_call.Clear = put place _ refl refl
  left-set old (set_call.Iter cursor) = same refl

  left-deque : (old : DequeContent) (c : DequeCall) → Left world (changed_by (call.Deque place c)) (answer_deque world hands place old c).world
  left-deque old (deque.Append value) = put place _ refl refl
  left-deque old (deque.AppendLeft value) = put place _ refl refl
  left-deque old deque.Pop = found world _ _ (last_item old.items) _ (λ v. put place _ refl refl) (same refl)
  left-deque old deque.PopLeft = found world _ _ (first_item old.items) _ (λ v. put place _ refl refl) (same refl)
  left-deque old (deque.Extend other) = put place _ refl refl
  left-deque old (deque.ExtendLeft other) = put place _ refl refl
  left-deque old (deque.Rotate steps) = put place _ refl refl
  left-deque old deque.Clear = put place _ refl refl
  left-deque old (deque.Get index) = found world _ _ (deque_get old.items index) _ (λ v. same refl) (same refl)
  left-deque old deque.Len = same refl
  left-deque old deque.Items = same refl
  left-deque old (deque.Has value) = same refl
  left-deque old (deque.Iter cursor) = same refl

left-world : (world : WorldContent) (hands : HandsContent) (called : Call) → Left world (changed_by called) (answer world hands called).world
left-world world hands (call.Dict place c) = left-dict world hands place (dict_at world place) c
left-world world hands (call.List place c) = left-list world hands place (list_at world place) c
left-world world hands (call.Set place c) = left-set world hands place (set_at world place) c
left-world world hands (call.Deque place c) = left-deque world hands place (deque_at world place) c
left-world world hands (call.Next number) = found world None _ (cursor_at hands number) _ (λ cursor. same refl) (same refl)
left-world world hands (call.Begin first second) = same refl
left-world world hands call.End = same refl
left-world world hands call.Quiesce = same refl
left-world world hands (call.Await thread index) = same refl
left-world world hands call.Dump = same refl

-- ---- tables

pick : (tables : List TableUse) (changed : Option ℕ) (b : Bool) (one other : List TableUse) → Left tables changed one → Left tables changed other → Left tables changed (if b then one else other)
pick tables changed true one other first second = first
pick tables changed false one other first second = second

module _ (old new : WorldContent) (tables : List TableUse) (place : ℕ) (takes : Option ℕ) where
  -- whether the dict is split, and whether it is no longer after a call
  abbrev split : Bool
  split = is_split (table_at tables place).keys

  abbrev ends : DictCall → Bool
  ends c = ends_split (table_at tables place).keys c (dict_at old place) (dict_at new place)

  left-dict-tables : (c : DictCall) → Left tables (changed_by (call.Dict place c)) (leaves_tables old new tables (call.Dict place c) takes)
  left-dict-tables (dict.Get key) = pick tables _ split _ _ (same refl) (same refl)
  left-dict-tables (dict.GetOr key default) = pick tables _ split _ _ (same refl) (same refl)
  left-dict-tables (dict.Set key value) = pick tables _ split _ _ (pick tables _ (ends (dict.Set key value)) _ _ (put place _ refl refl) (same refl)) (put place _ refl refl)
  left-dict-tables (dict.Del key) = pick tables _ split _ _ (pick tables _ (ends (dict.Del key)) _ _ (put place _ refl refl) (same refl)) (same refl)
  left-dict-tables (dict.Pop key) = pick tables _ split _ _ (pick tables _ (ends (dict.Pop key)) _ _ (put place _ refl refl) (same refl)) (same refl)
  left-dict-tables (dict.PopOr key default) = pick tables _ split _ _ (pick tables _ (ends (dict.PopOr key default)) _ _ (put place _ refl refl) (same refl)) (same refl)
  left-dict-tables dict.PopItem = pick tables _ split _ _ (pick tables _ (ends dict.PopItem) _ _ (put place _ refl refl) (same refl)) (same refl)
  left-dict-tables (dict.SetDefault key default) = pick tables _ split _ _ (pick tables _ (ends (dict.SetDefault key default)) _ _ (put place _ refl refl) (same refl)) (put place _ refl refl)
  left-dict-tables (dict.Has key) = pick tables _ split _ _ (same refl) (same refl)
  left-dict-tables dict.Len = pick tables _ split _ _ (same refl) (same refl)
  left-dict-tables dict.Items = pick tables _ split _ _ (same refl) (same refl)
  left-dict-tables (dict.Update other) = pick tables _ split _ _ (pick tables _ (ends (dict.Update other)) _ _ (put place _ refl refl) (same refl)) (put place _ refl refl)
  left-dict-tables dict.Clear = pick tables _ split _ _ (put place _ refl refl) (put place _ refl refl)
  left-dict-tables (dict.CopyTo other) = pick tables _ split _ _ (put other _ refl refl) (put other _ refl refl)
  left-dict-tables (dict.Eq other) = pick tables _ split _ _ (same refl) (same refl)
  left-dict-tables (dict.Iter cursor) = pick tables _ split _ _ (same refl) (same refl)
  left-dict-tables (dict.KeysAnd other) = pick tables _ split _ _ (same refl) (same refl)
  left-dict-tables (dict.KeysSub other) = pick tables _ split _ _ (same refl) (same refl)
  left-dict-tables (dict.KeysOr other) = pick tables _ split _ _ (same refl) (same refl)
  left-dict-tables (dict.KeysXor other) = pick tables _ split _ _ (same refl) (same refl)
  left-dict-tables (dict.ItemsHas key value) = pick tables _ split _ _ (same refl) (same refl)
  left-dict-tables (dict.Reversed cursor) = pick tables _ split _ _ (same refl) (same refl)

  left-list-tables : (c : ListCall) → Left tables (changed_by (call.List place c)) (leaves_tables old new tables (call.List place c) takes)
  left-list-tables (list.Append value) = put place _ refl refl
  left-list-tables (list.Insert index value) = put place _ refl refl
  left-list-tables (list.Get index) = same refl
  left-list-tables (list.Set index value) = same refl
  left-list-tables (list.Del index) = same refl
  left-list-tables (list.Pop index) = same refl
  left-list-tables (list.Remove value) = same refl
  left-list-tables (list.Index value) = same refl
  left-list-tables (list.Count value) = same refl
  left-list-tables (list.Has value) = same refl
  left-list-tables list.Reverse = same refl
  left-list-tables (list.Extend other) = put place _ refl refl
  left-list-tables (list.Slice start end) = same refl
  left-list-tables list.Clear = put place _ refl refl
  left-list-tables list.Len = same refl
  left-list-tables list.Items = same refl
  left-list-tables (list.Eq other) = same refl
  left-list-tables (list.Iter cursor) = same refl
  left-list-tables (list.Reversed cursor) = same refl

  left-set-tables : (c : SetCall) → Left tables (changed_by (call.Set place c)) (leaves_tables old new tables (call.Set place c) takes)
  left-set-tables (set_call.Add key) = put place _ refl refl
  left-set-tables (set_call.Discard key) = same refl
  left-set-tables (set_call.Remove key) = same refl
  left-set-tables set_call.Pop = same refl
  left-set-tables (set_call.Has key) = same refl
  left-set-tables set_call.Len = same refl
  left-set-tables set_call.Items = same refl
  left-set-tables (set_call.Eq other) = same refl
  left-set-tables (set_call.Or other) = put place _ refl refl
  left-set-tables (set_call.And other) = same refl
  left-set-tables (set_call.Sub other) = same refl
  left-set-tables (set_call.Xor other) = put place _ refl refl
  left-set-tables (set_call.Subset other) = same refl
  left-set-tables (set_call.Disjoint other) = same refl
  left-set-tables set_call.Clear = put place _ refl refl
  left-set-tables (set_call.Iter cursor) = same refl

  left-deque-tables : (c : DequeCall) → Left tables (changed_by (call.Deque place c)) (leaves_tables old new tables (call.Deque place c) takes)
  left-deque-tables (deque.Append value) = put place _ refl refl
  left-deque-tables (deque.AppendLeft value) = put place _ refl refl
  left-deque-tables deque.Pop = same refl
  left-deque-tables deque.PopLeft = same refl
  left-deque-tables (deque.Extend other) = put place _ refl refl
  left-deque-tables (deque.ExtendLeft other) = put place _ refl refl
  left-deque-tables (deque.Rotate steps) = same refl
  left-deque-tables deque.Clear = put place _ refl refl
  left-deque-tables (deque.Get index) = same refl
  left-deque-tables deque.Len = same refl
  left-deque-tables deque.Items = same refl
  left-deque-tables (deque.Has value) = same refl
  left-deque-tables (deque.Iter cursor) = same refl

left-tables : (old new : WorldContent) (tables : List TableUse) (called : Call) (takes : Option ℕ) → Left tables (changed_by called) (leaves_tables old new tables called takes)
left-tables old new tables (call.Dict place c) takes = left-dict-tables old new tables place takes c
left-tables old new tables (call.List place c) takes = left-list-tables old new tables place takes c
left-tables old new tables (call.Set place c) takes = left-set-tables old new tables place takes c
left-tables old new tables (call.Deque place c) takes = left-deque-tables old new tables place takes c
left-tables old new tables (call.Next number) takes = same refl
left-tables old new tables (call.Begin first second) takes = same refl
left-tables old new tables call.End takes = same refl
left-tables old new tables call.Quiesce takes = same refl
left-tables old new tables (call.Await thread index) takes = same refl
left-tables old new tables call.Dump takes = same refl

-- ---- the law

elsewhere : {X : Type 0} (old new : List X) (changed : Option ℕ) → Left old changed new → (place : ℕ) → changed ≢ Some place → slice_get new place ≡ slice_get old place
elsewhere {X = X} old new changed (same is) place other = ap (λ (xs : List X). slice_get xs place) is
elsewhere {X = X} old new changed (put at there is here) place other = ap (λ (xs : List X). slice_get xs place) is ∙ slice_get-other old at place there (λ met. other (here ∙ ap Some (sym met)))

as_long : {X : Type 0} (old new : List X) (changed : Option ℕ) → Left old changed new → length new ≡ length old
as_long old new changed (same is) = ap length is
as_long old new changed (put at there is here) = ap length is ∙ length-set old at there

pub other_contents : (world : WorldContent) (hands : HandsContent) (called : Call) (place : ℕ) → changed_by called ≢ Some place → slice_get (answer world hands called).world place ≡ slice_get world place
other_contents world hands called place other = elsewhere world _ (changed_by called) (left-world world hands called) place other

pub other_tables : (stored : StoredWorld) (called : Call) (place : ℕ) → changed_by called ≢ Some place → slice_get (after_stored stored called).tables place ≡ slice_get stored.tables place
other_tables stored called place other = elsewhere stored.tables _ (changed_by called) (left-tables stored.world (after_write stored.world called) stored.tables called (takes_in stored called)) place other

pub as_many_contents : (world : WorldContent) (hands : HandsContent) (called : Call) → length (answer world hands called).world ≡ length world
as_many_contents world hands called = as_long world _ (changed_by called) (left-world world hands called)

pub as_many_tables : (stored : StoredWorld) (called : Call) → length (after_stored stored called).tables ≡ length stored.tables
as_many_tables stored called = as_long stored.tables _ (changed_by called) (left-tables stored.world (after_write stored.world called) stored.tables called (takes_in stored called))
