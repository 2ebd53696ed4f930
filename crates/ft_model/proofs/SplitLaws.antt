-- What split dicts keep to, and that none becomes split again.
use Rattle.std.proofs.Common.{◌≡◌, ◌↔◌, ℕ, suc, zero, ◌-◌, Bool, true, false, not, List, [], ◌∷◌, ◌++◌, length, take, set, Option, Some, None, refl, sym, ap, subst, ◌∙◌}
use Rattle.std.specs.Prelude.{◌&&◌, fold, slice_get, if◌then◌else◌}
use Rattle.std.proofs.lemmas.Bool.{false≢true, and_parts, not-false}
use Rattle.std.proofs.lemmas.List.{map-append}
use Rattle.ft_model.specs.declared.data.Key.{Key}
use Rattle.ft_model.specs.declared.data.Value.{Value}
use Rattle.ft_model.specs.declared.call.Call.{Call}
use Rattle.ft_model.specs.declared.call.Call.TheVariants as call
use Rattle.ft_model.specs.declared.call.DictCall.{DictCall}
use Rattle.ft_model.specs.declared.call.DictCall.TheVariants as dict
use Rattle.ft_model.specs.declared.call.TableChange.{TableChange}
use Rattle.ft_model.specs.declared.call.TableChange.TheVariants as change
use Rattle.ft_model.specs.declared.content.DictPair.{DictPair}
use Rattle.ft_model.specs.declared.script.Kind.TheVariants as kind
use Rattle.ft_model.specs.Keys.{same_key}
use Rattle.ft_model.specs.Calls.{dict_change, list_change, set_change, deque_change}
use Rattle.ft_model.specs.Contents.{DictContent, has_key, dict_set}
use Rattle.ft_model.specs.Views.{keys_in}
use Rattle.ft_model.specs.Worlds.{WorldContent, IsOfKind, dict_at, set_at}
use Rattle.ft_model.specs.Answers.{after_write}
use Rattle.ft_model.specs.TableUses.{TableUse, StoredWorld, no_table, table_at, is_split, are_first, ends_split, combined_table, split_leaves, copy_leaves, change_leaves, grown_table, takes_in, leaves_tables, after_stored}
use Rattle.ft_model.specs.TablesInOrder.{IsSplitOver, IsDictTable, IsTableFor, AreTablesInOrder}
use Rattle.ft_model.proofs.KeyLemmas.{same_key-true, same_key-refl}
use Rattle.ft_model.proofs.TableOrder.{dict_stands, copied-keys}

-- ---- the first of the keys

first_taken : (own keys : List Key) → are_first own keys ≡ true → own ≡ take (length own) keys
first_taken [] [] first = refl
first_taken [] (key ∷ keys) first = refl
first_taken (own ∷ rest) [] first = absurd (false≢true first)
first_taken (own ∷ rest) (key ∷ keys) first =
    let parts = and_parts (same_key own key) (are_first rest keys) first in
    ap (λ (k : Key). k ∷ rest) (same_key-true own key parts.0) ∙ ap (λ (ks : List Key). key ∷ ks) (first_taken rest keys parts.1)

-- of tables in order
pub split_in_order : (stored : StoredWorld) (place : ℕ) → AreTablesInOrder stored → IsOfKind stored.world kind.Dict place → is_split (table_at stored.tables place).keys ≡ true → IsSplitOver (table_at stored.tables place).keys (dict_at stored.world place) (table_at stored.tables place)
split_in_order stored place old of_kind split =
    by (table_at stored.tables place).keys split (subst (λ there. IsTableFor there (table_at stored.tables place)) (dict_stands stored.world place of_kind) (old.each place))
  where
    by : (keys : List Key) → is_split keys ≡ true → IsDictTable keys (dict_at stored.world place) (table_at stored.tables place) → IsSplitOver keys (dict_at stored.world place) (table_at stored.tables place)
    by [] split is = absurd (false≢true split)
    by (key ∷ keys) split is = is

pub split_first : (stored : StoredWorld) (place : ℕ) → AreTablesInOrder stored → IsOfKind stored.world kind.Dict place → is_split (table_at stored.tables place).keys ≡ true → keys_in (dict_at stored.world place).pairs ≡ take (length (keys_in (dict_at stored.world place).pairs)) (table_at stored.tables place).keys
split_first stored place old of_kind split = first_taken (keys_in (dict_at stored.world place).pairs) (table_at stored.tables place).keys (split_in_order stored place old of_kind split).first

-- one key more is the next of the keys where all are their first
next_key : (own keys : List Key) (key : Key) → are_first own keys ≡ true → (are_first (own ++ key ∷ []) keys ≡ true) ↔ (slice_get keys (length own) ≡ Some key)
next_key [] [] key first = (λ is. absurd (false≢true is), λ is. absurd (let none : None ≡ Some key = is in cc))
next_key [] (next ∷ keys) key first = (
  λ is. ap Some (sym (same_key-true key next (and_parts (same_key key next) true is).0)),
  λ is. let same : next ≡ key = let some : Some next ≡ Some key = is in cc in ap (λ (k : Key). same_key key k && true) same ∙ simp (same_key-refl key) refl,
)
next_key (mine ∷ own) [] key first = absurd (false≢true first)
next_key (mine ∷ own) (next ∷ keys) key first =
    let parts = and_parts (same_key mine next) (are_first own keys) first in
    let rest = next_key own keys key parts.1 in (
      λ is. rest.0 (and_parts (same_key mine next) (are_first (own ++ key ∷ []) keys) is).1,
      λ is. simp parts.0 (rest.1 is),
    )

added_keys : (old : DictContent) (key : Key) (value : Value) → has_key old.pairs key ≡ false → keys_in (dict_set old key value).pairs ≡ keys_in old.pairs ++ key ∷ []
added_keys old key value new = simp new (map-append (λ (p : DictPair). p.key) old.pairs (record { serial = old.next; key = key; value = value } ∷ []))

-- a new key leaves a dict split exactly where it is the next of its keys
pub next_stays : (keys : List Key) (old : DictContent) (key : Key) (value : Value) → are_first (keys_in old.pairs) keys ≡ true → has_key old.pairs key ≡ false → (ends_split keys (dict.Set key value) old (dict_set old key value) ≡ false) ↔ (slice_get keys (length (keys_in old.pairs)) ≡ Some key)
next_stays keys old key value first new =
    let more = added_keys old key value new in
    let next = next_key (keys_in old.pairs) keys key first in (
      λ stays. next.0 (ap (λ (ks : List Key). are_first ks keys) (sym more) ∙ not-false _ stays),
      λ is. ap not (ap (λ (ks : List Key). are_first ks keys) more ∙ next.1 is),
    )

-- ---- never again

-- where a dict had no keys to share it has none
abbrev KeepsNone : List TableUse → List TableUse → Type 0
KeepsNone old new = (place : ℕ) → (table_at old place).keys ≡ [] → (table_at new place).keys ≡ []

put_none : (tables : List TableUse) (at : ℕ) (table : TableUse) → ((table_at tables at).keys ≡ [] → table.keys ≡ []) → KeepsNone tables (set tables at table)
put_none [] at table keeps place none = none
put_none (first ∷ tables) zero table keeps zero none = keeps none
put_none (first ∷ tables) zero table keeps (suc place) none = none
put_none (first ∷ tables) (suc at) table keeps zero none = none
put_none (first ∷ tables) (suc at) table keeps (suc place) none = put_none tables at table keeps place none

grown_none : (table : TableUse) (takes : Option ℕ) (added count : ℕ) → table.keys ≡ [] → (grown_table table takes added count).keys ≡ []
grown_none table None added count none = none
grown_none table (Some class) added count none = refl

combined_none : (takes : Option ℕ) (new : DictContent) → (combined_table takes new).keys ≡ []
combined_none None new = refl
combined_none (Some class) new = refl

change_none : (tables : List TableUse) (place : ℕ) (t : TableChange) (takes : Option ℕ) (added count copied : ℕ) → KeepsNone tables (change_leaves tables place t (grown_table (table_at tables place) takes added count) (copy_leaves copied))
change_none tables place change.Stays takes added count copied = λ at none. none
change_none tables place change.Grows takes added count copied = put_none tables place (grown_table (table_at tables place) takes added count) (grown_none (table_at tables place) takes added count)
change_none tables place (change.CopiesTo other) takes added count copied = put_none tables other (copy_leaves copied) (λ none. copied-keys copied)
change_none tables place change.GivesUp takes added count copied = put_none tables place no_table (λ none. refl)

change_items : (tables : List TableUse) (place : ℕ) (t : TableChange) (takes : Option ℕ) (added count : ℕ) → KeepsNone tables (change_leaves tables place t (grown_table (table_at tables place) takes added count) no_table)
change_items tables place change.Stays takes added count = λ at none. none
change_items tables place change.Grows takes added count = put_none tables place (grown_table (table_at tables place) takes added count) (grown_none (table_at tables place) takes added count)
change_items tables place (change.CopiesTo other) takes added count = put_none tables other no_table (λ none. refl)
change_items tables place change.GivesUp takes added count = put_none tables place no_table (λ none. refl)

either_none : (old : List TableUse) (b : Bool) (one other : List TableUse) → KeepsNone old one → KeepsNone old other → KeepsNone old (if b then one else other)
either_none old true one other first second = first
either_none old false one other first second = second

split_none : (tables : List TableUse) (place : ℕ) (c : DictCall) (old new : DictContent) (takes : Option ℕ) → KeepsNone tables (split_leaves tables place c old new takes)
split_none tables place (dict.CopyTo other) old new takes = put_none tables other (copy_leaves (length old.pairs)) (λ none. copied-keys (length old.pairs))
split_none tables place (dict.Get key) old new takes = λ at none. none
split_none tables place (dict.GetOr key default) old new takes = λ at none. none
split_none tables place (dict.Set key value) old new takes = either_none tables (ends_split (table_at tables place).keys (dict.Set key value) old new) _ _ (put_none tables place (combined_table takes new) (λ none. combined_none takes new)) (λ at none. none)
split_none tables place (dict.Del key) old new takes = either_none tables (ends_split (table_at tables place).keys (dict.Del key) old new) _ _ (put_none tables place (combined_table takes new) (λ none. combined_none takes new)) (λ at none. none)
split_none tables place (dict.Pop key) old new takes = either_none tables (ends_split (table_at tables place).keys (dict.Pop key) old new) _ _ (put_none tables place (combined_table takes new) (λ none. combined_none takes new)) (λ at none. none)
split_none tables place (dict.PopOr key default) old new takes = either_none tables (ends_split (table_at tables place).keys (dict.PopOr key default) old new) _ _ (put_none tables place (combined_table takes new) (λ none. combined_none takes new)) (λ at none. none)
split_none tables place dict.PopItem old new takes = either_none tables (ends_split (table_at tables place).keys dict.PopItem old new) _ _ (put_none tables place (combined_table takes new) (λ none. combined_none takes new)) (λ at none. none)
split_none tables place (dict.SetDefault key default) old new takes = either_none tables (ends_split (table_at tables place).keys (dict.SetDefault key default) old new) _ _ (put_none tables place (combined_table takes new) (λ none. combined_none takes new)) (λ at none. none)
split_none tables place (dict.Has key) old new takes = λ at none. none
split_none tables place dict.Len old new takes = λ at none. none
split_none tables place dict.Items old new takes = λ at none. none
split_none tables place (dict.Update other) old new takes = either_none tables (ends_split (table_at tables place).keys (dict.Update other) old new) _ _ (put_none tables place (combined_table takes new) (λ none. combined_none takes new)) (λ at none. none)
split_none tables place dict.Clear old new takes = put_none tables place (combined_table takes new) (λ none. combined_none takes new)
split_none tables place (dict.Eq other) old new takes = λ at none. none
split_none tables place (dict.Iter cursor) old new takes = λ at none. none
split_none tables place (dict.KeysAnd other) old new takes = λ at none. none
split_none tables place (dict.KeysSub other) old new takes = λ at none. none
split_none tables place (dict.KeysOr other) old new takes = λ at none. none
split_none tables place (dict.KeysXor other) old new takes = λ at none. none
split_none tables place (dict.ItemsHas key value) old new takes = λ at none. none
split_none tables place (dict.Reversed cursor) old new takes = λ at none. none

leaves_none : (old new : WorldContent) (tables : List TableUse) (called : Call) (takes : Option ℕ) → KeepsNone tables (leaves_tables old new tables called takes)
leaves_none old new tables (call.Dict place c) takes =
    let before = dict_at old place in
    let after = dict_at new place in
    either_none tables (is_split (table_at tables place).keys) _ _ (split_none tables place c before after takes) (change_none tables place (dict_change c) takes (after.next - before.next) (length after.pairs) (length before.pairs))
leaves_none old new tables (call.List place c) takes = change_items tables place (list_change c) takes 0 0
leaves_none old new tables (call.Set place c) takes = change_items tables place (set_change c) takes ((set_at new place).next - (set_at old place).next) (length (set_at new place).elements)
leaves_none old new tables (call.Deque place c) takes = change_items tables place (deque_change c) takes 0 0
leaves_none old new tables (call.Next cursor) takes = λ at none. none
leaves_none old new tables (call.Begin first second) takes = λ at none. none
leaves_none old new tables call.End takes = λ at none. none
leaves_none old new tables call.Quiesce takes = λ at none. none
leaves_none old new tables (call.Await thread index) takes = λ at none. none
leaves_none old new tables call.Dump takes = λ at none. none

pub never_again : (calls : List Call) (stored : StoredWorld) (place : ℕ) → (table_at stored.tables place).keys ≡ [] → (table_at (fold after_stored stored calls).tables place).keys ≡ []
never_again [] stored place none = none
never_again (called ∷ calls) stored place none = never_again calls (after_stored stored called) place (leaves_none stored.world (after_write stored.world called) stored.tables called (takes_in stored called) place none)
