-- What a write leaves of the table of the container that it changes, and of how many containers have a table of a class.
use Rattle.std.proofs.Common.{◌≡◌, ◌≢◌, ℕ, ◌+◌, ◌-◌, ◌<◌, Bool, true, false, List, [], ◌∷◌, length, get_or, set, Option, Some, None, refl, sym, ap, subst, ◌∙◌, arith, cond, inl, inr}
use Rattle.std.specs.Prelude.{◌⊎◌, Contains, ◌==◌, fold, slice_get, if◌then◌else◌}
use Rattle.std.specs.Option.{option_map_or}
use Rattle.std.specs.List.{count_by}
use Rattle.std.proofs.lemmas.Bool.{cases_eq, true≢false}
use Rattle.std.proofs.lemmas.Bool.Decides.{eqb_tells}
use Rattle.std.proofs.lemmas.List.{get_or-set_same, get_or-set_other, get_or_default, length-map, length-set, same_lists}
use Rattle.std.proofs.lemmas.List.Elements.{All-contains}
use Rattle.std.proofs.lemmas.List.Sums.{sum_by-set}
use Rattle.std.proofs.lemmas.Option.{none-some, slice_get-get_or}
use Rattle.ft_model.specs.declared.call.Call.{Call}
use Rattle.ft_model.specs.declared.call.Call.TheVariants as call
use Rattle.ft_model.specs.declared.call.DictCall.{DictCall}
use Rattle.ft_model.specs.declared.call.DictCall.TheVariants as dict
use Rattle.ft_model.specs.declared.call.ListCall.{ListCall}
use Rattle.ft_model.specs.declared.call.ListCall.TheVariants as list
use Rattle.ft_model.specs.declared.call.SetCall.{SetCall}
use Rattle.ft_model.specs.declared.call.SetCall.TheVariants as set_call
use Rattle.ft_model.specs.declared.call.DequeCall.{DequeCall}
use Rattle.ft_model.specs.declared.call.DequeCall.TheVariants as deque
use Rattle.ft_model.specs.declared.call.TableChange.{TableChange}
use Rattle.ft_model.specs.declared.call.TableChange.TheVariants as change
use Rattle.ft_model.specs.declared.script.Declaration.{Declaration}
use Rattle.ft_model.specs.declared.script.ScriptParts.{ScriptParts}
use Rattle.ft_model.specs.Answers.{after_write}
use Rattle.ft_model.specs.Calls.{is_changing, is_changing_dict, is_changing_list, is_changing_set, is_changing_deque, dict_change, list_change, set_change, deque_change, containers_of, one_or_two, other_list, other_set, other_deque}
use Rattle.ft_model.specs.Contents.{DictContent}
use Rattle.ft_model.specs.Scripts.{NamesOf}
use Rattle.ft_model.specs.TablesInOrder.{changed_dict, changed_by}
use Rattle.ft_model.specs.TableUses.{TableUse, StoredWorld, after_stored, change_leaves, change_takes, combined_table, copy_leaves, copy_takes, dict_call_leaves, dict_call_takes, dict_takes, ends_split, grown_table, is_class, is_split, leaving_takes, list_takes, no_table, set_takes, split_leaves, split_takes, start_table, stored_after, empty_stored, table_at, taken, takes_in}
use Rattle.ft_model.specs.Worlds.{starts_of, dict_at, set_at, list_at, deque_at}
use Rattle.ft_model.proofs.Untouched.{other_tables, as_many_tables}
use Rattle.ft_history.proofs.ScriptLemmas.{named_within}
use Rattle.ft_ledger.specs.Ledgers.{class_had}

-- ---- what a write leaves of the table of its container

-- the class of the table that a container has after a write: that which the write takes, or the old one or none
pub record LeavesClass (takes before after : Option ℕ) : Type 0 where
  pub taken : (class : ℕ) → takes ≡ Some class → after ≡ Some class
  pub not_taken : takes ≡ None → (after ≡ before) ⊎ (after ≡ None)

abbrev class_at : List TableUse → ℕ → Option ℕ
class_at tables place = (table_at tables place).class

leaves_taken : (takes before after : Option ℕ) → after ≡ takes → LeavesClass takes before after
leaves_taken takes before after same = record { taken = λ class is. same ∙ is; not_taken = λ is. inr (same ∙ is) }

leaves_old : (before : Option ℕ) → LeavesClass None before before
leaves_old before = record { taken = λ class is. absurd (none-some class is); not_taken = λ is. inl refl }

grown_leaves : (table : TableUse) (takes : Option ℕ) (added count : ℕ) → LeavesClass takes table.class (grown_table table takes added count).class
grown_leaves table None added count = leaves_old table.class
grown_leaves table (Some class) added count = leaves_taken (Some class) table.class (Some class) refl

copied_class : (count : ℕ) → (copy_leaves count).class ≡ copy_takes count
copied_class count = elim (copy_takes count) as (λ o. (option_map_or (λ class. taken class count) o no_table).class ≡ o) [ None ↦ refl | Some class ↦ refl ]

combined_class : (takes : Option ℕ) (new : DictContent) → (combined_table takes new).class ≡ takes
combined_class None new = refl
combined_class (Some class) new = refl

set_class : (tables : List TableUse) (place : ℕ) (table : TableUse) → place < length tables → class_at (set tables place table) place ≡ table.class
set_class tables place table low = ap (λ (t : TableUse). t.class) (get_or-set_same tables place table no_table low)

-- a call of a container that does this to tables
change_class : (tables : List TableUse) (place : ℕ) (changes : TableChange) (grown copied : Option ℕ) (copy : TableUse) (added count : ℕ) → copy.class ≡ copied → changed_dict place changes < length tables
    → LeavesClass (change_takes changes grown copied) (class_at tables (changed_dict place changes)) (class_at (change_leaves tables place changes (grown_table (table_at tables place) (change_takes changes grown copied) added count) copy) (changed_dict place changes))
change_class tables place change.Stays grown copied copy added count same low = leaves_old (class_at tables place)
change_class tables place change.Grows grown copied copy added count same low =
    subst (LeavesClass grown (class_at tables place)) (sym (set_class tables place (grown_table (table_at tables place) grown added count) low)) (grown_leaves (table_at tables place) grown added count)
change_class tables place (change.CopiesTo other) grown copied copy added count same low = leaves_taken copied (class_at tables other) (class_at (set tables other copy) other) (set_class tables other copy low ∙ same)
change_class tables place change.GivesUp grown copied copy added count same low = leaves_taken None (class_at tables place) (class_at (set tables place no_table) place) (set_class tables place no_table low)

-- a call of a dict that is split, but for a copy
own_split : (ends : Bool) (tables : List TableUse) (place : ℕ) (new : DictContent) → place < length tables
    → LeavesClass (if ends then leaving_takes new else None) (class_at tables place) (class_at (if ends then set tables place (combined_table (if ends then leaving_takes new else None) new) else tables) place)
own_split true tables place new low = leaves_taken (leaving_takes new) (class_at tables place) (class_at (set tables place (combined_table (leaving_takes new) new)) place) (set_class tables place (combined_table (leaving_takes new) new) low ∙ combined_class (leaving_takes new) new)
own_split false tables place new low = leaves_old (class_at tables place)

split_class : (tables : List TableUse) (place : ℕ) (called : DictCall) (old new : DictContent) → changed_dict place (dict_change called) < length tables
    → LeavesClass (split_takes (table_at tables place).keys called old new) (class_at tables (changed_dict place (dict_change called))) (class_at (split_leaves tables place called old new (split_takes (table_at tables place).keys called old new)) (changed_dict place (dict_change called)))
split_class tables place (dict.CopyTo other) old new low =
    leaves_taken (copy_takes (length old.pairs)) (class_at tables other) (class_at (set tables other (copy_leaves (length old.pairs))) other) (set_class tables other (copy_leaves (length old.pairs)) low ∙ copied_class (length old.pairs))
split_class tables place called old new low = own_split (ends_split (table_at tables place).keys called old new) tables place new low

dict_class : (tables : List TableUse) (place : ℕ) (called : DictCall) (old new : DictContent) → changed_dict place (dict_change called) < length tables
    → LeavesClass (dict_call_takes (table_at tables place) called old new) (class_at tables (changed_dict place (dict_change called))) (class_at (dict_call_leaves tables place called old new (dict_call_takes (table_at tables place) called old new)) (changed_dict place (dict_change called)))
dict_class tables place called old new low =
    let T = table_at tables place in
    let split = split_takes T.keys called old new in
    let whole = change_takes (dict_change called) (dict_takes T old new) (copy_takes (length old.pairs)) in
    elim (is_split T.keys) as (λ b.
    LeavesClass (if b then split else whole) (class_at tables (changed_dict place (dict_change called)))
    (class_at (if b then split_leaves tables place called old new (if b then split else whole)
    else change_leaves tables place (dict_change called) (grown_table T (if b then split else whole) (new.next - old.next) (length new.pairs)) (copy_leaves (length old.pairs))) (changed_dict place (dict_change called)))) [
      | true ↦ split_class tables place called old new low
      | false ↦ change_class tables place (dict_change called) (dict_takes T old new) (copy_takes (length old.pairs)) (copy_leaves (length old.pairs)) (new.next - old.next) (length new.pairs) (copied_class (length old.pairs)) low
    ]

-- ---- only calls of a changing kind take tables

never : (b : Bool) → cond {A = Option ℕ} b None None ≡ None
never true = refl
never false = refl

dict_takes_none : (table : TableUse) (called : DictCall) (old new : DictContent) → is_changing_dict called ≡ false → dict_call_takes table called old new ≡ None
dict_takes_none table (dict.Set key value) old new not_changing = absurd (true≢false not_changing)
dict_takes_none table (dict.Del key) old new not_changing = absurd (true≢false not_changing)
dict_takes_none table (dict.Pop key) old new not_changing = absurd (true≢false not_changing)
dict_takes_none table (dict.PopOr key default) old new not_changing = absurd (true≢false not_changing)
dict_takes_none table dict.PopItem old new not_changing = absurd (true≢false not_changing)
dict_takes_none table (dict.SetDefault key default) old new not_changing = absurd (true≢false not_changing)
dict_takes_none table (dict.Update other) old new not_changing = absurd (true≢false not_changing)
dict_takes_none table dict.Clear old new not_changing = absurd (true≢false not_changing)
dict_takes_none table (dict.CopyTo other) old new not_changing = absurd (true≢false not_changing)
dict_takes_none table _ old new not_changing = never (is_split table.keys)

list_takes_none : (called : ListCall) (grown : Option ℕ) → is_changing_list called ≡ false → change_takes (list_change called) grown None ≡ None
list_takes_none (list.Append value) grown not_changing = absurd (true≢false not_changing)
list_takes_none (list.Insert index value) grown not_changing = absurd (true≢false not_changing)
list_takes_none (list.Extend other) grown not_changing = absurd (true≢false not_changing)
list_takes_none _ grown not_changing = refl

set_takes_none : (called : SetCall) (grown : Option ℕ) → is_changing_set called ≡ false → change_takes (set_change called) grown None ≡ None
set_takes_none (set_call.Add key) grown not_changing = absurd (true≢false not_changing)
set_takes_none (set_call.Or other) grown not_changing = absurd (true≢false not_changing)
set_takes_none (set_call.Xor other) grown not_changing = absurd (true≢false not_changing)
set_takes_none _ grown not_changing = refl

deque_takes_none : (called : DequeCall) (grown : Option ℕ) → is_changing_deque called ≡ false → change_takes (deque_change called) grown None ≡ None
deque_takes_none (deque.Append value) grown not_changing = absurd (true≢false not_changing)
deque_takes_none (deque.AppendLeft value) grown not_changing = absurd (true≢false not_changing)
deque_takes_none (deque.Extend other) grown not_changing = absurd (true≢false not_changing)
deque_takes_none (deque.ExtendLeft other) grown not_changing = absurd (true≢false not_changing)
deque_takes_none _ grown not_changing = refl

pub takes_none : (stored : StoredWorld) (called : Call) → is_changing called ≡ false → takes_in stored called ≡ None
takes_none stored (call.Dict place c) not_changing = dict_takes_none (table_at stored.tables place) c (dict_at stored.world place) (dict_at (after_write stored.world (call.Dict place c)) place) not_changing
takes_none stored (call.List place c) not_changing = list_takes_none c (list_takes (table_at stored.tables place) (length (list_at (after_write stored.world (call.List place c)) place))) not_changing
takes_none stored (call.Set place c) not_changing = set_takes_none c (set_takes (table_at stored.tables place) (set_at stored.world place) (set_at (after_write stored.world (call.Set place c)) place)) not_changing
takes_none stored (call.Deque place c) not_changing = deque_takes_none c (list_takes (table_at stored.tables place) (length (deque_at (after_write stored.world (call.Deque place c)) place).items)) not_changing
takes_none stored _ not_changing = refl

-- ---- the table of the container that a call changes

own_list : (place : ℕ) (called : ListCall) → changed_dict place (list_change called) ≡ place
own_list place (list.Append value) = refl
own_list place _ = refl

own_set : (place : ℕ) (called : SetCall) → changed_dict place (set_change called) ≡ place
own_set place (set_call.Add key) = refl
own_set place _ = refl

own_deque : (place : ℕ) (called : DequeCall) → changed_dict place (deque_change called) ≡ place
own_deque place (deque.Append value) = refl
own_deque place _ = refl

-- of a call that changes the container at a place, where it is of a changing kind
by_kind : (changing : Bool) (place : ℕ) (takes : Option ℕ) (before after : List TableUse) → (changing ≡ false → takes ≡ None) → (changing ≡ true → LeavesClass takes (class_at before place) (class_at after place))
    → LeavesClass takes (option_map_or (class_at before) (if changing then Some place else None) None) (option_map_or (class_at after) (if changing then Some place else None) None)
by_kind true place takes before after none some = some refl
by_kind false place takes before after none some = subst (λ t. LeavesClass t None None) (sym (none refl)) (leaves_old None)

-- the container that a call changes has room for a table
abbrev pub ChangesWithin : List TableUse → Call → Type 0
ChangesWithin tables called = (place : ℕ) → changed_by called ≡ Some place → place < length tables

within_kind : (changing : Bool) (place count : ℕ) → ((at : ℕ) → (if changing then Some place else None) ≡ Some at → at < count) → changing ≡ true → place < count
within_kind changing place count within is = within place (ap (λ b. if b then Some place else None) is)

pub leaves_class : (stored : StoredWorld) (called : Call) → ChangesWithin stored.tables called → LeavesClass (takes_in stored called) (class_had stored.tables called) (class_had (after_stored stored called).tables called)
leaves_class stored (call.Dict place c) within =
    let old = dict_at stored.world place in
    let new = dict_at (after_write stored.world (call.Dict place c)) place in
    by_kind (is_changing_dict c) (changed_dict place (dict_change c)) (dict_call_takes (table_at stored.tables place) c old new) stored.tables (after_stored stored (call.Dict place c)).tables
    (dict_takes_none (table_at stored.tables place) c old new)
    (λ is. dict_class stored.tables place c old new (within_kind (is_changing_dict c) (changed_dict place (dict_change c)) (length stored.tables) within is))
leaves_class stored (call.List place c) within =
    let grown = list_takes (table_at stored.tables place) (length (list_at (after_write stored.world (call.List place c)) place)) in
    let takes = change_takes (list_change c) grown None in
    by_kind (is_changing_list c) place takes stored.tables (after_stored stored (call.List place c)).tables (list_takes_none c grown)
    (λ is. subst (λ p. LeavesClass takes (class_at stored.tables p) (class_at (after_stored stored (call.List place c)).tables p)) (own_list place c)
    (change_class stored.tables place (list_change c) grown None no_table 0 0 refl (subst (λ p. p < length stored.tables) (sym (own_list place c)) (within_kind (is_changing_list c) place (length stored.tables) within is))))
leaves_class stored (call.Set place c) within =
    let old = set_at stored.world place in
    let new = set_at (after_write stored.world (call.Set place c)) place in
    let grown = set_takes (table_at stored.tables place) old new in
    let takes = change_takes (set_change c) grown None in
    by_kind (is_changing_set c) place takes stored.tables (after_stored stored (call.Set place c)).tables (set_takes_none c grown)
    (λ is. subst (λ p. LeavesClass takes (class_at stored.tables p) (class_at (after_stored stored (call.Set place c)).tables p)) (own_set place c)
    (change_class stored.tables place (set_change c) grown None no_table (new.next - old.next) (length new.elements) refl (subst (λ p. p < length stored.tables) (sym (own_set place c)) (within_kind (is_changing_set c) place (length stored.tables) within is))))
leaves_class stored (call.Deque place c) within =
    let grown = list_takes (table_at stored.tables place) (length (deque_at (after_write stored.world (call.Deque place c)) place).items) in
    let takes = change_takes (deque_change c) grown None in
    by_kind (is_changing_deque c) place takes stored.tables (after_stored stored (call.Deque place c)).tables (deque_takes_none c grown)
    (λ is. subst (λ p. LeavesClass takes (class_at stored.tables p) (class_at (after_stored stored (call.Deque place c)).tables p)) (own_deque place c)
    (change_class stored.tables place (deque_change c) grown None no_table 0 0 refl (subst (λ p. p < length stored.tables) (sym (own_deque place c)) (within_kind (is_changing_deque c) place (length stored.tables) within is))))
leaves_class stored _ within = leaves_old None

-- ---- how many containers have a table of a class

-- 1 where the class is the one that is taken
abbrev pub once : ℕ → Option ℕ → ℕ
once class taking = cond (is_class class taking) 1 0

abbrev pub having : ℕ → List TableUse → ℕ
having class tables = count_by (λ (table : TableUse). is_class class table.class) tables

module _ {X : Type 0} (xs ys : List X) (long : length ys ≡ length xs) where
  same_all : ((k : ℕ) → slice_get ys k ≡ slice_get xs k) → ys ≡ xs
  same_all same =
      same_lists ys xs long (λ k d low.
      let one : Some (get_or ys k d) ≡ Some (get_or xs k d) = sym (slice_get-get_or ys k d low) ∙ same k ∙ slice_get-get_or xs k d (omega arith) in
      cc)

  same_but_one : (place : ℕ) → place < length xs → ((k : ℕ) → k ≢ place → slice_get ys k ≡ slice_get xs k) → (d : X) → set xs place (get_or ys place d) ≡ ys
  same_but_one place low same d =
      let y = get_or ys place d in
      same_lists (set xs place y) ys (length-set xs place y ∙ sym long) (λ k e within.
      let low_k : k < length xs = omega (arith, length-set xs place y) in
      elim (cases_eq k place) [
        | inl here ↦
            ap (λ p. get_or (set xs place y) p e) here ∙ get_or-set_same xs place y e low ∙ get_or_default ys place d e (omega arith) ∙ ap (λ p. get_or ys p e) (sym here)
        | inr other ↦
            let one : Some (get_or xs k e) ≡ Some (get_or ys k e) = sym (slice_get-get_or xs k e low_k) ∙ sym (same k other) ∙ slice_get-get_or ys k e (omega arith) in
            get_or-set_other xs place k y e other ∙ (let equal : get_or xs k e ≡ get_or ys k e = cc in equal)
      ])

pub count_changed : (stored : StoredWorld) (called : Call) (class : ℕ) → ChangesWithin stored.tables called
    → having class (after_stored stored called).tables + once class (class_had stored.tables called) ≡ having class stored.tables + once class (class_had (after_stored stored called).tables called)
count_changed stored called class within =
    let before = stored.tables in
    let after = (after_stored stored called).tables in
    let long = as_many_tables stored called in
    let each = λ (table : TableUse). cond {A = ℕ} (is_class class table.class) 1 0 in
    elim (changed_by called) as (λ o. changed_by called ≡ o → having class after + once class (option_map_or (class_at before) o None) ≡ having class before + once class (option_map_or (class_at after) o None)) [
      | None ↦ λ is.
          ap (λ (tables : List TableUse). having class tables + 0) (same_all before after long (λ k. other_tables stored called k (λ some. none-some k (sym is ∙ some))))
      | Some place ↦ λ is.
          let low = within place is in
          let same = same_but_one before after long place low (λ k other. other_tables stored called k (λ some. other (let both : Some k ≡ Some place = sym some ∙ is in cc))) no_table in
          let sum = sum_by-set each before place (table_at after place) no_table low in
          let list = ap (λ (tables : List TableUse). having class tables) same in
          omega (arith, sum, list)
    ] refl

-- ---- the calls of a script

contains_first : (first : ℕ) (second : Option ℕ) → Contains (one_or_two first second) first
contains_first first None = (0, omega arith, refl)
contains_first first (Some second) = elim (first == second) as (λ b. Contains (if b then first ∷ [] else first ∷ second ∷ []) first) [ true ↦ (0, omega arith, refl) | false ↦ (0, omega arith, refl) ]

contains_second : (first second : ℕ) → Contains (one_or_two first (Some second)) second
contains_second first second =
    elim (eqb_tells first second) [
      | inl same ↦ subst (λ b. Contains (if b then first ∷ [] else first ∷ second ∷ []) second) (sym same.0) (0, omega arith, same.1)
      | inr differ ↦ subst (λ b. Contains (if b then first ∷ [] else first ∷ second ∷ []) second) (sym differ.0) (1, omega arith, refl)
    ]

dict_named : (place : ℕ) (called : DictCall) → Contains (containers_of (call.Dict place called)) (changed_dict place (dict_change called))
dict_named place (dict.CopyTo other) = contains_second place other
dict_named place (dict.Update other) = contains_first place (Some other)
dict_named place (dict.Eq other) = contains_first place (Some other)
dict_named place (dict.KeysAnd other) = contains_first place (Some other)
dict_named place (dict.KeysSub other) = contains_first place (Some other)
dict_named place (dict.KeysOr other) = contains_first place (Some other)
dict_named place (dict.KeysXor other) = contains_first place (Some other)
dict_named place _ = contains_first place None

changed_kind : (changing : Bool) (at place : ℕ) (containers : List ℕ) → Contains containers at → (if changing then Some at else None) ≡ Some place → Contains containers place
changed_kind true at place containers there is = subst (Contains containers) (let same : at ≡ place = cc in same) there
changed_kind false at place containers there is = absurd (none-some place is)

changed_named : (called : Call) (place : ℕ) → changed_by called ≡ Some place → Contains (containers_of called) place
changed_named (call.Dict at c) place is = changed_kind (is_changing_dict c) (changed_dict at (dict_change c)) place (containers_of (call.Dict at c)) (dict_named at c) is
changed_named (call.List at c) place is = changed_kind (is_changing_list c) at place (containers_of (call.List at c)) (contains_first at (other_list c)) is
changed_named (call.Set at c) place is = changed_kind (is_changing_set c) at place (containers_of (call.Set at c)) (contains_first at (other_set c)) is
changed_named (call.Deque at c) place is = changed_kind (is_changing_deque c) at place (containers_of (call.Deque at c)) (contains_first at (other_deque c)) is
changed_named _ place is = absurd (none-some place is)

tables_from : (stored : StoredWorld) (calls : List Call) → length (fold after_stored stored calls).tables ≡ length stored.tables
tables_from stored [] = refl
tables_from stored (called ∷ calls) = tables_from (after_stored stored called) calls ∙ as_many_tables stored called

pub tables_of_script : (script : ScriptParts) (calls : List Call) → length (stored_after script calls).tables ≡ length script.containers
tables_of_script script calls =
    tables_from (empty_stored (starts_of script.containers)) calls
    ∙ length-map (starts_of script.containers) start_table
    ∙ length-map script.containers (λ (container : Declaration). container.start)

pub changes_within : (script : ScriptParts) (cursors : ℕ) (called : Call) (calls : List Call) → NamesOf script.containers cursors called → ChangesWithin (stored_after script calls).tables called
changes_within script cursors called calls names place is =
    let low : place < length script.containers = All-contains (λ which. which < length script.containers) (containers_of called) place (named_within script.containers cursors called names) (changed_named called place is) in
    omega (arith, low, tables_of_script script calls)
