-- The tables that writes take, and those that containers have, are of classes of tables.
use Rattle.std.proofs.Common.{◌≡◌, ℕ, zero, suc, ◌+◌, ◌*◌, ◌-◌, Bool, true, false, List, [], ◌∷◌, length, map, Option, Some, None, refl, sym, ap, subst, ◌∙◌, inl, inr}
use Rattle.std.specs.Prelude.{nat_lt, if◌then◌else◌, slice_get}
use Rattle.std.specs.Option.{unwrap_or}
use Rattle.std.proofs.lemmas.Bool.{cases_eq}
use Rattle.std.specs.Option.{option_map_or}
use Rattle.std.proofs.lemmas.Option.{none-some, unwrap_or-slice_get}
use Rattle.ft_model.specs.declared.call.Call.{Call}
use Rattle.ft_model.specs.declared.call.Call.TheVariants as call
use Rattle.ft_model.specs.declared.call.DictCall.{DictCall}
use Rattle.ft_model.specs.declared.call.DictCall.TheVariants as dict
use Rattle.ft_model.specs.declared.call.TableChange.{TableChange}
use Rattle.ft_model.specs.declared.call.TableChange.TheVariants as change
use Rattle.ft_model.specs.declared.data.Key.{Key}
use Rattle.ft_model.specs.declared.script.Start.{Start}
use Rattle.ft_model.specs.Answers.{after_write}
use Rattle.ft_model.specs.Calls.{dict_change, list_change, set_change, deque_change}
use Rattle.ft_model.specs.Classes.{IsClass, class_for}
use Rattle.ft_model.specs.Contents.{DictContent}
use Rattle.ft_model.specs.TablesInOrder.{changed_by}
use Rattle.ft_model.specs.TableUses.{TableUse, StoredWorld, after_stored, change_takes, copy_takes, dict_takes, ends_split, is_split, leaving_takes, list_takes, no_table, outgrows_dict, outgrows_list, outgrows_set, set_takes, split_takes, start_table, table_at, takes_in}
use Rattle.ft_model.specs.Worlds.{dict_at, list_at, set_at, deque_at}
use Rattle.ft_model.proofs.ClassLemmas.{class_within}
use Rattle.ft_model.proofs.Untouched.{other_tables}
use Rattle.ft_ledger.specs.Ledgers.{class_had}
use Rattle.ft_ledger.proofs.Exchanges.{IsClassOf}
use Rattle.ft_ledger.proofs.TableChanges.{ChangesWithin, leaves_class}

-- ---- what calls take

none_is : IsClassOf None
none_is class none = absurd (none-some class none)

if_is : (b : Bool) (slots : ℕ) → IsClassOf (if b then Some (class_for slots) else None)
if_is true slots class is = subst IsClass (let same : class_for slots ≡ class = cc in same) (class_within slots)
if_is false slots class none = absurd (none-some class none)

change_is : (changes : TableChange) (grown copied : Option ℕ) → IsClassOf grown → IsClassOf copied → IsClassOf (change_takes changes grown copied)
change_is change.Stays grown copied one other = none_is
change_is change.Grows grown copied one other = one
change_is (change.CopiesTo to) grown copied one other = other
change_is change.GivesUp grown copied one other = none_is

either_is : (b : Bool) (one other : Option ℕ) → IsClassOf one → IsClassOf other → IsClassOf (if b then one else other)
either_is true one other is and_is = is
either_is false one other is and_is = and_is

copy_is : (count : ℕ) → IsClassOf (copy_takes count)
copy_is count = if_is (nat_lt 0 count) (3 * (count - 1))

split_is : (keys : List Key) (called : DictCall) (old new : DictContent) → IsClassOf (split_takes keys called old new)
split_is keys (dict.CopyTo other) old new = copy_is (length old.pairs)
split_is keys called old new = either_is (ends_split keys called old new) (leaving_takes new) None (copy_is (length new.pairs)) none_is

pub takes_class : (stored : StoredWorld) (called : Call) → IsClassOf (takes_in stored called)
takes_class stored (call.Dict place c) =
    let table = table_at stored.tables place in
    let old = dict_at stored.world place in
    let new = dict_at (after_write stored.world (call.Dict place c)) place in
    either_is (is_split table.keys) (split_takes table.keys c old new) (change_takes (dict_change c) (dict_takes table old new) (copy_takes (length old.pairs)))
    (split_is table.keys c old new)
    (change_is (dict_change c) (dict_takes table old new) (copy_takes (length old.pairs)) (if_is (outgrows_dict table (new.next - old.next)) (3 * (length new.pairs - 1))) (copy_is (length old.pairs)))
takes_class stored (call.List place c) =
    let table = table_at stored.tables place in
    let count = length (list_at (after_write stored.world (call.List place c)) place) in
    change_is (list_change c) (list_takes table count) None (if_is (outgrows_list table count) count) none_is
takes_class stored (call.Set place c) =
    let table = table_at stored.tables place in
    let old = set_at stored.world place in
    let new = set_at (after_write stored.world (call.Set place c)) place in
    change_is (set_change c) (set_takes table old new) None (if_is (outgrows_set table (new.next - old.next)) (4 * (length new.elements - 1) + 1)) none_is
takes_class stored (call.Deque place c) =
    let table = table_at stored.tables place in
    let count = length (deque_at (after_write stored.world (call.Deque place c)) place).items in
    change_is (deque_change c) (list_takes table count) None (if_is (outgrows_list table count) count) none_is
takes_class stored _ = none_is

-- ---- what containers have

abbrev pub AreTableClasses : List TableUse → Type 0
AreTableClasses tables = (place : ℕ) → IsClassOf (table_at tables place).class

pub had_class : (tables : List TableUse) (called : Call) → AreTableClasses tables → IsClassOf (class_had tables called)
had_class tables called are =
    elim (changed_by called) as (λ o. IsClassOf (option_map_or (λ place. (table_at tables place).class) o None)) [
      | None ↦ none_is
      | Some place ↦ are place
    ]

same_table : (xs ys : List TableUse) (place : ℕ) → slice_get ys place ≡ slice_get xs place → table_at xs place ≡ table_at ys place
same_table xs ys place same =
    sym (unwrap_or-slice_get xs place no_table) ∙ ap (λ (o : Option TableUse). unwrap_or o no_table) (sym same) ∙ unwrap_or-slice_get ys place no_table

-- a write leaves tables of classes of tables
pub classes_next : (stored : StoredWorld) (called : Call) → ChangesWithin stored.tables called → AreTableClasses stored.tables → AreTableClasses (after_stored stored called).tables
classes_next stored called within are place =
    let after = (after_stored stored called).tables in
    elim (changed_by called) as (λ o. changed_by called ≡ o → IsClassOf (table_at after place).class) [
      | None ↦ λ is. unchanged (λ some. none-some place (sym is ∙ some))
      | Some at ↦ λ is.
          elim (cases_eq at place) [
            | inl same ↦ changed (is ∙ ap Some same)
            | inr other ↦ unchanged (λ some. other (let both : Some at ≡ Some place = sym is ∙ some in cc))
          ]
    ] refl
  where
    unchanged : (changed_by called ≡ Some place → ⊥) → IsClassOf (table_at (after_stored stored called).tables place).class
    unchanged other = subst (λ (t : TableUse). IsClassOf t.class) (same_table stored.tables (after_stored stored called).tables place (other_tables stored called place other)) (are place)

    changed : changed_by called ≡ Some place → IsClassOf (table_at (after_stored stored called).tables place).class
    changed is =
        let leaves = leaves_class stored called within in
        let after : class_had (after_stored stored called).tables called ≡ (table_at (after_stored stored called).tables place).class = ap (λ o. option_map_or (λ p. (table_at (after_stored stored called).tables p).class) o None) is in
        let before : class_had stored.tables called ≡ (table_at stored.tables place).class = ap (λ o. option_map_or (λ p. (table_at stored.tables p).class) o None) is in
        elim (takes_in stored called) as (λ o. takes_in stored called ≡ o → IsClassOf (table_at (after_stored stored called).tables place).class) [
          | Some new ↦ λ takes. subst IsClassOf (sym (leaves.taken new takes) ∙ after) (λ class is. takes_class stored called class (takes ∙ is))
          | None ↦ λ none.
              elim (leaves.not_taken none) [
                | inl old ↦ subst IsClassOf (sym before ∙ sym old ∙ after) (are place)
                | inr gone ↦ subst IsClassOf (sym gone ∙ after) none_is
              ]
        ] refl

pub classes_at_start : (starts : List Start) → AreTableClasses (map start_table starts)
classes_at_start [] place = none_is
classes_at_start (first ∷ starts) zero = none_is
classes_at_start (first ∷ starts) (suc place) = classes_at_start starts place
