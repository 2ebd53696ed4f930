-- What the judge keeps of tables.
use Rattle.std.specs.Prelude.{◌≡◌, ℕ, ◌+◌, ◌-◌, ◌==◌, min, List, map, length, Option, Some, None, IfSome, if◌then◌else◌}
use Rattle.ft_model.specs.declared.call.Call.{Call}
use Rattle.ft_model.specs.declared.call.Call.TheVariants as call
use Rattle.ft_model.specs.declared.content.Content.{Content}
use Rattle.ft_model.specs.declared.script.Kind.TheVariants as kind
use Rattle.ft_model.specs.declared.script.ScriptParts.{ScriptParts}
use Rattle.ft_model.specs.declared.call.DictCall.{DictCall}
use Rattle.ft_model.specs.Calls.{dict_change, other_dict, other_list, other_set, other_deque}
use Rattle.ft_model.specs.Contents.{DictContent}
use Rattle.ft_model.specs.Deques.{DequeContent}
use Rattle.ft_model.specs.Worlds.{IsOfKind, dict_at, set_at}
use Rattle.ft_model.specs.declared.table.KeptTable.{KeptTable}
use Rattle.ft_model.specs.Classes.{class_count, IsClass}
use Rattle.ft_model.specs.TableUses.{TableUse, table_of, table_at, change_takes, dict_takes, copy_takes, change_leaves, grown_table, copy_leaves, takes_class, leaves_tables, stored_after, takes, is_class, table_count}
use Rattle.ft_history.specs.declared.account.TableAccount.{TableAccount}
use Rattle.ft_history.specs.declared.sizes.Size.{Size}

-- ---- tables

-- what the kept tables say
abbrev pub tables_of : List KeptTable → List TableUse
tables_of kept = map table_of kept

-- what is kept is what these writes come to
pub record IsAccount (script : ScriptParts) (calls : List Call) (account : TableAccount) : Type 0 where
  pub tables : tables_of account.tables.items ≡ (stored_after script calls).tables
  pub classes : length account.takings.items ≡ class_count
  pub takings : (class : ℕ) → IsClass class → table_count account.takings.items class ≡ takes script class calls

-- one table more is taken, if one is
pub record CountsTaking (taking : Option ℕ) (old new : List ℕ) : Type 0 where
  pub classes : length new ≡ length old
  pub takings : (class : ℕ) → IsClass class
      → table_count new class ≡ table_count old class + (if is_class class taking then 1 else 0)

-- what is kept goes on after a call that led from one world to another
pub record CountsCall (old new : List Content) (called : Call) (before after : TableAccount) : Type 0 where
  pub tables : tables_of after.tables.items
      ≡ leaves_tables old new (tables_of before.tables.items) called
      (takes_class old new (tables_of before.tables.items) called)
  pub takings : CountsTaking
      (takes_class old new (tables_of before.tables.items) called) before.takings.items after.takings.items

-- the class that a call of a dict takes, and what it leaves, where the dict is not split
abbrev pub plain_takes : TableUse → DictCall → DictContent → DictContent → Option ℕ
plain_takes table called old new =
    change_takes (dict_change called) (dict_takes table old new) (copy_takes (length old.pairs))

abbrev pub plain_leaves : List TableUse → ℕ → DictCall → DictContent → DictContent → Option ℕ → List TableUse
plain_leaves tables place called old new takes =
    change_leaves
    tables
    place
    (dict_change called)
    (grown_table (table_at tables place) takes (new.next - old.next) (length new.pairs))
    (copy_leaves (length old.pairs))

-- what is kept goes on after a call of such a dict
pub record CountsDict (old new : List Content) (place : ℕ) (called : DictCall) (before after : TableAccount)
    : Type 0 where
  pub tables : tables_of after.tables.items
      ≡ plain_leaves (tables_of before.tables.items) place called (dict_at old place) (dict_at new place)
      (plain_takes (table_at (tables_of before.tables.items) place) called (dict_at old place) (dict_at new place))
  pub takings : CountsTaking
      (plain_takes (table_at (tables_of before.tables.items) place) called (dict_at old place) (dict_at new place))
      before.takings.items after.takings.items

-- ---- sizes

-- the next serial and how much there is
abbrev pub dict_size : List Content → ℕ → Size
dict_size world place = record { next = (dict_at world place).next; count = length (dict_at world place).pairs }

abbrev pub set_size : List Content → ℕ → Size
set_size world place = record { next = (set_at world place).next; count = length (set_at world place).elements }

abbrev pub no_size : Size
no_size = record { next = 0; count = 0 }

-- of the container on which a call is made; of lists and deques nothing is asked
abbrev pub size_at : List Content → Call → Size
size_at world (call.Dict place dict_call) = dict_size world place
size_at world (call.Set place set_call) = set_size world place
size_at world (call.Deque place deque_call) = no_size
size_at world (call.List place list_call) = no_size
size_at world (call.Next cursor) = no_size
size_at world (call.Begin first second) = no_size
size_at world call.End = no_size
size_at world call.Quiesce = no_size
size_at world (call.Await other index) = no_size
size_at world call.Dump = no_size

-- ---- kinds

-- the containers that a call is made on and of are there, and of its kind
abbrev pub AreOfKind : List Content → Call → Type 0
AreOfKind world (call.Dict place dict_call) =
    IsOfKind world kind.Dict place × IfSome (other_dict dict_call) (λ other. IsOfKind world kind.Dict other)
AreOfKind world (call.List place list_call) =
    IsOfKind world kind.List place × IfSome (other_list list_call) (λ other. IsOfKind world kind.List other)
AreOfKind world (call.Set place set_call) =
    IsOfKind world kind.Set place × IfSome (other_set set_call) (λ other. IsOfKind world kind.Set other)
AreOfKind world (call.Deque place deque_call) =
    IsOfKind world (kind.Deque None) place
    × IfSome (other_deque deque_call) (λ other. IsOfKind world (kind.Deque None) other)
AreOfKind world (call.Next cursor) = Unit {0}
AreOfKind world (call.Begin first second) = Unit {0}
AreOfKind world call.End = Unit {0}
AreOfKind world call.Quiesce = Unit {0}
AreOfKind world (call.Await other index) = Unit {0}
AreOfKind world call.Dump = Unit {0}

-- ---- deques

-- how many of that many items a bound leaves
abbrev pub length_within : Option ℕ → ℕ → ℕ
length_within None count = count
length_within (Some most) count = min count most

-- how many items a deque has to which that many are added; none change nothing
abbrev pub length_with_items : DequeContent → ℕ → ℕ
length_with_items deque added =
    if added == 0 then length deque.items else length_within deque.bound (length deque.items + added)
