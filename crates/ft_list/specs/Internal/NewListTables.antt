-- Lists that get another table: what a pass is to have and to know for that, and the words of the new table.
use Rattle.std.specs.Prelude.{◌≡◌, ℕ, suc, ◌<◌, ◌≤◌, true, false, List, length, Option, Some, None, slice_set, []}
use Rattle.ft_model.specs.declared.data.Value.{Value}
use Rattle.ft_model.specs.declared.script.Kind.TheVariants as kind
use Rattle.ft_model.specs.TableUses.{TableUse, no_table}
use Rattle.ft_layout.specs.Words.{IsStored}
use Rattle.ft_trace.specs.declared.Shape.{Shape}
use Rattle.ft_trace.specs.declared.View.{View}
use Rattle.ft_trace.specs.declared.Act.TheVariants.{StartWrite, PutRoot}
use Rattle.ft_trace.specs.Acts.{has_lock, is_writing, owes, stage, used, flight, view_after}
use Rattle.ft_trace.specs.Boxes.{IsSettled}
use Rattle.ft_trace.specs.Addresses.{container_count, class_of, size, slots}
use Rattle.ft_trace.specs.Holds.{held_unboxed, known_state}
use Rattle.ft_trace.specs.Pictures.{root_in, Represents, item_offset, item_field}
use Rattle.ft_trace.specs.ContainerStates.{kind_in}
use Rattle.ft_bank.specs.declared.table.Table.{Table}
use Rattle.ft_bank.specs.TableNames.{table_id, root_for, IsTableIn}
use Rattle.ft_bank.specs.SameBoxes.{HoldsFew, MovesReferences}
use Rattle.ft_bank.specs.Whole.{OnlyWritten}
use Rattle.ft_bank.specs.WriteSteps.{KeepsUnwritten}
use Rattle.ft_list.specs.ListItemWrites.{stored_item}

-- what a list has that has this table, or none
abbrev pub list_use_of : Option Table → TableUse
list_use_of None = no_table
list_use_of (Some t) = record { class = Some t.class; fill = 0; keys = [] }

-- The pass has the lock of the list o, whose root names this table or none; no version is odd there, and its words
-- stand for what the pass knows of it. (profile)
pub record KnowsList (k : Shape) (o : ℕ) (old : Option Table) (v : View) : Type 0 where
  pub container : o < container_count k
  pub kind : kind_in k.starts o ≡ kind.List
  pub locked : has_lock o v.log ≡ true
  pub even : is_writing o v.log ≡ false
  pub stands : Represents k.texts (held_unboxed o v) (known_state o v)
  pub table_in : (t : Table) → old ≡ Some t → IsTableIn k t
  pub root : root_in (held_unboxed o v) ≡ root_for old

-- Besides it writes no container, is in the midst of no taking or giving of a table, and of no other write that took a
-- table out of a root; it has lowered no count of a class that it hasn't raised again, and has a call left. It may hold few
-- references for boxes, where what it has to do with its own boxes is settled. (profile)
pub record MayAdd (k : Shape) (o : ℕ) (old : Option Table) (v : View) : Type 0 where
  pub list : KnowsList k o old v
  pub even : (p : ℕ) → is_writing p v.log ≡ false
  pub used : used v.log ≡ false
  pub owes : owes v.log ≡ 0
  pub idle : flight v.log ≡ 0
  pub settled : IsSettled v.log
  pub few : HoldsFew v
  pub left : 0 < v.left

-- Or it has taken this table, which is fresh in its hand, and has raised no count since. (profile)
pub record MayGrowList (k : Shape) (o : ℕ) (old : Option Table) (table : Table) (v : View) : Type 0 where
  pub list : KnowsList k o old v
  pub even : (p : ℕ) → is_writing p v.log ≡ false
  pub used : used v.log ≡ false
  pub owed : owes v.log ≡ suc (class_of (table_id table))
  pub fresh : stage (table_id table) v.log ≡ 1
  pub table_in : IsTableIn k table
  pub settled : IsSettled v.log
  pub few : HoldsFew v
  pub left : 0 < v.left

-- The pass has made the version of the list o odd and put this root; then it has dropped references for boxes that the
-- words of o have no longer. (profile)
pub record HasRooted (o root : ℕ) (v w : View) : Type 0 where
  pub start : ℕ
  pub rooted : View
  pub did : rooted ≡ view_after (PutRoot o root (root_in (held_unboxed o v))) (view_after (StartWrite o start) v)
  pub keeps : KeepsUnwritten (view_after (StartWrite o start) v) rooted
  pub moves : MovesReferences o (view_after (StartWrite o start) v) rooted
  pub only : OnlyWritten o rooted w

-- the words of a table once an item has a value with this kind and this payload, and version 0
abbrev pub with_new_item : List ℕ → ℕ → ℕ → ℕ → List ℕ
with_new_item words place kind payload =
    slice_set
    (slice_set (slice_set (slice_set words (item_offset place 0) 0) (item_offset place 1) kind) (item_offset place 2)
    payload)
    (item_offset place 3) 0

-- A kind and a payload are the words of the value that an item has in a table with these words, or 0 where the table has
-- no such item, or there is none.
abbrev pub CopiesItem : Option Table → List ℕ → ℕ → ℕ → ℕ → Type 0
CopiesItem None from place kind payload = (kind ≡ 0) × (payload ≡ 0)
CopiesItem (Some t) from place kind payload =
    (place < slots (class_of (table_id t)) → (kind ≡ item_field from place 1) × (payload ≡ item_field from place 2))
    × (slots (class_of (table_id t)) ≤ place → (kind ≡ 0) × (payload ≡ 0))

-- The words of a table of this class, of which the items before this place have the values of those in another table, or
-- none, as its words stand there, with version 0. (profile)
pub record IsCopied (old : Option Table) (from : List ℕ) (class past : ℕ) (words : List ℕ) : Type 0 where
  pub long : length words ≡ size class
  pub version : (p : ℕ) → p < past → item_field words p 0 ≡ 0
  pub copies : (p : ℕ) → p < past → CopiesItem old from p (item_field words p 1) (item_field words p 2)
  pub spare : (p : ℕ) → p < past → item_field words p 3 ≡ 0

-- The words of a table of this class, as they read: the items before this place store what a list has there, with version
-- 0. (profile)
pub record IsFilled (class : ℕ) (values : List Value) (past : ℕ) (words : List ℕ) : Type 0 where
  pub long : length words ≡ size class
  pub version : (p : ℕ) → p < past → item_field words p 0 ≡ 0
  pub items : (p : ℕ) → p < past → IsStored (item_field words p 1) (item_field words p 2) (stored_item values p)
  pub spare : (p : ℕ) → p < past → item_field words p 3 ≡ 0
