-- Lists of a bank, and the words of their tables while a pass writes one.
use Rattle.std.specs.Prelude.{◌≡◌, ◌⊎◌, ℕ, suc, ◌+◌, ◌%◌, ◌<◌, ◌≤◌, ◌==◌, true, cond, List, [], ◌∷◌, length, Some, slice_get, slice_index, slice_set, ◌≢◌}
use Rattle.std.specs.Option.{option_map_or}
use Rattle.ft_model.specs.declared.call.Call.{Call}
use Rattle.ft_model.specs.declared.content.Content.TheVariants as content
use Rattle.ft_model.specs.declared.reply.Reply.{Reply}
use Rattle.ft_model.specs.TableUses.{StoredWorld, after_stored}
use Rattle.ft_model.specs.declared.data.Value.{Value}
use Rattle.ft_model.specs.declared.script.Kind.TheVariants as kind
use Rattle.ft_model.specs.Worlds.{list_of}
use Rattle.ft_layout.specs.declared.slot.Stored.{Stored}
use Rattle.ft_layout.specs.declared.slot.Stored.TheVariants.{Empty, Plain}
use Rattle.ft_layout.specs.Words.{IsStored, stored_kind, stored_payload}
use Rattle.ft_layout.specs.Tables.{IsListTable, table_length}
use Rattle.ft_layout.specs.Containers.{class_mask, IsBlock}
use Rattle.ft_trace.specs.declared.Shape.{Shape}
use Rattle.ft_trace.specs.declared.View.{View}
use Rattle.ft_trace.specs.Addresses.{container_count, class_of, slots}
use Rattle.ft_trace.specs.Acts.{has_lock, is_writing}
use Rattle.ft_trace.specs.Boxes.{IsSettled}
use Rattle.ft_trace.specs.ContainerStates.{state_at, kind_in, changes}
use Rattle.ft_trace.specs.Pictures.{ContainerWords, root_in, item_offset, item_field}
use Rattle.ft_trace.specs.ItemWords.{words_at, said_at}
use Rattle.ft_trace.specs.Holds.{held_unboxed, known_state}
use Rattle.ft_bank.specs.BoxSteps.{kind_read, payload_read}
use Rattle.ft_bank.specs.declared.table.Table.{Table}
use Rattle.ft_bank.specs.SameBoxes.{HoldsFew}
use Rattle.ft_bank.specs.TableNames.{table_id, IsTableIn}
use Rattle.ft_bank.specs.WriteSteps.{MayHave, MayCommit}

-- The pass writes the list o, whose root names the table; what it has to do with its own boxes is settled, and it holds
-- few references. (profile)
pub record WritesList (k : Shape) (o : ℕ) (table : Table) (v : View) : Type 0 where
  pub container : o < container_count k
  pub kind : kind_in k.starts o ≡ kind.List
  pub table_in : IsTableIn k table
  pub locked : has_lock o v.log ≡ true
  pub odd : is_writing o v.log ≡ true
  pub root : root_in (held_unboxed o v) ≡ suc (table_id table)
  pub settled : IsSettled v.log
  pub few : HoldsFew v

-- The words of a list once a word of an item is put. (profile)
abbrev pub with_word : ContainerWords → ℕ → ℕ → ℕ → ContainerWords
with_word words place word value =
    record { block = words.block; table = slice_set words.table (item_offset place word) value }

-- the kind and the payload of what is stored
abbrev pub stored_words : Stored → List ℕ
stored_words stored = stored_kind stored ∷ stored_payload stored ∷ []

-- what is stored reads so: as it is, or as the value in the box that it names, which the pass knows
abbrev pub ReadsAs : View → Stored → Stored → Type 0
ReadsAs v stored seen =
    IsStored (kind_read v (stored_kind stored) (stored_payload stored))
    (payload_read v (stored_kind stored) (stored_payload stored)) seen

-- The item at this place stores this: its words say so, and its version is odd, where they said something else before;
-- or they said so, and nothing is changed. No other word of the list is changed. (profile)
pub record PutsItem (place : ℕ) (stored : Stored) (old new : ContainerWords) : Type 0 where
  pub block : new.block ≡ old.block
  pub size : length new.table ≡ length old.table
  pub rest : (i : ℕ) → (i < item_offset place 0) ⊎ (item_offset place 3 ≤ i)
      → slice_index new.table i ≡ slice_index old.table i
  pub kind : item_field new.table place 1 ≡ stored_kind stored
  pub payload : item_field new.table place 2 ≡ stored_payload stored
  pub version : ((item_field new.table place 0 % 2 ≡ 1) × (stored_words stored ≢ said_at old.table place))
      ⊎ (new.table ≡ old.table)

-- The words of a list's table while a pass writes it: they say at each index what it has now, and where the version of
-- an item is even the list had the same there before. Each odd version lies in this range of places. (profile)
pub record IsChanging (class : ℕ) (before now : List Value) (first past : ℕ) (words : List ℕ) : Type 0 where
  pub table : IsListTable (class_mask class) now (0 ∷ 0 ∷ words)
  pub shut : (p : ℕ) → p < slots class → item_field words p 0 % 2 ≡ 0 → words_at now p ≡ words_at before p
  pub odd : (p : ℕ) → p < slots class → item_field words p 0 % 2 ≡ 1 → (first ≤ p) × (p < past)

-- what a list stores at an index: its value, and nothing at its length and past it
abbrev pub stored_item : List Value → ℕ → Stored
stored_item values p = option_map_or Plain (slice_get values p) Empty

-- the same but at one place
abbrev pub but_at : (ℕ → Stored) → ℕ → Stored → ℕ → Stored
but_at now place stored p = cond (p == place) stored (now p)

-- The words of a list's table while a pass puts its items, before the commit: they store `now` at each place. Where the
-- version of an item is even the list had the same there, and where it is odd something else. Each odd version lies in
-- this range of places. (profile)
pub record IsPutting
    (class : ℕ) (before : List Value) (first past : ℕ) (now : ℕ → Stored) (words : List ℕ) : Type 0 where
  pub size : length words + 2 ≡ table_length (class_mask class)
  pub spare : (p : ℕ) → p < slots class → item_field words p 3 ≡ 0
  pub items : (p : ℕ) → p < slots class → IsStored (item_field words p 1) (item_field words p 2) (now p)
  pub shut : (p : ℕ) → p < slots class → item_field words p 0 % 2 ≡ 0 → stored_words (now p) ≡ words_at before p
  pub opens : (p : ℕ) → p < slots class → item_field words p 0 % 2 ≡ 1 → stored_words (now p) ≢ words_at before p
  pub odd : (p : ℕ) → p < slots class → item_field words p 0 % 2 ≡ 1 → (first ≤ p) × (p < past)

-- The version of the item at this place is even, and no other word of the list is changed. (profile)
pub record ClosesItem (place : ℕ) (old new : ContainerWords) : Type 0 where
  pub version : ℕ
  pub even : version % 2 ≡ 0
  pub words : new ≡ with_word old place 0 version

-- what the pass knows of the items of a list
abbrev pub known_items : ℕ → View → List Value
known_items o v = list_of (known_state o v).content

-- A pass that has put the words of the list o may commit this call, with this reply, and then make versions even: the
-- call changes o, and leaves it with these items and a table of this class, which the words say already but for
-- versions.
pub record MayFinishItems
    (o : ℕ) (table : Table) (called : Call) (said : Reply) (first past : ℕ) (v : View) : Type 0 where
  pub may : MayCommit v called said
  pub changed : changes called ≡ o
  pub before : List Value
  pub after : List Value
  pub left : (stored : StoredWorld) → MayHave v stored
      → state_at (after_stored stored called) o
      ≡ record {
        content = content.List after;
        table = record { class = Some (class_of (table_id table)); fill = 0; keys = [] };
      }
  pub head : IsBlock (held_unboxed o v).block (Some (class_of (table_id table))) (length after) 0 0
  pub changing : IsChanging (class_of (table_id table)) before after first past (held_unboxed o v).table
