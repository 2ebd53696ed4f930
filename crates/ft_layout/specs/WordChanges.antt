-- How one entry or one item of a table changes: its words alone. An entry's key and serial stay. (profile)
use Rattle.std.specs.Prelude.{◌≡◌, ℕ, ◌<◌, ◌≤◌, List, length, IsTrue, ◌⊎◌, slice_index, slice_set}
use Rattle.ft_model.specs.declared.data.Key.{Key}
use Rattle.ft_layout.specs.declared.slot.Stored.{Stored}
use Rattle.ft_layout.specs.Words.{gone_kind, stored_kind, stored_payload, IsEntry, IsItem}
use Rattle.ft_layout.specs.Tables.{index_word, entry_at, entry_word, item_at, item_word, table_length, UsedEntry, is_live, hash_of, slot_of}

-- a table of this length all whose words are 0 but the second, its goal
pub record IsBlankTable (mask : ℕ) (words : List ℕ) : Type 0 where
  pub size : length words ≡ table_length mask
  pub zeros : (i : ℕ) → (i < 1) ⊎ (2 ≤ i) → slice_index words i ≡ 0

-- the entry has another value, or was deleted: key and serial stay, and a deleted entry doesn't come back
pub record KeepsKey (old new : UsedEntry) : Type 0 where
  pub key : new.key ≡ old.key
  pub serial : new.serial ≡ old.serial
  pub live : IsTrue (is_live new) → IsTrue (is_live old)

-- only words of the entry at this place changed
pub record ChangesEntry (mask place : ℕ) (old new : List ℕ) : Type 0 where
  pub size : length new ≡ length old
  pub rest : (i : ℕ) → (i < entry_at mask place 0) ⊎ (entry_at mask place 8 ≤ i) → slice_index new i ≡ slice_index old i

-- the words of the entry at this place are those of this used entry
pub record SaysUsed (texts : List ℕ) (mask : ℕ) (words : List ℕ) (place : ℕ) (entry : UsedEntry) : Type 0 where
  pub says : IsEntry (entry_word mask words place) (slot_of texts entry)
  pub hash : entry_word mask words place 1 ≡ hash_of texts entry.key
  pub spare : entry_word mask words place 7 ≡ 0

-- of a dict's or a set's table only the goal and the versions of entries may differ
pub record SameEntries (mask : ℕ) (old new : List ℕ) : Type 0 where
  pub size : length new ≡ length old
  pub head : slice_index new 0 ≡ slice_index old 0
  pub index : (slot : ℕ) → slot ≤ mask → index_word new slot ≡ index_word old slot
  pub words : (place word : ℕ) → 1 ≤ word → word < 8 → entry_word mask new place word ≡ entry_word mask old place word

-- of a list's table only the goal and the versions of items may differ
pub record SameItems (old new : List ℕ) : Type 0 where
  pub size : length new ≡ length old
  pub head : slice_index new 0 ≡ slice_index old 0
  pub words : (place word : ℕ) → 1 ≤ word → word < 4 → item_word new place word ≡ item_word old place word

-- the words once an entry's value is this, whose kind and payload were put
abbrev pub with_stored : ℕ → List ℕ → ℕ → Stored → List ℕ
with_stored mask words place stored =
    slice_set (slice_set words (entry_at mask place 4) (stored_kind stored)) (entry_at mask place 5)
    (stored_payload stored)

-- the words once an entry's key is deleted, whose kind was put; the hash, the key's payload and the value are left
abbrev pub with_deleted : ℕ → List ℕ → ℕ → Key → List ℕ
with_deleted mask words place key = slice_set words (entry_at mask place 2) (gone_kind key)

-- only words of the item at this place changed
pub record ChangesItem (place : ℕ) (old new : List ℕ) : Type 0 where
  pub size : length new ≡ length old
  pub rest : (i : ℕ) → (i < item_at place 0) ⊎ (item_at place 4 ≤ i) → slice_index new i ≡ slice_index old i

-- the words of the item at this place store this
pub record SaysStored (words : List ℕ) (place : ℕ) (stored : Stored) : Type 0 where
  pub says : IsItem (item_word words place) stored
  pub spare : item_word words place 3 ≡ 0

-- the words once an item stores this, whose kind and payload were put
abbrev pub with_item : List ℕ → ℕ → Stored → List ℕ
with_item words place stored =
    slice_set (slice_set words (item_at place 1) (stored_kind stored)) (item_at place 2) (stored_payload stored)
