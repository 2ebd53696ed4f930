-- What the words of a table say: which entries of a dict or set were used, in which order, and where their keys are
-- found; or which items a list has. (profile; that a deletion leaves a mark that searches pass, and that a search ends
-- at a slot never used: CPython's dictobject.c and setobject.c, their comments on probing)
use Rattle.std.specs.Prelude.{◌≡◌, ◌≢◌, ℕ, ◌+◌, ◌*◌, ◌/◌, ◌<◌, ◌≤◌, Bool, List, length, filter, AllPairs, Option, Some, None, is_some, slice_index, slice_index_or}
use Rattle.ft_model.specs.declared.data.Key.{Key}
use Rattle.ft_model.specs.declared.data.Key.TheVariants as key
use Rattle.ft_model.specs.declared.data.Value.{Value}
use Rattle.ft_hash.specs.Hashes.{int_hash}
use Rattle.ft_hash.specs.Probes.{dict_slots, set_slots}
use Rattle.ft_layout.specs.declared.slot.Stored.{Stored}
use Rattle.ft_layout.specs.declared.slot.Stored.TheVariants.{Empty, Plain}
use Rattle.ft_layout.specs.declared.slot.Slot.{Slot}
use Rattle.ft_layout.specs.declared.slot.Slot.TheVariants.{Never, Live, Gone}
use Rattle.ft_layout.specs.Words.{IsEntry, IsItem}

-- ---- where the words of a table lie, and how many there are; it has as many index slots as its mask says and one more

-- index slot by slot, after two words of the header
abbrev pub index_at : ℕ → ℕ
index_at slot = slot + 2

-- the words of an entry, after the index
abbrev pub entry_at : ℕ → ℕ → ℕ → ℕ
entry_at mask place word = 8 * place + word + mask + 3

-- the words of an item, after the header
abbrev pub item_at : ℕ → ℕ → ℕ
item_at place word = 4 * place + word + 2

abbrev pub dict_room : ℕ → ℕ
dict_room mask = 2 * (mask + 1) / 3

abbrev pub set_room : ℕ → ℕ
set_room mask = 3 * (mask + 1) / 5

-- every table has the room that a dict wants
abbrev pub table_length : ℕ → ℕ
table_length mask = 8 * dict_room mask + mask + 3

abbrev pub index_word : List ℕ → ℕ → ℕ
index_word words slot = slice_index words (index_at slot)

abbrev pub entry_word : ℕ → List ℕ → ℕ → ℕ → ℕ
entry_word mask words place word = slice_index words (entry_at mask place word)

abbrev pub item_word : List ℕ → ℕ → ℕ → ℕ
item_word words place word = slice_index words (item_at place word)

-- ---- entries that were used

-- an entry that was used: its key and serial, and what it stores, or None where it was deleted
pub record UsedEntry : Type 0 where
  pub key : Key
  pub serial : ℕ
  pub stored : Option Stored

abbrev pub is_live : UsedEntry → Bool
is_live entry = is_some entry.stored

-- the entry once its key was deleted
abbrev pub deleted : UsedEntry → UsedEntry
deleted entry = record { key = entry.key; serial = entry.serial; stored = None }

-- the hash of a key, where the strings have these hashes by number
abbrev pub hash_of : List ℕ → Key → ℕ
hash_of texts (key.Int n) = int_hash n
hash_of texts (key.Text sym) = slice_index texts sym.0

abbrev pub slot_with : ℕ → Key → ℕ → Option Stored → Slot
slot_with hash key serial (Some stored) = Live (record { hash = hash; key = key; value = stored; serial = serial })
slot_with hash key serial None = Gone key serial

-- what the words of a used entry say
abbrev pub slot_of : List ℕ → UsedEntry → Slot
slot_of texts entry = slot_with (hash_of texts entry.key) entry.key entry.serial entry.stored

-- ---- tables of dicts and sets

-- the walk meets the slot that names the entry at this place, and before it no slot never used
pub record Meets (words walk : List ℕ) (place : ℕ) : Type 0 where
  pub step : ℕ
  pub low : step < length walk
  pub here : index_word words (slice_index walk step) ≡ place + 1
  pub before : (j : ℕ) → j < step → index_word words (slice_index walk j) ≢ 0

-- The words of a table with these used entries, in the order in which they were used. `walk` has the slots that are
-- tried for a hash, `room` says how many entries there are.
-- An index word is 0 where its slot was never used, or the place of an entry plus 1.
pub record IsTable (walk : ℕ → List ℕ) (room : ℕ) (texts : List ℕ) (mask : ℕ) (used : List UsedEntry) (words : List ℕ)
    : Type 0 where
  pub size : length words ≡ table_length mask
  pub head : slice_index words 0 ≡ 0
  pub spare : (place : ℕ) → place < room → entry_word mask words place 7 ≡ 0
  pub fill : length used ≤ room
  pub entries : (place : ℕ) (any : UsedEntry) → place < length used
      → IsEntry (entry_word mask words place) (slot_of texts (slice_index_or used place any))
  pub unused : (place : ℕ) → length used ≤ place → place < room → IsEntry (entry_word mask words place) Never
  pub hashes : (place : ℕ) (any : UsedEntry) → place < length used
      → entry_word mask words place 1 ≡ hash_of texts (slice_index_or used place any).key
  pub distinct : AllPairs (λ a b. a.key ≢ b.key) (filter is_live used)
  pub rising : AllPairs (λ a b. a.serial < b.serial) used
  pub names : (slot : ℕ) → slot ≤ mask → index_word words slot ≤ length used
  pub once : (slot other : ℕ) → slot ≤ mask → other ≤ mask → index_word words slot ≢ 0
      → index_word words slot ≡ index_word words other → slot ≡ other
  pub met : (place : ℕ) (any : UsedEntry) → place < length used
      → Meets words (walk (hash_of texts (slice_index_or used place any).key)) place

-- The word of an entry that is kept for a version is 0 in each entry. No table needs this: what words say of entries is
-- the same with versions.
pub record HasNoVersions (room mask : ℕ) (words : List ℕ) : Type 0 where
  pub zeros : (place : ℕ) → place < room → entry_word mask words place 0 ≡ 0

-- as many positions as reach every slot
abbrev pub IsDictTable : List ℕ → ℕ → List UsedEntry → List ℕ → Type 0
IsDictTable texts mask used words =
    IsTable (λ hash. dict_slots hash mask (mask + 14)) (dict_room mask) texts mask used words

abbrev pub IsSetTable : List ℕ → ℕ → List UsedEntry → List ℕ → Type 0
IsSetTable texts mask used words =
    IsTable (λ hash. set_slots hash mask (mask + 14)) (set_room mask) texts mask used words

-- ---- tables of lists

-- as many items as there are slots; those after the list's end store nothing
pub record IsListTable (mask : ℕ) (values : List Value) (words : List ℕ) : Type 0 where
  pub size : length words ≡ table_length mask
  pub head : slice_index words 0 ≡ 0
  pub spare : (place : ℕ) → place ≤ mask → item_word words place 3 ≡ 0
  pub fill : length values ≤ mask + 1
  pub items : (place : ℕ) (any : Value) → place < length values
      → IsItem (item_word words place) (Plain (slice_index_or values place any))
  pub unused : (place : ℕ) → length values ≤ place → place ≤ mask → IsItem (item_word words place) Empty

-- likewise of each item
pub record HasNoItemVersions (mask : ℕ) (words : List ℕ) : Type 0 where
  pub zeros : (place : ℕ) → place ≤ mask → item_word words place 0 ≡ 0
