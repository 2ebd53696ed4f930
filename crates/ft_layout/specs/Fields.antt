-- Which word of a table is whose, where the table is a dict's or a set's, and where it is a list's. (profile)
use Rattle.std.specs.Prelude.{ℕ, ◌<◌, ◌≤◌}
use Rattle.ft_layout.specs.Tables.{dict_room, index_at, entry_at, item_at}

-- a table of a dict or set: words of its header, index slots, and words of its entries
pub data Field : Type 0 where
  Header : ℕ → Field
  Index : ℕ → Field
  Entry : ℕ → ℕ → Field

abbrev pub IsField : ℕ → Field → Type 0
IsField mask (Header word) = word < 2
IsField mask (Index slot) = slot ≤ mask
IsField mask (Entry place word) = (place < dict_room mask) × (word < 8)

abbrev pub field_at : ℕ → Field → ℕ
field_at mask (Header word) = word
field_at mask (Index slot) = index_at slot
field_at mask (Entry place word) = entry_at mask place word

-- a table of a list: words of its header, and words of its items
pub data ItemField : Type 0 where
  ItemHeader : ℕ → ItemField
  Item : ℕ → ℕ → ItemField

abbrev pub IsItemField : ℕ → ItemField → Type 0
IsItemField mask (ItemHeader word) = word < 2
IsItemField mask (Item place word) = (place ≤ mask) × (word < 4)

abbrev pub item_field_at : ItemField → ℕ
item_field_at (ItemHeader word) = word
item_field_at (Item place word) = item_at place word
