-- What it is for a container's block and its table, as lists of words, to stand for a content. The block's lock and
-- version are no part of it, nor are the table's goal and the versions of entries and items. (profile)
use Rattle.std.specs.Prelude.{◌≡◌, ℕ, ◌-◌, ◌^◌, ◌<◌, List, [], length, map, filter, replicate, All, Option, Some, None, slice_index}
use Rattle.ft_model.specs.declared.data.Value.{Value}
use Rattle.ft_model.specs.declared.content.DictPair.{DictPair}
use Rattle.ft_model.specs.declared.content.Element.{Element}
use Rattle.ft_model.specs.declared.content.Content.{Content}
use Rattle.ft_model.specs.declared.content.Content.TheVariants as content
use Rattle.ft_model.specs.Contents.{DictContent, SetContent}
use Rattle.ft_model.specs.Deques.{empty_deque}
use Rattle.ft_model.specs.TableUses.{TableUse, no_table}
use Rattle.ft_layout.specs.declared.slot.Stored.TheVariants.{Empty, Plain}
use Rattle.ft_layout.specs.Words.{IsRootOf}
use Rattle.ft_layout.specs.Tables.{UsedEntry, is_live, IsDictTable, IsSetTable, IsListTable}

-- the last index slot of a table of this class
abbrev pub class_mask : ℕ → ℕ
class_mask class = 2 ^ class - 1

-- the word is the root of a table of this class, or of none
abbrev pub IsRoot : ℕ → Option ℕ → Type 0
IsRoot root None = root ≡ 0
IsRoot root (Some class) = (number : ℕ) × IsRootOf root class number

-- A block is seen as the list of its words 2 to 7, without the lock and the version. This is one of them, by its
-- number.
abbrev pub block_word : List ℕ → ℕ → ℕ
block_word block word = slice_index block (word - 2)

-- root, how many pairs, elements or items there are, how many entries were used, and the next serial
pub record IsBlock (block : List ℕ) (class : Option ℕ) (count fill next : ℕ) : Type 0 where
  pub size : length block ≡ 6
  pub root : IsRoot (block_word block 2) class
  pub count_is : block_word block 3 ≡ count
  pub fill_is : block_word block 4 ≡ fill
  pub next_is : block_word block 5 ≡ next
  pub spare : (block_word block 6 ≡ 0) × (block_word block 7 ≡ 0)

-- a block with no table, whose words are 0
abbrev pub IsBlank : List ℕ → Type 0
IsBlank block = block ≡ replicate 6 0

-- the used entry of a pair, or of an element, that is there
abbrev pub used_pair : DictPair → UsedEntry
used_pair pair = record { key = pair.key; serial = pair.serial; stored = Some (Plain pair.value) }

abbrev pub used_element : Element → UsedEntry
used_element element = record { key = element.key; serial = element.serial; stored = Some Empty }

-- The used entries of a dict: the live ones are its pairs, in the order of their places, and so of their serials. Each
-- serial is below the next one, a deleted entry's too.
pub record AreDictEntries (used : List UsedEntry) (dict : DictContent) : Type 0 where
  pub live : filter is_live used ≡ map used_pair dict.pairs
  pub below : All (λ entry. entry.serial < dict.next) used

-- of a set likewise, with its elements
pub record AreSetEntries (used : List UsedEntry) (set : SetContent) : Type 0 where
  pub live : filter is_live used ≡ map used_element set.elements
  pub below : All (λ entry. entry.serial < set.next) used

-- the entries are those of the table, where there is one; else none was used
abbrev pub InDictTable : List ℕ → List ℕ → Option ℕ → List UsedEntry → Type 0
InDictTable texts words None used = used ≡ []
InDictTable texts words (Some class) used = IsDictTable texts (class_mask class) used words

abbrev pub InSetTable : List ℕ → List ℕ → Option ℕ → List UsedEntry → Type 0
InSetTable texts words None used = used ≡ []
InSetTable texts words (Some class) used = IsSetTable texts (class_mask class) used words

abbrev pub InListTable : List ℕ → Option ℕ → List Value → Type 0
InListTable words None values = values ≡ []
InListTable words (Some class) values = IsListTable (class_mask class) values words

-- A dict, whose entries the table has.
pub record IsDictWords (texts block words : List ℕ) (class : Option ℕ) (fill : ℕ) (dict : DictContent) : Type 0 where
  pub head : IsBlock block class (length dict.pairs) fill dict.next
  pub used : List UsedEntry
  pub table : InDictTable texts words class used
  pub filled : length used ≡ fill
  pub entries : AreDictEntries used dict

-- A set, likewise.
pub record IsSetWords (texts block words : List ℕ) (class : Option ℕ) (fill : ℕ) (set : SetContent) : Type 0 where
  pub head : IsBlock block class (length set.elements) fill set.next
  pub used : List UsedEntry
  pub table : InSetTable texts words class used
  pub filled : length used ≡ fill
  pub entries : AreSetEntries used set

-- A list: its values are the items, each at its index. It has neither a fill nor serials.
pub record IsListWords (block words : List ℕ) (class : Option ℕ) (values : List Value) : Type 0 where
  pub head : IsBlock block class (length values) 0 0
  pub table : InListTable words class values

-- By its kind: the words stand for the content of a container, with this class and fill of its table. No words stand
-- yet for a deque that had an item: its block is blank.
abbrev pub StandsAs : List ℕ → List ℕ → List ℕ → TableUse → Content → Type 0
StandsAs texts block words table (content.Dict dict) = IsDictWords texts block words table.class table.fill dict
StandsAs texts block words table (content.Set set) = IsSetWords texts block words table.class table.fill set
StandsAs texts block words table (content.List values) = IsListWords block words table.class values × (table.fill ≡ 0)
StandsAs texts block words table (content.Deque deque) =
    IsBlank block × (table ≡ no_table) × (deque ≡ empty_deque deque.bound)
