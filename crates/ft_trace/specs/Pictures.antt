-- The words of a block and of a table as lists, and what it is for them to stand for a content.
use Rattle.std.specs.Prelude.{◌≡◌, ◌≢◌, ℕ, zero, suc, ◌+◌, ◌*◌, ◌<◌, ◌≤◌, List, [], ◌∷◌, length, slice_index}
use Rattle.ft_model.specs.declared.data.Key.{Key}
use Rattle.ft_model.specs.declared.script.Kind.{Kind}
use Rattle.ft_model.specs.declared.script.Kind.TheVariants as kind
use Rattle.ft_hash.specs.Probes.{dict_slots, set_slots}
use Rattle.ft_layout.specs.Tables.{hash_of}
use Rattle.ft_layout.specs.Containers.{class_mask, StandsAs}
use Rattle.ft_trace.specs.declared.Shape.{Shape}
use Rattle.ft_trace.specs.Addresses.{block, cell, class_of, size, at}
use Rattle.ft_trace.specs.ContainerStates.{ContainerState}

-- n words from this one on
abbrev pub piece : List ℕ → ℕ → ℕ → List ℕ
piece ws at zero = []
piece ws at (suc n) = slice_index ws at ∷ piece ws (at + 1) n

-- the words of a table after its header
unfoldable pub table_words : Shape → ℕ → List ℕ → List ℕ
table_words k t ws = piece ws (at k (cell t 0)) (size (class_of t))

-- words 2 to 7 of a container's block
unfoldable pub block_of : Shape → ℕ → List ℕ → List ℕ
block_of k o ws = piece ws (at k (block o 0)) 6

abbrev pub root_of : Shape → ℕ → List ℕ → ℕ
root_of k o ws = slice_index ws (at k (block o 0))

-- the words of the table that a root names
abbrev pub inner : Shape → ℕ → List ℕ → List ℕ
inner k zero ws = []
inner k (suc t) ws = table_words k t ws

-- what a container's words are: words 2 to 7 of its block, and those of its table
pub record ContainerWords : Type 0 where
  pub block : List ℕ
  pub table : List ℕ

abbrev pub root_in : ContainerWords → ℕ
root_in x = slice_index x.block 0

abbrev pub picture : Shape → ℕ → List ℕ → ContainerWords
picture k o ws = record { block = block_of k o ws; table = inner k (root_of k o ws) ws }

-- they stand for a content with this class and fill; the two words of a table's header say nothing of it
abbrev pub Represents : List ℕ → ContainerWords → ContainerState → Type 0
Represents texts x kept = StandsAs texts x.block (0 ∷ 0 ∷ x.table) kept.table kept.content

-- ---- words of a table

abbrev pub index_field : List ℕ → ℕ → ℕ
index_field ws s = slice_index ws s

-- where a word of an entry lies after n index slots: word 0 is its version, 1 its hash, 2 the kind of its key, 3 the
-- key's payload, 4 and 5 its value, 6 its serial
abbrev pub entry_offset : ℕ → ℕ → ℕ → ℕ
entry_offset n p w = 8 * p + w + n

abbrev pub entry_field : ℕ → List ℕ → ℕ → ℕ → ℕ
entry_field n ws p w = slice_index ws (entry_offset n p w)

-- and where a word of a list's item lies: word 0 is its version, 1 and 2 are its value
abbrev pub item_offset : ℕ → ℕ → ℕ
item_offset p w = 4 * p + w

abbrev pub item_field : List ℕ → ℕ → ℕ → ℕ
item_field ws p w = slice_index ws (item_offset p w)

-- the slots that are tried for a key in a table of this class
unfoldable pub walk_of : Kind → List ℕ → ℕ → Key → List ℕ
walk_of kind.Dict texts class key = dict_slots (hash_of texts key) (class_mask class) (class_mask class + 14)
walk_of kind.Set texts class key = set_slots (hash_of texts key) (class_mask class) (class_mask class + 14)
walk_of kind.List texts class key = []
walk_of (kind.Deque bound) texts class key = []

-- the walk meets this number at a slot, and before it no slot never used
pub record Met (n : ℕ) (ws walk : List ℕ) (x : ℕ) : Type 0 where
  pub step : ℕ
  pub low : step < length walk
  pub inside : (j : ℕ) → j ≤ step → slice_index walk j < n
  pub here : index_field ws (slice_index walk step) ≡ x
  pub before : (j : ℕ) → j < step → index_field ws (slice_index walk j) ≢ 0
