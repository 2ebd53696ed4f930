-- A dict that gets a copy of another one, or of itself, shares the boxes of its values: its new table names the boxes that
-- the table of that one names.
use Rattle.std.specs.Prelude.{◌≡◌, ℕ, suc, ◌+◌, ◌<◌, true, List, ◌∷◌, [], filter, slice_index}
use Rattle.ft_model.specs.Classes.{IsClass}
use Rattle.ft_model.specs.Worlds.{serial_of}
use Rattle.ft_layout.specs.Containers.{class_mask}
use Rattle.ft_layout.specs.Tables.{UsedEntry, is_live, IsDictTable}
use Rattle.ft_trace.specs.declared.Shape.{Shape}
use Rattle.ft_trace.specs.declared.View.{View}
use Rattle.ft_trace.specs.Acts.{has_lock}
use Rattle.ft_trace.specs.Addresses.{class_of, container_count, IsBoxName}
use Rattle.ft_trace.specs.Boxes.{value_at, KeepsBox}
use Rattle.ft_trace.specs.BoxWords.{box_kind}
use Rattle.ft_trace.specs.ContainerStates.{kind_in}
use Rattle.ft_trace.specs.Holds.{held_words, in_hand, known_state}
use Rattle.ft_trace.specs.Kinds.{rows}
use Rattle.ft_trace.specs.Pictures.{root_in}

-- The container q, whose lock the pass has, names the box in the value of a row of its table. (profile)
pub record IsNamedBy (k : Shape) (q b : ℕ) (v : View) : Type 0 where
  pub container : q < container_count k
  pub locked : has_lock q v.log ≡ true
  pub table : ℕ
  pub is_class : IsClass (class_of table)
  pub root : root_in (held_words q v) ≡ suc table
  pub row : ℕ
  pub low : row < rows (kind_in k.starts q) (class_of table)
  pub kind_is : slice_index (held_words q v).table (value_at (kind_in k.starts q) (class_of table) row) ≡ box_kind
  pub payload_is : slice_index (held_words q v).table (suc (value_at (kind_in k.starts q) (class_of table) row)) ≡ b

-- Each box that the table t in the pass's hand names, read as one of the container o, is named by a container whose lock
-- the pass has, which may be o. (profile)
abbrev pub NamesLocked : Shape → ℕ → ℕ → View → Type 0
NamesLocked k o t v =
    (p : ℕ) → p < rows (kind_in k.starts o) (class_of t)
    → slice_index (in_hand t v) (value_at (kind_in k.starts o) (class_of t) p) ≡ box_kind
    → (q : ℕ) × IsNamedBy k q (slice_index (in_hand t v) (suc (value_at (kind_in k.starts o) (class_of t) p))) v

-- Each box that the table t in the pass's hand names, read as one of the container o, is one of the bank, and is kept: the
-- pass holds a reference for it, or has the lock of a container that names it. (profile)
abbrev pub NamesKept : Shape → ℕ → ℕ → View → Type 0
NamesKept k o t v =
    (p : ℕ) → p < rows (kind_in k.starts o) (class_of t)
    → slice_index (in_hand t v) (value_at (kind_in k.starts o) (class_of t) p) ≡ box_kind
    → IsBoxName k (slice_index (in_hand t v) (suc (value_at (kind_in k.starts o) (class_of t) p)))
    × KeepsBox k (slice_index (in_hand t v) (suc (value_at (kind_in k.starts o) (class_of t) p))) v.log

-- used entries with other serials, which rise one by one from this one
abbrev pub numbered_from : ℕ → List UsedEntry → List UsedEntry
numbered_from next [] = []
numbered_from next (entry ∷ entries) =
    record { key = entry.key; serial = next; stored = entry.stored } ∷ numbered_from (next + 1) entries

-- As they stand, these words of a table have the entries of those of another one that were not deleted, in their order,
-- with serials from this one on: an entry whose value stands in a box there has that box here as well.
pub record SharesEntries
    (texts : List ℕ) (next from_class : ℕ) (from : List ℕ) (class : ℕ) (words : List ℕ)
    : Type 0 where
  pub used : List UsedEntry
  pub had : IsDictTable texts (class_mask from_class) used (0 ∷ 0 ∷ from)
  pub has : IsDictTable texts (class_mask class) (numbered_from next (filter is_live used)) (0 ∷ 0 ∷ words)

-- The table that the dict e has after the call shares its entries with the one that the dict d, which may be e, had before
-- it. (profile)
abbrev pub SharesPairs : Shape → ℕ → ℕ → View → View → Type 0
SharesPairs k d e v w =
    (s t : ℕ) → root_in (held_words d v) ≡ suc s → root_in (held_words e w) ≡ suc t
    → SharesEntries k.texts (serial_of (known_state e v).content) (class_of s) (held_words d v).table (class_of t)
    (held_words e w).table
