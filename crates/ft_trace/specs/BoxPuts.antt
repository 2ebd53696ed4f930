-- Which puts into a table that a root names need references: conditions that callers can meet.
use Rattle.std.specs.Prelude.{◌≡◌, ◌≢◌, ◌⊎◌, ℕ, suc, ◌+◌, ◌^◌, ◌<◌, true, List, length, slice_set}
use Rattle.ft_trace.specs.declared.Shape.{Shape}
use Rattle.ft_trace.specs.declared.Act.{Act}
use Rattle.ft_trace.specs.declared.Act.TheVariants.{PutTable}
use Rattle.ft_trace.specs.Addresses.{class_of, container_count, size, IsTableName, extent}
use Rattle.ft_trace.specs.Acts.{mem}
use Rattle.ft_trace.specs.ContainerStates.{kind_in}
use Rattle.ft_trace.specs.Pictures.{table_words, root_of}
use Rattle.ft_trace.specs.Kinds.{rows}
use Rattle.ft_trace.specs.Boxes.{value_at, row_kind, row_payload, references_held, knows_box_word, HasReferences}
use Rattle.ft_layout.specs.Starts.{kind_word, payload_word}
use Rattle.ft_trace.specs.BoxWords.{box_kind}

-- the pass holds a reference for the box, and knows its value
abbrev pub HasOwnReference : Shape → List Act → ℕ → Type 0
HasOwnReference k l b =
    (0 < references_held k b l) × (knows_box_word k b kind_word l ≡ true) × (knows_box_word k b payload_word l ≡ true)

-- A word that is no value's needs none. A word of the value in row p needs one where the value names a box after the
-- put: a reference for that box, whose value the pass knows.
abbrev pub PutsHaveReferences : Type 0
PutsHaveReferences =
    (k : Shape) (l : List Act) (o t i x : ℕ) → o < container_count k → IsTableName k t → i < size (class_of t)
    → length (mem k l) ≡ extent k → root_of k o (mem k l) ≡ suc t → ((b : ℕ) → references_held k b l + 1 < 2 ^ 32)
    → (((q : ℕ) → q < rows (kind_in k.starts o) (class_of t)
    → (i ≢ value_at (kind_in k.starts o) (class_of t) q) × (i ≢ suc (value_at (kind_in k.starts o) (class_of t) q)))
    → HasReferences k l (PutTable o t i x) o)
    × ((p : ℕ) → p < rows (kind_in k.starts o) (class_of t)
    → (i ≡ value_at (kind_in k.starts o) (class_of t) p) ⊎ (i ≡ suc (value_at (kind_in k.starts o) (class_of t) p))
    → (row_kind k o t (slice_set (table_words k t (mem k l)) i x) p ≡ box_kind
    → HasOwnReference k l (row_payload k o t (slice_set (table_words k t (mem k l)) i x) p))
    → HasReferences k l (PutTable o t i x) o)
