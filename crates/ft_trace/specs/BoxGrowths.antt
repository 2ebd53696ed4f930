-- Which references the put of a root needs: a growth moves those of the table that the root named, and changes no
-- count.
use Rattle.std.specs.Prelude.{◌≡◌, ◌≢◌, ℕ, suc, ◌^◌, ◌<◌, ◌≤◌, List, ◌∷◌, length}
use Rattle.ft_trace.specs.declared.Shape.{Shape}
use Rattle.ft_trace.specs.declared.Act.{Act}
use Rattle.ft_trace.specs.declared.Act.TheVariants.{PutRoot}
use Rattle.ft_trace.specs.Addresses.{class_of, container_count, IsTableName, extent}
use Rattle.ft_trace.specs.Acts.{mem}
use Rattle.ft_trace.specs.ContainerStates.{kind_in}
use Rattle.ft_trace.specs.Pictures.{table_words, root_of}
use Rattle.ft_trace.specs.Kinds.{rows}
use Rattle.ft_trace.specs.Boxes.{row_kind, row_payload, references_held, HasReferences}
use Rattle.ft_trace.specs.BoxWords.{box_kind}

-- the values of the first rows are those of the other table, and later ones name no box
pub record CopiesValues (k : Shape) (o q t : ℕ) (ws : List ℕ) : Type 0 where
  pub more : rows (kind_in k.starts o) (class_of q) ≤ rows (kind_in k.starts o) (class_of t)
  pub kind_is : (p : ℕ) → p < rows (kind_in k.starts o) (class_of q)
      → row_kind k o t (table_words k t ws) p ≡ row_kind k o q (table_words k q ws) p
  pub payload_is : (p : ℕ) → p < rows (kind_in k.starts o) (class_of q)
      → row_payload k o t (table_words k t ws) p ≡ row_payload k o q (table_words k q ws) p
  pub none : (p : ℕ) → rows (kind_in k.starts o) (class_of q) ≤ p → p < rows (kind_in k.starts o) (class_of t)
      → row_kind k o t (table_words k t ws) p ≢ box_kind

-- the root may be put, and the pass holds as many references for each box as before
abbrev pub GrowthsMoveReferences : Type 0
GrowthsMoveReferences =
    (k : Shape) (l : List Act) (o q t : ℕ) → o < container_count k → IsTableName k t → length (mem k l) ≡ extent k
    → root_of k o (mem k l) ≡ suc q → CopiesValues k o q t (mem k l) → ((b : ℕ) → references_held k b l < 2 ^ 32)
    → HasReferences k l (PutRoot o (suc t) (suc q)) o
    × ((b : ℕ) → references_held k b (PutRoot o (suc t) (suc q) ∷ l) ≡ references_held k b l)
