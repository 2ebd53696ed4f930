-- The words of a container as they read through boxes: a value that names a box has the kind and the payload that stand
-- in the box.
use Rattle.std.specs.Prelude.{ℕ, zero, suc, ◌==◌, cond, List, slice_index, slice_set}
use Rattle.ft_model.specs.declared.script.Kind.{Kind}
use Rattle.ft_trace.specs.declared.Shape.{Shape}
use Rattle.ft_trace.specs.Addresses.{box_word, class_of, at}
use Rattle.ft_trace.specs.ContainerStates.{kind_in}
use Rattle.ft_trace.specs.Pictures.{ContainerWords, picture, root_in, table_words}
use Rattle.ft_trace.specs.Kinds.{rows}
use Rattle.ft_trace.specs.Boxes.{value_at}
use Rattle.ft_layout.specs.Starts.{kind_word, payload_word}
use Rattle.ft_trace.specs.BoxWords.{box_kind}

-- word i of the box b, in these words of the bank
abbrev pub box_word_in : Shape → List ℕ → ℕ → ℕ → ℕ
box_word_in k ws b i = slice_index ws (at k (box_word b i))

-- what a value of this kind and payload reads, where `box` tells the words of boxes
abbrev pub unboxed_kind : (ℕ → ℕ → ℕ) → ℕ → ℕ → ℕ
unboxed_kind box kind payload = cond (kind == box_kind) (box payload kind_word) kind

abbrev pub unboxed_payload : (ℕ → ℕ → ℕ) → ℕ → ℕ → ℕ
unboxed_payload box kind payload = cond (kind == box_kind) (box payload payload_word) payload

-- a table whose value at this place is another
abbrev pub with_value : ℕ → ℕ → ℕ → List ℕ → List ℕ
with_value place kind payload table = slice_set (slice_set table place kind) (suc place) payload

-- a table whose first n values are read
abbrev pub unboxed_rows : (ℕ → ℕ → ℕ) → Kind → ℕ → ℕ → List ℕ → List ℕ
unboxed_rows box kind class zero table = table
unboxed_rows box kind class (suc p) table =
    with_value (value_at kind class p)
    (unboxed_kind box (slice_index table (value_at kind class p)) (slice_index table (suc (value_at kind class p))))
    (unboxed_payload box (slice_index table (value_at kind class p)) (slice_index table (suc (value_at kind class p))))
    (unboxed_rows box kind class p table)

abbrev pub unboxed_table : (ℕ → ℕ → ℕ) → Kind → ℕ → List ℕ → List ℕ
unboxed_table box kind zero table = table
unboxed_table box kind (suc t) table = unboxed_rows box kind (class_of t) (rows kind (class_of t)) table

-- the words of the table t as they read, where it is that of the container o or is to be
abbrev pub unboxed_words : Shape → ℕ → ℕ → List ℕ → List ℕ
unboxed_words k o t ws = unboxed_table (box_word_in k ws) (kind_in k.starts o) (suc t) (table_words k t ws)

-- the words of a container as they read
abbrev pub unboxed : (ℕ → ℕ → ℕ) → Kind → ContainerWords → ContainerWords
unboxed box kind x = record { block = x.block; table = unboxed_table box kind (root_in x) x.table }

abbrev pub unboxed_picture : Shape → ℕ → List ℕ → ContainerWords
unboxed_picture k o ws = unboxed (box_word_in k ws) (kind_in k.starts o) (picture k o ws)
