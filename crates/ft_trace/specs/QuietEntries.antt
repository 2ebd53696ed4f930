-- What a reader of one entry or item needs of its box.
use Rattle.std.specs.Prelude.{◌≡◌, ◌⊎◌, ℕ, suc, ◌%◌, ◌<◌, List, ◌++◌, slice_index}
use Rattle.ft_trace.specs.declared.Shape.{Shape}
use Rattle.ft_trace.specs.Addresses.{block, box_word, class_of, container_count}
use Rattle.ft_trace.specs.Ages.{age}
use Rattle.ft_trace.specs.ContainerStates.{kind_in}
use Rattle.ft_trace.specs.Pictures.{table_words}
use Rattle.ft_trace.specs.Kinds.{rows, version_at}
use Rattle.ft_trace.specs.Boxes.{row_kind, row_payload}
use Rattle.ft_trace.specs.Traces.{Event, run, word, Valid}
use Rattle.ft_layout.specs.Starts.{kind_word, payload_word}
use Rattle.ft_trace.specs.BoxWords.{box_kind}

-- While a root names a table, and an entry or item of it keeps an even version, the value in the box that it names
-- stays. So what was read of the box between two equal even loads of that version is its value, without a reference.
abbrev pub QuietEntriesKeepBoxes : Type 0
QuietEntriesKeepBoxes =
    (k : Shape) (newer older : List Event) → Valid k (newer ++ older) → (o : ℕ) → o < container_count k → (t p i : ℕ)
    → word k older (block o 0) ≡ suc t → age (newer ++ older) t ≡ age older t
    → p < rows (kind_in k.starts o) (class_of t)
    → slice_index (table_words k t (run k older).words) (version_at (kind_in k.starts o) (class_of t) p) % 2 ≡ 0
    → slice_index (table_words k t (run k (newer ++ older)).words) (version_at (kind_in k.starts o) (class_of t) p)
    ≡ slice_index (table_words k t (run k older).words) (version_at (kind_in k.starts o) (class_of t) p)
    → row_kind k o t (table_words k t (run k older).words) p ≡ box_kind → (i ≡ kind_word) ⊎ (i ≡ payload_word)
    → word k (newer ++ older) (box_word (row_payload k o t (table_words k t (run k older).words) p) i)
    ≡ word k older (box_word (row_payload k o t (table_words k t (run k older).words) p) i)
