-- What is loaded of an item whose value may name a box.
use Rattle.std.specs.Prelude.{ℕ, List, [], ◌∷◌}
use Rattle.ft_trace.specs.declared.Act.{Act}
use Rattle.ft_trace.specs.declared.Act.TheVariants.{ReadTable}
use Rattle.ft_trace.specs.Pictures.{item_offset}
use Rattle.ft_boxes_tests.specs.declared.seeing.SeenItem.{SeenItem}

-- the loads of an item between two loads of its version, newest first
abbrev pub item_acts : ℕ → ℕ → SeenItem → List Act
item_acts t index seen =
    ReadTable t (item_offset index 0) seen.closed
    ∷ (ReadTable t (item_offset index 2) seen.payload
    ∷ (ReadTable t (item_offset index 1) seen.kind
    ∷ (ReadTable t (item_offset index 0) seen.opened ∷ [])))
