-- Looks at a list's items without the lock by a pass that has the floor: no other pass writes meanwhile, so nothing stops
-- them.
use Rattle.std.specs.Prelude.{ℕ, ◌<◌, List}
use Rattle.ft_trace.specs.declared.Act.{Act}
use Rattle.ft_trace.specs.declared.View.{View}
use Rattle.ft_trace.specs.Addresses.{container_count}
use Rattle.ft_trace.specs.Kinds.{IsItems}
use Rattle.ft_trace.specs.Traces.{IsReachable}
use Rattle.ft_trace.specs.ContainerStates.{kind_in}
use Rattle.ft_search.specs.Floors.{LooksWithFloor}
use Rattle.ft_list.specs.ItemLooks.{StopsItemLook}

-- no version of an item stops them, none of the list, and no count of the box that an item names
abbrev pub FloorItemsStand : Type 0
FloorItemsStand =
    (w : View) (part : List Act) → IsReachable w → LooksWithFloor w part → (o index a b : ℕ)
    → o < container_count w.shape
    → IsItems (kind_in w.shape.starts o) → StopsItemLook o index a b part → ⊥
