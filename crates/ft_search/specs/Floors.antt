-- Looks without the lock by a pass that has the floor: no other pass writes meanwhile, so nothing stops them.
use Rattle.std.specs.Prelude.{◌≡◌, ℕ, ◌<◌, true, false, List, ◌++◌}
use Rattle.ft_model.specs.declared.data.Key.{Key}
use Rattle.ft_trace.specs.declared.Act.{Act}
use Rattle.ft_trace.specs.declared.View.{View}
use Rattle.ft_trace.specs.Acts.{is_writing}
use Rattle.ft_trace.specs.Addresses.{container_count}
use Rattle.ft_trace.specs.Kinds.{IsKeyed}
use Rattle.ft_trace.specs.Traces.{IsReachable}
use Rattle.ft_trace.specs.ContainerStates.{kind_in}
use Rattle.ft_search.specs.Lengths.{StopsAtVersion}
use Rattle.ft_search.specs.KeyLooks.{Stops}
use Rattle.ft_search.specs.LookSteps.{AreLookSteps}

-- the last actions of a pass that has the floor and writes no container were these steps of looks
pub record LooksWithFloor (w : View) (part : List Act) : Type 0 where
  pub older : List Act
  pub is : w.log ≡ part ++ older
  pub looks : AreLookSteps part
  pub floor : w.has_floor ≡ true
  pub still : (o : ℕ) → is_writing o w.log ≡ false

-- no version of a container stops them
abbrev pub FloorVersionsStand : Type 0
FloorVersionsStand =
    (w : View) (part : List Act) → IsReachable w → LooksWithFloor w part → (o a b : ℕ) → o < container_count w.shape
    → StopsAtVersion o a b part → ⊥

-- nor does the version of an entry of a key, nor the count of the box that the entry names
abbrev pub FloorEntriesStand : Type 0
FloorEntriesStand =
    (w : View) (part : List Act) → IsReachable w → LooksWithFloor w part → (o : ℕ) (key : Key) (a b : ℕ)
    → o < container_count w.shape → IsKeyed (kind_in w.shape.starts o) → Stops w.shape o key a b part → ⊥
