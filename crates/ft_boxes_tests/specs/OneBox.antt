-- What two passes have to do with a box that an item of a list has, over its merge to its end.
use Rattle.std.specs.Prelude.{◌≡◌, ◌≢◌, ℕ, List}
use Rattle.ft_layout.specs.declared.slot.Ref.{Ref}
use Rattle.ft_trace.specs.declared.Act.{Act}
use Rattle.ft_trace.specs.declared.Shape.{Shape}
use Rattle.ft_trace.specs.Boxes.{made_state, local_count, taken_out, references_held, state_default}
use Rattle.ft_trace.specs.SeenBoxes.{SawBox}
use Rattle.ft_bank.specs.BoxSteps.{box_id, IsBoxIn}

-- the pass made the box, which is in the default state; its local count and what was taken out of it are these
pub record OwnsBox (k : Shape) (b : Ref) (local taken : ℕ) (log : List Act) : Type 0 where
  pub name : IsBoxIn k b
  pub own : made_state (box_id b) log ≡ state_default
  pub counted : local_count (box_id b) log ≡ local
  pub out : taken_out (box_id b) log ≡ taken

-- it shares the box with others, has seen its name, and holds this many references
pub record SharesBox (k : Shape) (b : Ref) (count : ℕ) (log : List Act) : Type 0 where
  pub name : IsBoxIn k b
  pub shared : made_state (box_id b) log ≢ state_default
  pub held : references_held k (box_id b) log ≡ count
  pub saw : SawBox k (box_id b) log
