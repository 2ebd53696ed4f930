-- A box in the midst of a call of its maker.
use Rattle.std.specs.Prelude.{◌≡◌, ◌≢◌, ℕ, ◌^◌, ◌<◌, ◌≤◌}
use Rattle.ft_layout.specs.declared.slot.Ref.{Ref}
use Rattle.ft_trace.specs.declared.View.{View}
use Rattle.ft_trace.specs.Addresses.{place_in}
use Rattle.ft_trace.specs.Boxes.{made_state, local_count, taken_out, place_to_give, place_use, state_making, state_default}
use Rattle.ft_bank.specs.BoxSteps.{box_id, IsOwn}
use Rattle.ft_bank.specs.SameBoxes.{SameReferences}
use Rattle.ft_boxes.specs.Merging.{FoundCounts}
use Rattle.ft_boxes.specs.References.{LeavesOthers}

-- as `IsSettled`, but for one box whose local count may be 0
pub record IsSettledBut (b : Ref) (v : View) : Type 0 where
  pub unmade : (c : ℕ) → made_state c v.log ≢ state_making
  pub counted : (c : ℕ) → c ≢ box_id b → made_state c v.log ≡ state_default → 0 < local_count c v.log
  pub whole : (c : ℕ) → made_state c v.log ≡ state_default → taken_out c v.log ≡ 0
  pub given : (c : ℕ) → place_to_give c v.log ≡ 0

-- the pass has taken this many out of the local count of its box, which is 0 now, and has changed nothing else
pub record HasTakenOut (b : Ref) (taken : ℕ) (v w : View) : Type 0 where
  pub own : IsOwn b w
  pub none : local_count (box_id b) w.log ≡ 0
  pub is : taken_out (box_id b) w.log ≡ taken
  pub few : taken ≤ 2 ^ 60
  pub given : place_to_give (box_id b) w.log ≡ place_to_give (box_id b) v.log
  pub uses : place_use (box_id b) w.log ≡ place_use (box_id b) v.log
  pub others : LeavesOthers b v w
  pub same : SameReferences v w

-- each box from one place to another, the last one not among them, that the pass has in the default state had references when
-- the call loaded its counts
abbrev pub LeavesNoIdleBoxIn : ℕ → ℕ → View → View → Type 0
LeavesNoIdleBoxIn first past v w =
    (b : ℕ) → first ≤ place_in b → place_in b < past → made_state b w.log ≡ state_default
    → (total : ℕ) × (total ≢ 0) × FoundCounts b total v w
