-- The references that a pass drops when it has taken a table out of a root.
use Rattle.std.specs.Prelude.{◌≡◌, ℕ, suc, ◌+◌, ◌*◌, ◌<◌, ◌≤◌}
use Rattle.ft_model.specs.declared.script.Kind.{Kind}
use Rattle.ft_trace.specs.declared.Shape.{Shape}
use Rattle.ft_trace.specs.declared.View.{View}
use Rattle.ft_layout.specs.declared.slot.Ref.{Ref}
use Rattle.ft_trace.specs.Boxes.{value_at, named_in_root, references_held, IsSettled}
use Rattle.ft_trace.specs.ContainerStates.{kind_in}
use Rattle.ft_trace.specs.Holds.{in_hand}
use Rattle.ft_trace.specs.Kinds.{rows}
use Rattle.ft_bank.specs.SameBoxes.{TakesNoPlace}
use Rattle.ft_bank.specs.Whole.{OnlyBoxed}
use Rattle.ft_boxes.specs.References.{HoldsOneLess, LeavesNoTaken}
use Rattle.ft_table_calls.specs.declared.adding.Added.{Added}
use Rattle.ft_table_calls.specs.declared.adding.Added.TheVariants as added
use Rattle.ft_table_calls.specs.declared.dropping.ValuePlaces.{ValuePlaces}

-- the values of a table of a container of this kind, which is of this class, lie there
abbrev pub AreValuePlaces : Kind → ℕ → ValuePlaces → Type 0
AreValuePlaces kind class at =
    (at.rows ≡ rows kind class)
    × ((p : ℕ) → p < rows kind class → value_at kind class p ≡ at.first + at.step * p)

-- the pass holds the references of the boxes that the table t in its hand names, read as one of the container o
abbrev pub HoldsNamed : Shape → ℕ → ℕ → View → Type 0
HoldsNamed k o t v =
    (b : ℕ) → named_in_root b (kind_in k.starts o) (suc t) (in_hand t v) ≤ references_held k b v.log

-- The pass has dropped one reference for this box. (profile)
pub record Drops (b : Ref) (v w : View) : Type 0 where
  pub only : OnlyBoxed v w
  pub settled : IsSettled w.log
  pub less : HoldsOneLess b v w
  pub places : TakesNoPlace v w
  pub gone : LeavesNoTaken b v w

-- where the call wasn't made, the pass has dropped one reference for this box; else it did nothing
abbrev pub DropsUnmade : Ref → View → View → Added → Type 0
DropsUnmade b v w (added.Made stamp) = w ≡ v
DropsUnmade b v w (added.NoTable class stamp) = Drops b v w
DropsUnmade b v w (added.Over stamp) = Drops b v w
DropsUnmade b v w (added.NoPlace stamp) = Drops b v w
DropsUnmade b v w (added.Moved first second) = Drops b v w
