use Rattle.std.specs.Prelude.{◌≡◌, ℕ, ◌+◌}
use Rattle.ft_trace.specs.Addresses.{class_of}
use Rattle.ft_trace.specs.Boxes.{names_box_at, references_held}
use Rattle.ft_trace.specs.ContainerStates.{kind_in}
use Rattle.ft_trace.specs.Holds.{in_hand}
use Rattle.ft_trace.specs.Sums.{sum_to}
use Rattle.ft_bank.specs.Passes.{shape_of, view, IsPassOf}
use Rattle.ft_bank.specs.PassSections.{stack_of}
use Rattle.ft_bank.specs.SameBoxes.{GainsRaised, StaysSettled}
use Rattle.ft_bank.specs.TableNames.{table_id}
use Rattle.ft_bank.specs.Whole.{OnlyBoxed}
use Rattle.ft_boxes.specs.References.{KeepsValues}
use Rattle.ft_replacing.proofs.raising.raise_values.Given as goal

-- the counts of the rows before this one are raised
abbrev pub invariant-loop-row : goal.invariant-loop-row
invariant-loop-row l = record {
  pass : IsPassOf l.bank l.pass;
  stack : stack_of l.pass ≡ stack_of l.fn.pass;
  only : OnlyBoxed (view l.fn.pass) (view l.pass);
  stays : StaysSettled (view l.fn.pass) (view l.pass);
  values : KeepsValues (view l.fn.pass) (view l.pass);
  gains : GainsRaised (view l.fn.pass) (view l.pass);
  held : (b : ℕ) → references_held (shape_of l.bank) b (view l.pass).log
      ≡ references_held (shape_of l.bank) b (view l.fn.pass).log
      + sum_to (names_box_at b (kind_in (shape_of l.bank).starts l.o) (class_of (table_id l.table)) (in_hand (table_id l.table) (view l.fn.pass))) l.row;
}
