use Rattle.std.specs.Prelude.{◌≡◌, ℕ, ◌+◌}
use Rattle.ft_trace.specs.Addresses.{class_of}
use Rattle.ft_trace.specs.Boxes.{names_box_at, references_held}
use Rattle.ft_trace.specs.ContainerStates.{kind_in}
use Rattle.ft_trace.specs.Holds.{in_hand}
use Rattle.ft_trace.specs.Sums.{sum_to}
use Rattle.ft_bank.specs.Passes.{shape_of, view, IsPassOf}
use Rattle.ft_bank.specs.PassSections.{stack_of}
use Rattle.ft_bank.specs.SameBoxes.{StaysSettled}
use Rattle.ft_bank.specs.TableNames.{table_id}
use Rattle.ft_bank.specs.Whole.{OnlyBoxed}
use Rattle.ft_boxes.specs.References.{KeepsValues}
use Rattle.ft_table_calls.proofs.dropping.drop_values.Given as goal

-- the references of the rows from here on are left
abbrev pub invariant-loop-row : goal.invariant-loop-row
invariant-loop-row l = record {
  pass : IsPassOf l.bank l.pass;
  stack : stack_of l.pass ≡ stack_of l.fn.pass;
  only : OnlyBoxed (view l.fn.pass) (view l.pass);
  made : StaysSettled (view l.fn.pass) (view l.pass);
  values : KeepsValues (view l.fn.pass) (view l.pass);
  left : (b : ℕ) → references_held (shape_of l.bank) b (view l.pass).log
      + sum_to (names_box_at b (kind_in (shape_of l.bank).starts l.o) (class_of (table_id l.table)) (in_hand (table_id l.table) (view l.fn.pass))) l.row
      ≡ references_held (shape_of l.bank) b (view l.fn.pass).log;
}
