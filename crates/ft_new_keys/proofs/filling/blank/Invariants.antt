use Rattle.std.proofs.Common.{◌≡◌}
use Rattle.ft_trace.specs.Addresses.{class_of}
use Rattle.ft_trace.specs.Holds.{in_hand}
use Rattle.ft_bank.specs.Passes.{view, IsPassOf}
use Rattle.ft_bank.specs.PassSections.{stack_of}
use Rattle.ft_bank.specs.TableNames.{table_id}
use Rattle.ft_boxes.specs.References.{KeepsValues}
use Rattle.ft_table_calls.specs.Adding.{OnlyFilled}
use Rattle.ft_new_keys.specs.Fresh.{BlankBelow}
use Rattle.ft_new_keys.proofs.filling.blank.Given as goal

abbrev pub invariant-loop-at : goal.invariant-loop-at
invariant-loop-at l = record {
  pass : IsPassOf l.bank l.pass;
  stack : stack_of l.pass ≡ stack_of l.initial.pass;
  only : OnlyFilled (view l.initial.pass) (view l.pass);
  values : KeepsValues (view l.initial.pass) (view l.pass);
  blank : BlankBelow (class_of (table_id l.table)) l.at (in_hand (table_id l.table) (view l.pass));
}
