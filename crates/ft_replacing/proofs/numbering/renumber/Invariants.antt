use Rattle.std.proofs.Common.{◌≡◌}
use Rattle.ft_trace.specs.Addresses.{class_of, slots}
use Rattle.ft_trace.specs.Holds.{in_hand}
use Rattle.ft_bank.specs.Passes.{view, IsPassOf}
use Rattle.ft_bank.specs.PassSections.{stack_of}
use Rattle.ft_bank.specs.TableNames.{table_id}
use Rattle.ft_table_calls.specs.Adding.{OnlyFilled}
use Rattle.ft_replacing.specs.Internal.Numbering.{renumbered}
use Rattle.ft_replacing.proofs.numbering.renumber.Given as goal

abbrev pub invariant-loop-place : goal.invariant-loop-place
invariant-loop-place l = record {
  pass : IsPassOf l.bank l.pass;
  stack : stack_of l.pass ≡ stack_of l.initial.pass;
  only : OnlyFilled (view l.initial.pass) (view l.pass);
  words : in_hand (table_id l.table) (view l.pass) ≡ renumbered (slots (class_of (table_id l.table))) l.next l.place (in_hand (table_id l.table) (view l.initial.pass));
}
