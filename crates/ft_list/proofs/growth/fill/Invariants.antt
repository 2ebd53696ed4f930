use Rattle.std.proofs.Common.{◌≡◌}
use Rattle.ft_trace.specs.Addresses.{class_of}
use Rattle.ft_trace.specs.Holds.{held_words, in_hand}
use Rattle.ft_bank.specs.Passes.{view, IsPassOf}
use Rattle.ft_bank.specs.PassSections.{stack_of}
use Rattle.ft_bank.specs.TableNames.{table_id}
use Rattle.ft_table_calls.specs.Adding.{OnlyFilled}
use Rattle.ft_search.specs.Boxed.{KeepsOwn}
use Rattle.ft_list.specs.Internal.NewListTables.{IsCopied}
use Rattle.ft_list.proofs.growth.fill.Given as goal

abbrev pub invariant-loop-place : goal.invariant-loop-place
invariant-loop-place l = record {
  pass : IsPassOf l.bank l.pass;
  stack : stack_of l.pass ≡ stack_of l.initial.pass;
  only : OnlyFilled (view l.initial.pass) (view l.pass);
  keeps : KeepsOwn (view l.initial.pass) (view l.pass);
  copied : IsCopied l.old (held_words l.o (view l.initial.pass)).table (class_of (table_id l.table)) l.place (in_hand (table_id l.table) (view l.pass));
}
