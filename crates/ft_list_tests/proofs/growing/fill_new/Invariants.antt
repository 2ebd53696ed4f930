use Rattle.ft_bank.specs.Passes.{shape_of, view, IsPassOf}
use Rattle.ft_list_tests.specs.TestCalls.{IsGrowing}
use Rattle.ft_list_tests.proofs.growing.fill_new.Given as goal

abbrev pub invariant-loop-word : goal.invariant-loop-word
invariant-loop-word l = record {
  pass : IsPassOf l.bank l.writer;
  growing : IsGrowing (shape_of l.bank) l.table (view l.writer);
}
