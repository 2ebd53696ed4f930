use Rattle.ft_list_tests.specs.TestCalls.{MayLook}
use Rattle.ft_list_tests.proofs.growing.first_unanswered.Given as goal

abbrev pub invariant-loop-index : goal.invariant-loop-index
invariant-loop-index l = record { pass : MayLook l.bank l.reader }
