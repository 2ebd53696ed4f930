use Rattle.ft_list_tests.specs.TestCalls.{MayTryAny}
use Rattle.ft_list_tests.proofs.writing.fill.Given as goal

abbrev pub invariant-loop-integer : goal.invariant-loop-integer
invariant-loop-integer l = record { may : MayTryAny l.bank l.writer }
