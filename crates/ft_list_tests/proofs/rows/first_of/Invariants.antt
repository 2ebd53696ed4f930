use Rattle.ft_list_tests.specs.TestCalls.{MayLook, MayTryAny}
use Rattle.ft_list_tests.proofs.rows.first_of.Given as goal

abbrev pub invariant-loop-place : goal.invariant-loop-place
invariant-loop-place l = record { may : MayTryAny l.bank l.pass; reader : MayLook l.bank l.reader }
