use Rattle.ft_list_tests.specs.TestCalls.{MayLook, MayTryAny}
use Rattle.ft_list_tests.proofs.rows.made_all.Given as goal

abbrev pub invariant-loop : goal.invariant-loop
invariant-loop l = record { may : MayTryAny l.bank l.pass; reader : MayLook l.bank l.reader }
