use Rattle.ft_bank_tests.specs.Working.{IsWorker}
use Rattle.ft_bank_bench.proofs.bank_steps.take_all.Given as goal

abbrev pub invariant-loop : goal.invariant-loop
invariant-loop l = IsWorker l.bank l.pass
