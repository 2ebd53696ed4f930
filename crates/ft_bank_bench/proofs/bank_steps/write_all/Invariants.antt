use Rattle.std.proofs.Common.{◌≤◌, ◌+◌}
use Rattle.ft_bank.specs.Passes.{view}
use Rattle.ft_bank_tests.specs.Working.{IsWorker}
use Rattle.ft_bank_bench.proofs.bank_steps.write_all.Given as goal

abbrev pub invariant-loop : goal.invariant-loop
invariant-loop l = IsWorker l.bank l.pass × (l.rounds ≤ (view l.pass).left + l.counter)
