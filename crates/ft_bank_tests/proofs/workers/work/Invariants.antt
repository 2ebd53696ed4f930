use Rattle.std.proofs.Common.{◌≡◌, ◌≤◌}
use Rattle.ft_bank.specs.Passes.{view}
use Rattle.ft_bank_tests.specs.Working.{IsWorker, Worked}
use Rattle.ft_bank_tests.proofs.workers.work.Given as goal

abbrev pub invariant-loop : goal.invariant-loop
invariant-loop l =
    IsWorker l.bank l.pass × Worked l.tally.writes (view l.fn.pass) (view l.pass) × (l.tally.writes ≤ l.counter)
