use Rattle.ft_bench.specs.Threads.{IsReadyCaller}
use Rattle.ft_bench.proofs.rounds.make_some_by.Given as goal

abbrev pub invariant-loop : goal.invariant-loop
invariant-loop g l = IsReadyCaller l.engine l.worker.caller
