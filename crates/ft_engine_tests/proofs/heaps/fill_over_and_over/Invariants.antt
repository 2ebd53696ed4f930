use Rattle.ft_engine_tests.specs.TestCallers.{AreWorkersOf}
use Rattle.ft_engine_tests.proofs.heaps.fill_over_and_over.Given as goal

abbrev pub invariant-loop : goal.invariant-loop
invariant-loop l = AreWorkersOf l.engine l.workers
