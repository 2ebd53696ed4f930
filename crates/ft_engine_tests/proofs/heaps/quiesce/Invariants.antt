use Rattle.ft_engine_tests.specs.TestCallers.{AreWorkersOf}
use Rattle.ft_engine_tests.proofs.heaps.quiesce.Given as goal

abbrev pub invariant-loop-thread : goal.invariant-loop-thread
invariant-loop-thread l = AreWorkersOf l.engine l.workers
