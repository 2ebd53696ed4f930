use Rattle.ft_engine_tests.specs.TestCallers.{AreWorkersOf}
use Rattle.ft_engine_tests.proofs.many.all_walk.Given as goal

abbrev pub invariant-loop-step : goal.invariant-loop-step
invariant-loop-step l = AreWorkersOf l.engine l.workers
