use Rattle.ft_engine_tests.specs.TestCallers.{AreWorkersOf}
use Rattle.ft_engine_tests.proofs.turns.play.Given as goal

abbrev pub invariant-loop : goal.invariant-loop
invariant-loop l = AreWorkersOf l.engine l.workers.items
