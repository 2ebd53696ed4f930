use Rattle.ft_engine_tests.specs.TestCallers.{AreWorkersOf}
use Rattle.ft_engine_tests.proofs.looking.all_give.Given as goal

abbrev pub invariant-loop-look : goal.invariant-loop-look
invariant-loop-look l = AreWorkersOf l.engine l.workers
