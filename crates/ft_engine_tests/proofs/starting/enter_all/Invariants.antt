use Rattle.std.specs.Vec.Iter.{into_iter_items}
use Rattle.ft_engine_tests.specs.TestCallers.{AreWorkersOf}
use Rattle.ft_engine_tests.proofs.starting.enter_all.Given as goal
use Rattle.ft_engine.specs.Callers.{AreFreeCallers}

abbrev pub invariant-loop-caller : goal.invariant-loop-caller
invariant-loop-caller l = AreFreeCallers l.engine (into_iter_items l.caller-iterator) × AreWorkersOf l.engine l.workers.items
