use Rattle.std.specs.Vec.Iter.{into_iter_items}
use Rattle.ft_bench.specs.Threads.{AreWorkers}
use Rattle.ft_bench.proofs.start.hire.Given as goal
use Rattle.ft_engine.specs.Callers.{AreFreeCallers}

abbrev pub invariant-loop-caller : goal.invariant-loop-caller
invariant-loop-caller l = AreFreeCallers l.engine (into_iter_items l.caller-iterator) × AreWorkers l.engine l.workers.items
