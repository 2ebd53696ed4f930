use Rattle.std.specs.Vec.Iter.{into_iter_items}
use Rattle.ft_bench.specs.Threads.{AreReadyCallers}
use Rattle.ft_bench.proofs.script.enter_all.Given as goal
use Rattle.ft_engine.specs.Callers.{AreFreeCallers}

abbrev pub invariant-loop-caller : goal.invariant-loop-caller
invariant-loop-caller l = AreFreeCallers l.engine (into_iter_items l.caller-iterator) × AreReadyCallers l.engine l.ready.items
