use Rattle.ft_bench.specs.Threads.{AreReadyCallers}
use Rattle.ft_bench.proofs.script.turns_at.Given as goal

abbrev pub invariant-loop-thread : goal.invariant-loop-thread
invariant-loop-thread g l = AreReadyCallers l.engine l.callers
