use Rattle.ft_bench.specs.Threads.{AreReadyCallers}
use Rattle.ft_bench.proofs.script.all_turns.Given as goal

abbrev pub invariant-loop-place : goal.invariant-loop-place
invariant-loop-place g l = AreReadyCallers l.engine l.callers
