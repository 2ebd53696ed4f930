use Rattle.ft_bench.specs.Threads.{IsReadyCaller}
use Rattle.ft_bench.proofs.pairs.set_all.Given as goal

abbrev pub invariant-loop-key : goal.invariant-loop-key
invariant-loop-key g l = IsReadyCaller l.engine l.worker.caller
