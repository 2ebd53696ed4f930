use Rattle.ft_bench.specs.Threads.{IsReadyCaller}
use Rattle.ft_bench.proofs.answers.are_done.Given as goal

abbrev pub invariant-loop-call : goal.invariant-loop-call
invariant-loop-call g l = IsReadyCaller l.engine l.caller
