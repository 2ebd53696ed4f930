use Rattle.ft_bench.proofs.threads.go.Given as goal
use Rattle.ft_engine.specs.Callers.{IsFreeCaller}

abbrev pub invariant-loop : goal.invariant-loop
invariant-loop g l = IsFreeCaller l.engine l.worker.caller
