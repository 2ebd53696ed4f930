use Rattle.ft_run_threads.specs.Workers.{IsOnline}
use Rattle.ft_run_threads.proofs.working.make_all.Given as goal

abbrev pub invariant-loop-place : goal.invariant-loop-place
invariant-loop-place g l = IsOnline l.engine l.thread l.calls l.place l.worker
