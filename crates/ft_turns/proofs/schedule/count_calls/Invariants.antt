use Rattle.std.proofs.Common.{◌≡◌, map, sum, take, length}
use Rattle.ft_turns.proofs.schedule.count_calls.Given as goal

abbrev pub invariant-loop-thread : goal.invariant-loop-thread
invariant-loop-thread l = l.count ≡ sum (map (λ thread. length thread.calls) (take l.thread-index l.thread-items))
