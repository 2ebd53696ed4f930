use Rattle.std.proofs.Common.{◌≡◌, replicate, None}
use Rattle.ft_history.proofs.state.start_containers.Given as goal

abbrev pub invariant-loop : goal.invariant-loop
invariant-loop l = l.all.items ≡ replicate l.counter (record { last = None; other = None })
