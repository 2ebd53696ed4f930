use Rattle.std.proofs.Common.{◌≡◌, map, take}
use Rattle.ft_model.specs.declared.script.Thread.{Thread}
use Rattle.ft_script.proofs.entries.all_cursors.Given as goal

abbrev pub invariant-loop-thread : goal.invariant-loop-thread
invariant-loop-thread l = l.cursors.items ≡ map (λ (thread : Thread). thread.cursors) (take l.thread-index l.threads)
