use Rattle.std.proofs.Common.{◌≡◌, map, take}
use Rattle.ft_script.specs.Drafts.{only_named}
use Rattle.ft_script.proofs.entries.named_threads.Given as goal

abbrev pub invariant-loop-thread : goal.invariant-loop-thread
invariant-loop-thread l = l.named.items ≡ map only_named (take l.thread-index l.threads)
