use Rattle.std.proofs.Common.{length}
use Rattle.ft_turns.specs.Schedules.{scheduled}
use Rattle.ft_run_turns.proofs.AllMade.{AreTaking}
use Rattle.ft_run_turns.proofs.turning.take_turns.Given as goal

abbrev pub invariant-loop-thread : goal.invariant-loop-thread
invariant-loop-thread l = AreTaking l.engine l.script l.schedule l.left l.seats l.tokens

abbrev pub decreases-loop-thread : goal.decreases-loop-thread
decreases-loop-thread l = length (scheduled l.schedule l.script.order (length l.script.threads))
