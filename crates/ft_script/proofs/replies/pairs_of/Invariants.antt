use Rattle.std.proofs.Common.{◌≡◌, length}
use Rattle.ft_script.specs.Internal.Candidates.{read_pairs}
use Rattle.ft_script.proofs.ReplyLoops.{after}
use Rattle.ft_script.proofs.TokenLists.{shown}
use Rattle.ft_script.proofs.replies.pairs_of.Given as goal

abbrev pub invariant-loop-rest : goal.invariant-loop-rest
invariant-loop-rest l = after l.pairs.items (read_pairs l.strings (shown l.rest)) ≡ read_pairs l.strings (shown l.tokens)

abbrev pub decreases-loop-rest : goal.decreases-loop-rest
decreases-loop-rest l = length l.rest
