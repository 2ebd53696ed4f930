use Rattle.std.proofs.Common.{◌≡◌, drop}
use Rattle.ft_script.specs.Internal.Candidates.{read_each, known_value}
use Rattle.ft_script.proofs.ReplyLoops.{after}
use Rattle.ft_script.proofs.TokenLists.{shown}
use Rattle.ft_script.proofs.replies.values_of.Given as goal

abbrev pub invariant-loop-token : goal.invariant-loop-token
invariant-loop-token l = after l.values.items (read_each (known_value l.strings) (shown (drop l.token-index l.tokens))) ≡ read_each (known_value l.strings) (shown l.tokens)
