use Rattle.std.proofs.Common.{◌≡◌, drop}
use Rattle.ft_script.specs.Internal.Candidates.{read_each, known_key}
use Rattle.ft_script.proofs.ReplyLoops.{after}
use Rattle.ft_script.proofs.TokenLists.{shown}
use Rattle.ft_script.proofs.replies.keys_of.Given as goal

abbrev pub invariant-loop-token : goal.invariant-loop-token
invariant-loop-token l = after l.keys.items (read_each (known_key l.strings) (shown (drop l.token-index l.tokens))) ≡ read_each (known_key l.strings) (shown l.tokens)
