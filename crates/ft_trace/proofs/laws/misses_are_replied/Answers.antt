use Rattle.ft_trace.proofs.LookReplies as replying
use Rattle.ft_trace.proofs.laws.misses_are_replied.Goals as goal

pub returns : goal.returns
returns c = replying.misses_are_replied
