use Rattle.ft_trace.proofs.LookReplies as replying
use Rattle.ft_trace.proofs.laws.items_are_replied.Goals as goal

pub returns : goal.returns
returns c = replying.items_are_replied
