use Rattle.ft_trace.proofs.LookReplies as replying
use Rattle.ft_trace.proofs.laws.past_items_are_replied.Goals as goal

pub returns : goal.returns
returns c = replying.past_items_are_replied
