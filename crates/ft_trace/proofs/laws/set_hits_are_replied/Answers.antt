use Rattle.ft_trace.proofs.LookReplies as replying
use Rattle.ft_trace.proofs.laws.set_hits_are_replied.Goals as goal

pub returns : goal.returns
returns c = replying.set_hits_are_replied
