use Rattle.ft_trace.proofs.LookReplies as replying
use Rattle.ft_trace.proofs.laws.dict_hits_are_replied.Goals as goal

pub returns : goal.returns
returns c = replying.dict_hits_are_replied
