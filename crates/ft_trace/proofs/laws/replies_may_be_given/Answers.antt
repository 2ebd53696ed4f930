use Rattle.ft_trace.proofs.Replying as replying
use Rattle.ft_trace.proofs.laws.replies_may_be_given.Goals as goal

pub returns : goal.returns
returns c = replying.replies_may_be_given
