use Rattle.ft_trace.proofs.Replying as replying
use Rattle.ft_trace.proofs.laws.heap_errors_may_be_answered.Goals as goal

pub returns : goal.returns
returns c = replying.heap_errors_may_be_answered
