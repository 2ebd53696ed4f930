use Rattle.ft_trace.proofs.AwaitsTold as proved
use Rattle.ft_trace.proofs.notes.awaits_may_be_answered.Goals as goal

pub returns : goal.returns
returns c = proved.awaits_may_be_answered
