use Rattle.ft_trace.proofs.AwaitsTold as proved
use Rattle.ft_trace.proofs.notes.awaits_were_told.Goals as goal

pub returns : goal.returns
returns c = proved.awaits_were_told
