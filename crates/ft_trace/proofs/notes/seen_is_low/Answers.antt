use Rattle.ft_trace.proofs.Seeing.{seen_is_low}
use Rattle.ft_trace.proofs.notes.seen_is_low.Goals as goal

pub returns : goal.returns
returns c = seen_is_low
