use Rattle.ft_trace.proofs.Floored.{tokens_total}
use Rattle.ft_trace.proofs.notes.tokens_are_all.Goals as goal

pub returns : goal.returns
returns c = tokens_total
