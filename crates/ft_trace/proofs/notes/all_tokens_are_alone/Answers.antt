use Rattle.ft_trace.proofs.Floored.{tokens_alone}
use Rattle.ft_trace.proofs.notes.all_tokens_are_alone.Goals as goal

pub returns : goal.returns
returns c = tokens_alone
