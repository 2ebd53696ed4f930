use Rattle.ft_trace.proofs.Writing as writing
use Rattle.ft_trace.proofs.laws.writes_may_be_made.Goals as goal

pub returns : goal.returns
returns c = writing.writes_may_be_made
