use Rattle.ft_trace.proofs.Headers as headers
use Rattle.ft_trace.proofs.laws.goals_stand.Goals as goal

pub returns : goal.returns
returns c = headers.goals_stand
