use Rattle.ft_trace.proofs.Rule as rule
use Rattle.ft_trace.proofs.laws.takings_end.Goals as goal

pub returns : goal.returns
returns c = rule.takings_end
