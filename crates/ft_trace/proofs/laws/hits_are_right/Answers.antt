use Rattle.ft_trace.proofs.Rule as rule
use Rattle.ft_trace.proofs.laws.hits_are_right.Goals as goal

pub returns : goal.returns
returns c = rule.hits_are_right
