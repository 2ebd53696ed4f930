use Rattle.ft_trace.proofs.Rule as rule
use Rattle.ft_trace.proofs.laws.misses_are_right.Goals as goal

pub returns : goal.returns
returns c = rule.misses_are_right
