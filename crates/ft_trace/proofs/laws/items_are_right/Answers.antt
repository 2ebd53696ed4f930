use Rattle.ft_trace.proofs.Rule as rule
use Rattle.ft_trace.proofs.laws.items_are_right.Goals as goal

pub returns : goal.returns
returns c = rule.items_are_right
