use Rattle.ft_trace.proofs.Rule as rule
use Rattle.ft_trace.proofs.laws.entries_are_right.Goals as goal

pub returns : goal.returns
returns c = rule.entries_are_right
