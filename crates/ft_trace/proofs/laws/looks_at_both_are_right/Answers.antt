use Rattle.ft_trace.proofs.Rule as rule
use Rattle.ft_trace.proofs.laws.looks_at_both_are_right.Goals as goal

pub returns : goal.returns
returns c = rule.looks_at_both_are_right
