use Rattle.ft_trace.proofs.Rule as rule
use Rattle.ft_trace.proofs.laws.empty_classes_are_earned.Goals as goal

pub returns : goal.returns
returns c = rule.empty_classes_are_earned
