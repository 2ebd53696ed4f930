use Rattle.ft_trace.proofs.Rule as rule
use Rattle.ft_trace.proofs.laws.memory_errors_are_earned.Goals as goal

pub returns : goal.returns
returns c = rule.memory_errors_are_earned
