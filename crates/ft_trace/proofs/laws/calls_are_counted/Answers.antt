use Rattle.ft_trace.proofs.Rule as rule
use Rattle.ft_trace.proofs.laws.calls_are_counted.Goals as goal

pub returns : goal.returns
returns c = rule.calls_are_counted
