use Rattle.ft_trace.proofs.Rule as rule
use Rattle.ft_trace.proofs.laws.announced_numbers_are_low.Goals as goal

pub returns : goal.returns
returns c = rule.announced_numbers_are_low
