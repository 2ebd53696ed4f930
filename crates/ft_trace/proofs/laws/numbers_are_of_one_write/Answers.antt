use Rattle.ft_trace.proofs.Rule as rule
use Rattle.ft_trace.proofs.laws.numbers_are_of_one_write.Goals as goal

pub returns : goal.returns
returns c = rule.numbers_are_of_one_write
