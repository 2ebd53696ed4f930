use Rattle.ft_trace.proofs.Rule as rule
use Rattle.ft_trace.proofs.laws.holders_know.Goals as goal

pub returns : goal.returns
returns c = rule.holders_know
