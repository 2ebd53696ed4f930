use Rattle.ft_trace.proofs.Rule as rule
use Rattle.ft_trace.proofs.laws.counts_stand.Goals as goal

pub returns : goal.returns
returns c = rule.counts_stand
