use Rattle.ft_trace.proofs.Rule as rule
use Rattle.ft_trace.proofs.laws.stamps_rise.Goals as goal

pub returns : goal.returns
returns c = rule.stamps_rise
