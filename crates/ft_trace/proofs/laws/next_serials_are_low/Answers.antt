use Rattle.ft_trace.proofs.Rule as rule
use Rattle.ft_trace.proofs.laws.next_serials_are_low.Goals as goal

pub returns : goal.returns
returns c = rule.next_serials_are_low
