use Rattle.ft_trace.proofs.Rule as rule
use Rattle.ft_trace.proofs.laws.lists_may_be_cleared.Goals as goal

pub returns : goal.returns
returns c = rule.lists_may_be_cleared
