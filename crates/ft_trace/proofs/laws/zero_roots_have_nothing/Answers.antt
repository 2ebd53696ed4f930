use Rattle.ft_trace.proofs.Rule as rule
use Rattle.ft_trace.proofs.laws.zero_roots_have_nothing.Goals as goal

pub returns : goal.returns
returns c = rule.zero_roots_have_nothing
