use Rattle.ft_trace.proofs.Rule as rule
use Rattle.ft_trace.proofs.laws.bare_roots_are_right.Goals as goal

pub returns : goal.returns
returns c = rule.bare_roots_are_right
