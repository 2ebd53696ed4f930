use Rattle.ft_trace.proofs.Rule as rule
use Rattle.ft_trace.proofs.laws.changed_roots_are_new.Goals as goal

pub returns : goal.returns
returns c = rule.changed_roots_are_new
