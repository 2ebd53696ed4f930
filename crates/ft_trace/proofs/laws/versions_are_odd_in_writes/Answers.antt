use Rattle.ft_trace.proofs.Rule as rule
use Rattle.ft_trace.proofs.laws.versions_are_odd_in_writes.Goals as goal

pub returns : goal.returns
returns c = rule.versions_are_odd_in_writes
