use Rattle.ft_trace.proofs.Rule as rule
use Rattle.ft_trace.proofs.laws.tables_are_shut_while_versions_are_even.Goals as goal

pub returns : goal.returns
returns c = rule.tables_are_shut_while_versions_are_even
