use Rattle.ft_trace.proofs.Rule as rule
use Rattle.ft_trace.proofs.laws.found_tables_are_kept.Goals as goal

pub returns : goal.returns
returns c = rule.found_tables_are_kept
