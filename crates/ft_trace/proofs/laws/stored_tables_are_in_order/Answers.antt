use Rattle.ft_trace.proofs.Rule as rule
use Rattle.ft_trace.proofs.laws.stored_tables_are_in_order.Goals as goal

pub returns : goal.returns
returns c = rule.stored_tables_are_in_order
