use Rattle.ft_trace.proofs.Rule as rule
use Rattle.ft_trace.proofs.laws.given_up_tables_rest.Goals as goal

pub returns : goal.returns
returns c = rule.given_up_tables_rest
