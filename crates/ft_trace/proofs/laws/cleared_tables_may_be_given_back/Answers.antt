use Rattle.ft_trace.proofs.Rule as rule
use Rattle.ft_trace.proofs.laws.cleared_tables_may_be_given_back.Goals as goal

pub returns : goal.returns
returns c = rule.cleared_tables_may_be_given_back
