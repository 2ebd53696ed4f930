use Rattle.ft_trace.proofs.Rule as rule
use Rattle.ft_trace.proofs.laws.lists_fit_their_tables.Goals as goal

pub returns : goal.returns
returns c = rule.lists_fit_their_tables
