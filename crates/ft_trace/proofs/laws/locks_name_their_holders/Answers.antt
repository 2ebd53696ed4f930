use Rattle.ft_trace.proofs.Rule as rule
use Rattle.ft_trace.proofs.laws.locks_name_their_holders.Goals as goal

pub returns : goal.returns
returns c = rule.locks_name_their_holders
