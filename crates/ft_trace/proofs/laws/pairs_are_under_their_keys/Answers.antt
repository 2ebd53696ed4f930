use Rattle.ft_trace.proofs.Rule as rule
use Rattle.ft_trace.proofs.laws.pairs_are_under_their_keys.Goals as goal

pub returns : goal.returns
returns c = rule.pairs_are_under_their_keys
