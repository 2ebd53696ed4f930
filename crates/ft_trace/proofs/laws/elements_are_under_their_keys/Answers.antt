use Rattle.ft_trace.proofs.Rule as rule
use Rattle.ft_trace.proofs.laws.elements_are_under_their_keys.Goals as goal

pub returns : goal.returns
returns c = rule.elements_are_under_their_keys
