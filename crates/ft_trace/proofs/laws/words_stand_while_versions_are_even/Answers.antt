use Rattle.ft_trace.proofs.Rule as rule
use Rattle.ft_trace.proofs.laws.words_stand_while_versions_are_even.Goals as goal

pub returns : goal.returns
returns c = rule.words_stand_while_versions_are_even
