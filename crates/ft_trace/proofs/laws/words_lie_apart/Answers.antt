use Rattle.ft_trace.proofs.Rule as rule
use Rattle.ft_trace.proofs.laws.words_lie_apart.Goals as goal

pub returns : goal.returns
returns c = rule.words_lie_apart
