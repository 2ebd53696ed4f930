use Rattle.ft_trace.proofs.Rule as rule
use Rattle.ft_trace.proofs.laws.table_words_stay.Goals as goal

pub returns : goal.returns
returns c = rule.table_words_stay
