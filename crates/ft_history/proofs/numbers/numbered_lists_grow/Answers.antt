use Rattle.ft_history.proofs.NextEntries.{none_yet, one_more}
use Rattle.ft_history.proofs.numbers.numbered_lists_grow.Goals as goal

pub returns-clause-start : goal.returns-clause-start
returns-clause-start c = none_yet

pub returns-clause-next : goal.returns-clause-next
returns-clause-next c = one_more
