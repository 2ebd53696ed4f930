use Rattle.ft_layout.proofs.ContentLaws.{one_set, stands_for_set, no_set}
use Rattle.ft_layout.proofs.laws.set_words_are_of_one_set.Goals as goal

pub returns-clause-one : goal.returns-clause-one
returns-clause-one c = one_set

pub returns-clause-is_set : goal.returns-clause-is_set
returns-clause-is_set c = stands_for_set

pub returns-clause-empty : goal.returns-clause-empty
returns-clause-empty c = no_set
