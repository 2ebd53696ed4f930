use Rattle.ft_layout.proofs.ContentLaws.{one_list, no_list}
use Rattle.ft_layout.proofs.laws.list_words_are_of_one_list.Goals as goal

pub returns-clause-one : goal.returns-clause-one
returns-clause-one c = one_list

pub returns-clause-empty : goal.returns-clause-empty
returns-clause-empty c = no_list
