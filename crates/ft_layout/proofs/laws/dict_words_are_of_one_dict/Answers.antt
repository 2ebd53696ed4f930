use Rattle.ft_layout.proofs.ContentLaws.{one_dict, stands_for_dict, no_dict}
use Rattle.ft_layout.proofs.laws.dict_words_are_of_one_dict.Goals as goal

pub returns-clause-one : goal.returns-clause-one
returns-clause-one c = one_dict

pub returns-clause-is_dict : goal.returns-clause-is_dict
returns-clause-is_dict c = stands_for_dict

pub returns-clause-empty : goal.returns-clause-empty
returns-clause-empty c = no_dict
