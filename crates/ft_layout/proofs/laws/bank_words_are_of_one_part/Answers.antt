use Rattle.ft_layout.proofs.PartLaws.{one_part, some_part, within_bank}
use Rattle.ft_layout.proofs.laws.bank_words_are_of_one_part.Goals as goal

pub returns-clause-one : goal.returns-clause-one
returns-clause-one c = λ bank part other word f g. one_part bank word part other f g

pub returns-clause-some : goal.returns-clause-some
returns-clause-some c = some_part

pub returns-clause-within : goal.returns-clause-within
returns-clause-within c = λ bank part word f. within_bank bank word part f
