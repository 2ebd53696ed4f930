use Rattle.ft_layout.proofs.KindLaws.{one_content, head_of, no_content}
use Rattle.ft_layout.proofs.laws.words_are_of_one_content.Goals as goal

pub returns-clause-one : goal.returns-clause-one
returns-clause-one c = one_content

pub returns-clause-head : goal.returns-clause-head
returns-clause-head c = head_of

pub returns-clause-empty : goal.returns-clause-empty
returns-clause-empty c = no_content
