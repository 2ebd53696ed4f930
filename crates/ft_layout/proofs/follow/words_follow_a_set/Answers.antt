use Rattle.ft_layout.proofs.WordsFollow.{element_deleted, element_added}
use Rattle.ft_layout.proofs.follow.words_follow_a_set.Goals as goal

pub returns-clause-deleted : goal.returns-clause-deleted
returns-clause-deleted c = element_deleted

pub returns-clause-added : goal.returns-clause-added
returns-clause-added c = element_added
