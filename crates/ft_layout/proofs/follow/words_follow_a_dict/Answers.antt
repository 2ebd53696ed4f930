use Rattle.ft_layout.proofs.WordsFollow.{value_changed, pair_deleted, pair_added}
use Rattle.ft_layout.proofs.follow.words_follow_a_dict.Goals as goal

pub returns-clause-changed : goal.returns-clause-changed
returns-clause-changed c = λ texts block words class fill dict says place pair value at fits. value_changed texts block words class fill dict says place pair at value fits

pub returns-clause-deleted : goal.returns-clause-deleted
returns-clause-deleted c = λ texts block words other class fill dict says place pair at head. pair_deleted texts block words class fill dict says place pair at other head

pub returns-clause-added : goal.returns-clause-added
returns-clause-added c = pair_added
