use Rattle.ft_model.proofs.Deques.{appended_one_by_one, appended_left_one_by_one}
use Rattle.ft_model.proofs.deque_laws.bounds_keep_what_came_last.Goals as goal

pub returns-clause-right : goal.returns-clause-right
returns-clause-right c = appended_one_by_one

pub returns-clause-left : goal.returns-clause-left
returns-clause-left c = appended_left_one_by_one
