use Rattle.ft_model.proofs.Deques.{extended_at_once, extended_left_at_once}
use Rattle.ft_model.proofs.deque_laws.extending_appends_one_by_one.Goals as goal

pub returns-clause-right : goal.returns-clause-right
returns-clause-right c = extended_at_once

pub returns-clause-left : goal.returns-clause-left
returns-clause-left c = extended_left_at_once
