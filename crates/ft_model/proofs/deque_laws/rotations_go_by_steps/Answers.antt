use Rattle.ft_model.proofs.DequeSteps.{step_right, step_left, no_step, steps_right, steps_left}
use Rattle.ft_model.proofs.deque_laws.rotations_go_by_steps.Goals as goal

pub returns-clause-right : goal.returns-clause-right
returns-clause-right c = step_right

pub returns-clause-left : goal.returns-clause-left
returns-clause-left c = step_left

pub returns-clause-none : goal.returns-clause-none
returns-clause-none c = no_step

pub returns-clause-more_right : goal.returns-clause-more_right
returns-clause-more_right c = steps_right

pub returns-clause-more_left : goal.returns-clause-more_left
returns-clause-more_left c = steps_left
