use Rattle.ft_model.proofs.LaterDeques.{empty_is_deque, later_than_later, append_is_later, append_left_is_later, extend_is_later, extend_left_is_later, pop_is_later, pop_left_is_later, rotate_is_later, clear_is_later}
use Rattle.ft_model.proofs.deque_laws.changes_are_counted.Goals as goal

pub returns-clause-append : goal.returns-clause-append
returns-clause-append c =
    λ deque value is_deque. (append_is_later deque is_deque value, append_left_is_later deque is_deque value)

pub returns-clause-extend : goal.returns-clause-extend
returns-clause-extend c =
    λ deque others is_deque. (extend_is_later deque is_deque others, extend_left_is_later deque is_deque others)

pub returns-clause-pop : goal.returns-clause-pop
returns-clause-pop c = λ deque is_deque. (pop_is_later deque is_deque, pop_left_is_later deque is_deque)

pub returns-clause-rotate : goal.returns-clause-rotate
returns-clause-rotate c = λ deque steps is_deque. rotate_is_later deque is_deque steps

pub returns-clause-clear : goal.returns-clause-clear
returns-clause-clear c = clear_is_later

pub returns-clause-more : goal.returns-clause-more
returns-clause-more c = later_than_later

pub returns-clause-start : goal.returns-clause-start
returns-clause-start c = empty_is_deque
