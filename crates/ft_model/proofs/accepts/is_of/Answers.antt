use Rattle.std.proofs.Common.{refl}
use Rattle.ft_model.proofs.accepts.is_of.Goals as goal

-- src/accepts.rt:93:1
pub returns-in-Deque-matches : goal.returns-in-Deque-matches
returns-in-Deque-matches c = rw (c.in-Deque.is, c.in-Deque-matches.is) (λ yes. (c.in-Deque-matches.field-0.bound, refl), λ is. refl)
