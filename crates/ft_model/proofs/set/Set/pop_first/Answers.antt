use Rattle.ft_model.proofs.PlacedElements.{IsSet-drop}
use Rattle.ft_model.proofs.set.Set.pop_first.Goals as goal

pub invariant_of-self-2 : goal.invariant_of-self-2
invariant_of-self-2 c = rw c.pop_first.ensures.others (IsSet-drop c.self.inside.next c.self.inside.elements c.self.invariant)
