use Rattle.ft_model.proofs.PlacedPairs.{IsDict-take}
use Rattle.ft_model.proofs.dict.Dict.pop_last.Goals as goal

pub invariant_of-self : goal.invariant_of-self
invariant_of-self c = rw c.pop_last.ensures.others (IsDict-take c.self.inside.next c.self.inside.pairs c.self.invariant)
