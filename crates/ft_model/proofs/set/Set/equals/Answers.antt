use Rattle.ft_model.proofs.SetLaws.{equals_members}
use Rattle.ft_model.proofs.set.Set.equals.Goals as goal

pub returns-clause-members : goal.returns-clause-members
returns-clause-members c = rw c.is_same.ensures (equals_members c.args.self.now.elements c.args.other.now.elements)
