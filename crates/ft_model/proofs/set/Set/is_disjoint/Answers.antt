use Rattle.ft_model.proofs.SetLaws.{disjoint_members}
use Rattle.ft_model.proofs.set.Set.is_disjoint.Goals as goal

pub returns-clause-members : goal.returns-clause-members
returns-clause-members c = rw c.meets.ensures (disjoint_members c.args.self.now.elements c.args.other.now.elements)
