use Rattle.ft_model.proofs.SetLaws.{subset_members}
use Rattle.ft_model.proofs.set.Set.is_subset.Goals as goal

pub returns-clause-members : goal.returns-clause-members
returns-clause-members c = rw c.is_among.ensures (subset_members c.args.self.now.elements c.args.other.now.elements)
