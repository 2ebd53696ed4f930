use Rattle.ft_turn_laws.proofs.FreeLocks as proved
use Rattle.ft_turn_laws.proofs.beginnings.one_more_owns_none.Goals as goal

pub returns : goal.returns
returns c = proved.one_more
