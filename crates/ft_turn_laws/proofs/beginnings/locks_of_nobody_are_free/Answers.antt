use Rattle.ft_turn_laws.proofs.FreeLocks as proved
use Rattle.ft_turn_laws.proofs.beginnings.locks_of_nobody_are_free.Goals as goal

pub returns : goal.returns
returns c = proved.nobodys_are_free
