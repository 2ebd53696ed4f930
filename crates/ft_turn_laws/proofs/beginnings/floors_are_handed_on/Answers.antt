use Rattle.ft_turn_laws.proofs.BeforeTurns as proved
use Rattle.ft_turn_laws.proofs.beginnings.floors_are_handed_on.Goals as goal

pub returns : goal.returns
returns c = proved.handed_on
