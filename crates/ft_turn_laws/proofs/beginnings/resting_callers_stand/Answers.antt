use Rattle.ft_turn_laws.proofs.BeforeTurns as proved
use Rattle.ft_turn_laws.proofs.beginnings.resting_callers_stand.Goals as goal

pub returns : goal.returns
returns c = proved.resting_stand
