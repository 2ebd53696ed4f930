use Rattle.ft_turn_laws.proofs.BeforeTurns as proved
use Rattle.ft_turn_laws.proofs.beginnings.woken_callers_have_floor.Goals as goal

pub returns : goal.returns
returns c = proved.woken_have_floor
