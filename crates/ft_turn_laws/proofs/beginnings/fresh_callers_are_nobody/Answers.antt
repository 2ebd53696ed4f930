use Rattle.ft_turn_laws.proofs.BeforeTurns as proved
use Rattle.ft_turn_laws.proofs.beginnings.fresh_callers_are_nobody.Goals as goal

pub returns : goal.returns
returns c = proved.fresh_nobody
