use Rattle.ft_turn_laws.proofs.BeforeTurns as proved
use Rattle.ft_turn_laws.proofs.beginnings.new_callers_are_in_step.Goals as goal

pub returns : goal.returns
returns c = proved.new_in_step
