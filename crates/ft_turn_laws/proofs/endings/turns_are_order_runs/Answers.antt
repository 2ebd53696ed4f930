use Rattle.ft_turn_laws.proofs.LastTurn as proved
use Rattle.ft_turn_laws.proofs.endings.turns_are_order_runs.Goals as goal

pub returns : goal.returns
returns c = proved.turns_are_order_runs
