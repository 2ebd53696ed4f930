use Rattle.ft_turn_laws.proofs.LastTurn as proved
use Rattle.ft_turn_laws.proofs.endings.last_turns_finish.Goals as goal

pub returns : goal.returns
returns c = proved.last_turns_finish
