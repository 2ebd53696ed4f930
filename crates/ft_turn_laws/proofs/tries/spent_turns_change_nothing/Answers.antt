use Rattle.ft_turn_laws.proofs.LearnedTurns as proved
use Rattle.ft_turn_laws.proofs.tries.spent_turns_change_nothing.Goals as goal

pub returns : goal.returns
returns c = proved.spent_turns
