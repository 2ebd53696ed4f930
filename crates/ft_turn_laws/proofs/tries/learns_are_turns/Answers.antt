use Rattle.ft_turn_laws.proofs.InStep as proved
use Rattle.ft_turn_laws.proofs.tries.learns_are_turns.Goals as goal

pub returns : goal.returns
returns c = proved.learns_are_turns
