use Rattle.ft_trace.proofs.OwnCursors as proved
use Rattle.ft_trace.proofs.laws.cursors_are_hands.Goals as goal

pub returns : goal.returns
returns c = proved.cursors_are_hands
