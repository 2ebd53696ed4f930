use Rattle.ft_trace.proofs.Replying as proved
use Rattle.ft_trace.proofs.laws.cursors_may_be_moved.Goals as goal

pub returns : goal.returns
returns c = proved.cursors_may_be_moved
