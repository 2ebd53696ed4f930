use Rattle.ft_trace.proofs.Earnings as proved
use Rattle.ft_trace.proofs.laws.entries_are_earned.Goals as goal

pub returns : goal.returns
returns c = proved.entries_are_earned
