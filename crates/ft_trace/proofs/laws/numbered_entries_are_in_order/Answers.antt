use Rattle.ft_trace.proofs.InOrder as proved
use Rattle.ft_trace.proofs.laws.numbered_entries_are_in_order.Goals as goal

pub returns : goal.returns
returns c = proved.numbered_entries_are_in_order
