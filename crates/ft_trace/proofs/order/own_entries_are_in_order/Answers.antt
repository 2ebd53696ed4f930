use Rattle.ft_trace.proofs.OwnOrder as proved
use Rattle.ft_trace.proofs.order.own_entries_are_in_order.Goals as goal

pub returns : goal.returns
returns c = proved.own_entries_are_in_order
