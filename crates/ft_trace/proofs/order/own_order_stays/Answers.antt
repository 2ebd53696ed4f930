use Rattle.ft_trace.proofs.OwnOrder as proved
use Rattle.ft_trace.proofs.order.own_order_stays.Goals as goal

pub returns : goal.returns
returns c = proved.own_order_stays
