use Rattle.ft_trace.proofs.HeapErrors as proved
use Rattle.ft_trace.proofs.order.heap_errors_are_earned.Goals as goal

pub returns : goal.returns
returns c = proved.heap_errors_are_earned
