use Rattle.std.proofs.Common.{arith}
use Rattle.ft_trace.specs.Addresses.{slots}
use Rattle.ft_list.proofs.rooting.item_places.Goals as goal

pub returns : goal.returns
unfolding slots
returns c = (c.list_items.ensures, λ p less. omega arith)
