use Rattle.ft_keys.proofs.Ordering.{in-order}
use Rattle.ft_keys.proofs.laws.entries_are_put_in_order.Goals as goal

pub returns : goal.returns
returns c mask slot place pair words long inside low free unused = in-order mask slot place words inside pair long low free unused
