use Rattle.ft_model.proofs.LegalTables.{order-legal}
use Rattle.ft_model.proofs.laws.tables_are_in_order.Goals as goal

pub returns : goal.returns
returns c = order-legal
