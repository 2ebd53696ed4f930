use Rattle.ft_model.proofs.TableOrder.{order-start, order-step, order-caps}
use Rattle.ft_model.proofs.laws.tables_stay_in_order.Goals as goal

pub returns-clause-start : goal.returns-clause-start
returns-clause-start c = order-start

pub returns-clause-write : goal.returns-clause-write
returns-clause-write c = order-step

pub returns-clause-caps : goal.returns-clause-caps
returns-clause-caps c = order-caps
