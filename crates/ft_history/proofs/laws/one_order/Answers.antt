use Rattle.ft_history.proofs.OneOrder.{one_order as proof, one_legal_order}
use Rattle.ft_history.proofs.laws.one_order.Goals as goal

pub returns-clause-legal : goal.returns-clause-legal
returns-clause-legal c = one_legal_order

pub returns-clause-apart : goal.returns-clause-apart
returns-clause-apart c = proof
