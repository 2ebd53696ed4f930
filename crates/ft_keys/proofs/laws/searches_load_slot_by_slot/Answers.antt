use Rattle.ft_keys.proofs.Loading.{loads-are, loads-follow, loads-count}
use Rattle.ft_keys.proofs.laws.searches_load_slot_by_slot.Goals as goal

pub returns-clause-loads : goal.returns-clause-loads
returns-clause-loads c mask key first left found calls loads = (loads-are mask key first left found calls loads, loads-follow mask key first left found calls loads)

pub returns-clause-count : goal.returns-clause-count
returns-clause-count c mask key first left found calls loads = loads-count mask key first left found calls loads
