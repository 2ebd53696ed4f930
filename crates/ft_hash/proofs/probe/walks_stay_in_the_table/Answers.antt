use Rattle.ft_hash.proofs.Walks.{dict_slots-within, set_slots-within}
use Rattle.ft_hash.proofs.probe.walks_stay_in_the_table.Goals as goal

pub returns-clause-dict : goal.returns-clause-dict
returns-clause-dict c = dict_slots-within

pub returns-clause-set : goal.returns-clause-set
returns-clause-set c = set_slots-within
