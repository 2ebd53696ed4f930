use Rattle.ft_hash.proofs.Walks.{dict_slots-reaches, set_slots-reaches}
use Rattle.ft_hash.proofs.probe.walks_try_every_slot.Goals as goal

pub returns-clause-dict : goal.returns-clause-dict
returns-clause-dict c = dict_slots-reaches

pub returns-clause-set : goal.returns-clause-set
returns-clause-set c = set_slots-reaches
