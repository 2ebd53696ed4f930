use Rattle.ft_trace.proofs.StoppedReaders as proved
use Rattle.ft_trace.proofs.StoppedByVersions as by_version
use Rattle.ft_trace.proofs.laws.readers_are_stopped_by_writes.Goals as goal

pub returns-clause-keys : goal.returns-clause-keys
returns-clause-keys c = proved.readers_of_keys

pub returns-clause-items : goal.returns-clause-items
returns-clause-items c = proved.readers_of_items

pub returns-clause-containers : goal.returns-clause-containers
returns-clause-containers c = by_version.readers_of_containers
