use Rattle.ft_trace.proofs.FoundOwners as owners
use Rattle.ft_trace.proofs.laws.found_owners_had_locks.Goals as goal

pub returns-clause-passes : goal.returns-clause-passes
returns-clause-passes c = owners.found_owners_had_locks

pub returns-clause-all : goal.returns-clause-all
returns-clause-all c = owners.one_knows_all_owners
