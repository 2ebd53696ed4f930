use Rattle.ft_trace.proofs.Owners as owners
use Rattle.ft_trace.proofs.notes.owners_stay.Goals as goal

pub returns-clause-traces : goal.returns-clause-traces
returns-clause-traces c = owners.owners_stay

pub returns-clause-passes : goal.returns-clause-passes
returns-clause-passes c = owners.known_owners_stay
