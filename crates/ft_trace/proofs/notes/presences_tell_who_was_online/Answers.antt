use Rattle.ft_trace.proofs.Presences as proved
use Rattle.ft_trace.proofs.notes.presences_tell_who_was_online.Goals as goal

pub returns-clause-tells : goal.returns-clause-tells
returns-clause-tells c = proved.presences_tell

pub returns-clause-are : goal.returns-clause-are
returns-clause-are c = proved.presences_are_so
