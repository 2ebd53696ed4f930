use Rattle.ft_trace.proofs.Quiet.{versions_even, known_versions_even}
use Rattle.ft_trace.proofs.notes.floor_versions_are_even.Goals as goal

pub returns-clause-traces : goal.returns-clause-traces
returns-clause-traces c = versions_even

pub returns-clause-passes : goal.returns-clause-passes
returns-clause-passes c = known_versions_even
