use Rattle.ft_trace.proofs.Shuts as shuts
use Rattle.ft_trace.proofs.laws.odd_versions_are_in_writes.Goals as goal

pub returns : goal.returns
returns c = shuts.odd_versions_are_in_writes
