use Rattle.ft_trace.proofs.Frees as frees
use Rattle.ft_trace.proofs.laws.tables_are_free_before_roots.Goals as goal

pub returns : goal.returns
returns c = frees.tables_are_free_before_roots
