use Rattle.ft_trace.proofs.Roots as proved
use Rattle.ft_trace.proofs.laws.zero_roots_have_causes.Goals as goal

pub returns : goal.returns
returns c = proved.zero_roots_have_causes
