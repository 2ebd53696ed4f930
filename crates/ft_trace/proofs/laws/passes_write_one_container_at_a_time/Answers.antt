use Rattle.ft_trace.proofs.OneWrite as proved
use Rattle.ft_trace.proofs.laws.passes_write_one_container_at_a_time.Goals as goal

pub returns : goal.returns
returns c = proved.one_write
