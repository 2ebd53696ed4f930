use Rattle.ft_trace.proofs.Roots as proved
use Rattle.ft_trace.proofs.laws.retired_tables_are_apart.Goals as goal

pub returns : goal.returns
returns c = proved.retired_tables_are_apart
