use Rattle.ft_trace.proofs.TableSums as proved
use Rattle.ft_trace.proofs.laws.tables_add_up.Goals as goal

pub returns : goal.returns
returns c = proved.tables_add_up
