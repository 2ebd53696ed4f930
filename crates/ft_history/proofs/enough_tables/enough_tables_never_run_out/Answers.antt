use Rattle.ft_history.proofs.EnoughTables.{never_out}
use Rattle.ft_history.proofs.enough_tables.enough_tables_never_run_out.Goals as goal

pub returns : goal.returns
returns c = λ script history rule legal enough within places. never_out script history rule legal enough within places
