use Rattle.ft_trace.proofs.Seeing.{loads_see_all}
use Rattle.ft_trace.proofs.notes.loads_see_all.Goals as goal

pub returns : goal.returns
returns c = loads_see_all
