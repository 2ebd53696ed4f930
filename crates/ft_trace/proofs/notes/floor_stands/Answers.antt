use Rattle.ft_trace.proofs.Floored.{floor_stands}
use Rattle.ft_trace.proofs.notes.floor_stands.Goals as goal

pub returns : goal.returns
returns c = floor_stands
