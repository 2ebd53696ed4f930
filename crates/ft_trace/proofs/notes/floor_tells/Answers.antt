use Rattle.ft_trace.proofs.Floored.{floor_tells}
use Rattle.ft_trace.proofs.notes.floor_tells.Goals as goal

pub returns : goal.returns
returns c = floor_tells
