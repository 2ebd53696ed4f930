use Rattle.ft_trace.proofs.Quiet.{resting_quiet}
use Rattle.ft_trace.proofs.notes.resting_passes_are_quiet.Goals as goal

pub returns : goal.returns
returns c = resting_quiet
