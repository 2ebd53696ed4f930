use Rattle.ft_trace.proofs.ReferencesOfRoots as law
use Rattle.ft_trace.proofs.boxes.growths_move_references.Goals as goal

pub returns : goal.returns
returns c = law.growths_move_references
