use Rattle.ft_trace.proofs.BoxGrants as law
use Rattle.ft_trace.proofs.boxes.boxes_may_be_made.Goals as goal

pub returns : goal.returns
returns c = law.boxes_may_be_made
