use Rattle.ft_trace.proofs.QuietBoxes as law
use Rattle.ft_trace.proofs.boxes.quiet_boxes_stay.Goals as goal

pub returns : goal.returns
returns c = law.quiet_boxes_stay
