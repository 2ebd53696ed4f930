use Rattle.ft_trace.proofs.BoxLaws as law
use Rattle.ft_trace.proofs.boxes.dead_boxes_have_no_reference.Goals as goal

pub returns : goal.returns
returns c = law.dead_boxes_have_no_reference
