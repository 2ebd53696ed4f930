use Rattle.ft_trace.proofs.BoxLaws as law
use Rattle.ft_trace.proofs.boxes.raises_are_of_live_boxes.Goals as goal

pub returns : goal.returns
returns c = law.raises_are_of_live_boxes
