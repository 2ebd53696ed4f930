use Rattle.ft_trace.proofs.BoxLaws as law
use Rattle.ft_trace.proofs.boxes.words_stand_through_boxes.Goals as goal

pub returns : goal.returns
returns c = law.words_stand_through_boxes
