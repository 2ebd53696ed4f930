use Rattle.ft_trace.proofs.HeldReads as law
use Rattle.ft_trace.proofs.boxes.held_boxes_are_right.Goals as goal

pub returns : goal.returns
returns c = record { entries = law.held_hits_are_right; items = law.held_items_are_right }
