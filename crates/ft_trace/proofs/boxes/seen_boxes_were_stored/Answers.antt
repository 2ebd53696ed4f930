use Rattle.ft_trace.proofs.PlacesInUse as law
use Rattle.ft_trace.proofs.boxes.seen_boxes_were_stored.Goals as goal

pub returns : goal.returns
returns c = law.seen_boxes_were_stored
