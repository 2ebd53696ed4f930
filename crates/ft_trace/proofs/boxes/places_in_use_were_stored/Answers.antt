use Rattle.ft_trace.proofs.PlacesInUse as law
use Rattle.ft_trace.proofs.boxes.places_in_use_were_stored.Goals as goal

pub returns : goal.returns
returns c = law.places_in_use_were_stored
