use Rattle.ft_trace.proofs.PlacesInUse as law
use Rattle.ft_trace.proofs.boxes.taken_places_are_the_makers.Goals as goal

pub returns : goal.returns
returns c = law.taken_places_are_the_makers
