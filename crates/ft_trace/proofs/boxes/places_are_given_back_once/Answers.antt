use Rattle.ft_trace.proofs.BoxLaws as law
use Rattle.ft_trace.proofs.boxes.places_are_given_back_once.Goals as goal

pub returns : goal.returns
returns c = law.places_are_given_back_once
