use Rattle.ft_trace.proofs.BoxLaws as law
use Rattle.ft_trace.proofs.boxes.held_values_stay.Goals as goal

pub returns : goal.returns
returns c = law.held_values_stay
