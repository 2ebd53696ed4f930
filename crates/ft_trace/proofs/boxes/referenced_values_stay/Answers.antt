use Rattle.ft_trace.proofs.BoxLaws as law
use Rattle.ft_trace.proofs.boxes.referenced_values_stay.Goals as goal

pub returns : goal.returns
returns c = law.referenced_values_stay
