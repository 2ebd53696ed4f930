use Rattle.ft_trace.proofs.BoxLaws as law
use Rattle.ft_trace.proofs.boxes.references_are_counted.Goals as goal

pub returns : goal.returns
returns c = law.references_are_counted
