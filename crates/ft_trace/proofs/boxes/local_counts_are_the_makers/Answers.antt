use Rattle.ft_trace.proofs.BoxLaws as law
use Rattle.ft_trace.proofs.boxes.local_counts_are_the_makers.Goals as goal

pub returns : goal.returns
returns c = law.local_counts_are_the_makers
