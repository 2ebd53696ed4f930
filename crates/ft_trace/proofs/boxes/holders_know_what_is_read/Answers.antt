use Rattle.ft_trace.proofs.BoxLaws as law
use Rattle.ft_trace.proofs.boxes.holders_know_what_is_read.Goals as goal

pub returns : goal.returns
returns c = law.holders_know_what_is_read
