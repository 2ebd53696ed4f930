use Rattle.ft_trace.proofs.BoxLaws as law
use Rattle.ft_trace.proofs.boxes.others_leave_what_is_read.Goals as goal

pub returns : goal.returns
returns c = law.others_leave_what_is_read
