use Rattle.ft_trace.proofs.QuietEntries as law
use Rattle.ft_trace.proofs.boxes.quiet_entries_keep_boxes.Goals as goal

pub returns : goal.returns
returns c = law.quiet_entries_keep_boxes
