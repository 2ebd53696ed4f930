use Rattle.ft_trace.proofs.OpenedCommits as opened
use Rattle.ft_trace.proofs.laws.opened_are_committed.Goals as goal

pub returns : goal.returns
returns c = opened.opened_are_committed
