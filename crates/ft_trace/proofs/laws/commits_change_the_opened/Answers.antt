use Rattle.ft_trace.proofs.OpenedChange as opened
use Rattle.ft_trace.proofs.laws.commits_change_the_opened.Goals as goal

pub returns : goal.returns
returns c = opened.commits_change_the_opened
