use Rattle.ft_bank.proofs.ShownReplies as proved
use Rattle.ft_bank.proofs.shown.misses_are_shown.Goals as goal

pub returns : goal.returns
returns c = proved.misses_are_shown
