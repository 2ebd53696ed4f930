use Rattle.ft_bank.proofs.ShownReplies as proved
use Rattle.ft_bank.proofs.shown.awaits_are_shown.Goals as goal

pub returns : goal.returns
returns c = proved.awaits_are_shown
