use Rattle.ft_bank.proofs.ShownReplies as proved
use Rattle.ft_bank.proofs.shown.set_hits_are_shown.Goals as goal

pub returns : goal.returns
returns c = proved.set_hits_are_shown
