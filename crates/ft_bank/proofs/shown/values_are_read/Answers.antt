use Rattle.ft_bank.proofs.ShownReplies as proved
use Rattle.ft_bank.proofs.shown.values_are_read.Goals as goal

pub returns : goal.returns
returns c = proved.values_are_read
