use Rattle.ft_bank.proofs.ShownReplies as proved
use Rattle.ft_bank.proofs.shown.dict_hits_are_shown.Goals as goal

pub returns : goal.returns
returns c = proved.dict_hits_are_shown
