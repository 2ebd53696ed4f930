use Rattle.ft_bank.proofs.ShownReplies as proved
use Rattle.ft_bank.proofs.shown.looks_at_both_are_shown.Goals as goal

pub returns : goal.returns
returns c = proved.looks_at_both_are_shown
