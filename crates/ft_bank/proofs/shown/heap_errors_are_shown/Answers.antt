use Rattle.ft_bank.proofs.ShownReplies as proved
use Rattle.ft_bank.proofs.shown.heap_errors_are_shown.Goals as goal

pub returns : goal.returns
returns c = proved.heap_errors_are_shown
