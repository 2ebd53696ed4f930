use Rattle.ft_bank.proofs.ShownReplies as proved
use Rattle.ft_bank.proofs.shown.cursors_under_locks_are_shown.Goals as goal

pub returns : goal.returns
returns c = proved.cursors_under_locks_are_shown
