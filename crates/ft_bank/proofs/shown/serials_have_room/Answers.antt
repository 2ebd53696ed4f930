use Rattle.ft_bank.proofs.ShownReplies as proved
use Rattle.ft_bank.proofs.shown.serials_have_room.Goals as goal

pub returns : goal.returns
returns c = proved.serials_have_room
