use Rattle.ft_list.proofs.Undisturbed.{floor_items_stand}
use Rattle.ft_list.proofs.floors.floor_items_stand.Goals as goal

pub returns : goal.returns
returns c = floor_items_stand
