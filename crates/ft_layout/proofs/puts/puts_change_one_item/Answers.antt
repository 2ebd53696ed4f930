use Rattle.ft_layout.proofs.PutLaws.{item_changes, item_says}
use Rattle.ft_layout.proofs.puts.puts_change_one_item.Goals as goal

pub returns : goal.returns
returns c = λ mask values words place stored wide table low fits. (item_changes mask wide values words table place low stored fits, item_says mask wide values words table place low stored fits)
