use Rattle.ft_history.proofs.ThreadLists.{numbered_of_lists}
use Rattle.ft_history.proofs.numbers.numbered_lists_are_numbered.Goals as goal

pub returns : goal.returns
returns c = numbered_of_lists
