use Rattle.ft_model.proofs.AddingLaws.{adding_raises}
use Rattle.ft_model.proofs.stored.adding_raises_nothing_else.Goals as goal

pub returns : goal.returns
returns c = adding_raises
