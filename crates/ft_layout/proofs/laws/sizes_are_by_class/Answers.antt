use Rattle.ft_layout.proofs.FieldLaws.{sizes_of_class}
use Rattle.ft_layout.proofs.laws.sizes_are_by_class.Goals as goal

pub returns : goal.returns
returns c = sizes_of_class
