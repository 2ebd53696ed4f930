use Rattle.ft_model.proofs.FewSerials.{serials_by}
use Rattle.ft_model.proofs.laws.serials_are_few.Goals as goal

pub returns : goal.returns
returns c = serials_by
