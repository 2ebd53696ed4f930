use Rattle.ft_model.proofs.StoredLaws.{stored_world}
use Rattle.ft_model.proofs.stored.tables_leave_contents_alone.Goals as goal

pub returns : goal.returns
returns c = stored_world
