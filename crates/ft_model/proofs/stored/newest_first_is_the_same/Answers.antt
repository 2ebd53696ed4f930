use Rattle.ft_model.proofs.StoredLaws.{newest_stored, newest_takes}
use Rattle.ft_model.proofs.stored.newest_first_is_the_same.Goals as goal

pub returns-clause-stored : goal.returns-clause-stored
returns-clause-stored c = newest_stored

pub returns-clause-takes : goal.returns-clause-takes
returns-clause-takes c = newest_takes
