use Rattle.ft_model.proofs.SplitLaws.{split_first, next_stays}
use Rattle.ft_model.proofs.view_laws.split_dicts_have_their_first_keys.Goals as goal

pub returns-clause-first : goal.returns-clause-first
returns-clause-first c = split_first

pub returns-clause-next : goal.returns-clause-next
returns-clause-next c = next_stays
