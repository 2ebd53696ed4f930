use Rattle.ft_model.proofs.WalkLaws.{dicts_walked, lists_walked}
use Rattle.ft_model.proofs.view_laws.walks_give_all.Goals as goal

pub returns-clause-dicts : goal.returns-clause-dicts
returns-clause-dicts c = dicts_walked

pub returns-clause-lists : goal.returns-clause-lists
returns-clause-lists c = lists_walked
