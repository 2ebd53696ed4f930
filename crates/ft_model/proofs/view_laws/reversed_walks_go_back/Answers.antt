use Rattle.ft_model.proofs.WalkLaws.{dicts_walked_back, lists_walked_back}
use Rattle.ft_model.proofs.view_laws.reversed_walks_go_back.Goals as goal

pub returns-clause-dicts : goal.returns-clause-dicts
returns-clause-dicts c = dicts_walked_back

pub returns-clause-lists : goal.returns-clause-lists
returns-clause-lists c = lists_walked_back
