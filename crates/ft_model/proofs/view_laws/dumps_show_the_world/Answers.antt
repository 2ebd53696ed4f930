use Rattle.std.proofs.Common.{refl}
use Rattle.ft_model.proofs.ViewLaws.{shown_at}
use Rattle.ft_model.proofs.view_laws.dumps_show_the_world.Goals as goal

pub returns-clause-shown : goal.returns-clause-shown
returns-clause-shown c world hands = refl

pub returns-clause-each : goal.returns-clause-each
returns-clause-each c = shown_at

pub returns-clause-unchanged : goal.returns-clause-unchanged
returns-clause-unchanged c world hands = refl
