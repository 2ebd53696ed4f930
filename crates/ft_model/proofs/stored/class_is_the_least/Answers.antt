use Rattle.ft_model.proofs.ClassLemmas.{class_within, class_has_room, class_least}
use Rattle.ft_model.proofs.stored.class_is_the_least.Goals as goal

pub returns-clause-range : goal.returns-clause-range
returns-clause-range c = class_within

pub returns-clause-room : goal.returns-clause-room
returns-clause-room c = class_has_room

pub returns-clause-least : goal.returns-clause-least
returns-clause-least c = class_least
