use Rattle.ft_model.proofs.ClassLemmas.{class_has_room, dict_has_room, set_has_room}
use Rattle.ft_model.proofs.stored.new_tables_have_room.Goals as goal

pub returns-clause-pairs : goal.returns-clause-pairs
returns-clause-pairs c = dict_has_room

pub returns-clause-elements : goal.returns-clause-elements
returns-clause-elements c = set_has_room

pub returns-clause-items : goal.returns-clause-items
returns-clause-items c = class_has_room
