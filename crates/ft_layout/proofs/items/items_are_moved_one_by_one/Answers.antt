use Rattle.ft_layout.proofs.ListTableLaws.{insert_last, move_up, insert_removed, move_down}
use Rattle.ft_layout.proofs.items.items_are_moved_one_by_one.Goals as goal

pub returns-clause-last : goal.returns-clause-last
returns-clause-last c = insert_last

pub returns-clause-up : goal.returns-clause-up
returns-clause-up c = λ mask values old new place item value at table changes now. move_up mask values old new place item value at table changes now

pub returns-clause-first : goal.returns-clause-first
returns-clause-first c = insert_removed

pub returns-clause-down : goal.returns-clause-down
returns-clause-down c = λ mask values old new place item value at table changes now. move_down mask values old new place item value at table changes now
