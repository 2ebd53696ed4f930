use Rattle.std.proofs.Common.{length, refl}
use Rattle.ft_layout.proofs.ListTableLaws.{empty_list_table, put_item, append_item, drop_item}
use Rattle.ft_layout.proofs.items.changed_words_are_of_a_list.Goals as goal

pub returns-clause-blank : goal.returns-clause-blank
returns-clause-blank c = empty_list_table

pub returns-clause-put : goal.returns-clause-put
returns-clause-put c = λ mask values old new place value table low changes now. put_item mask values old new table place changes value low now

pub returns-clause-appended : goal.returns-clause-appended
returns-clause-appended c = λ mask values old new value table room changes now. append_item mask values old new table (length values) changes value refl room now

pub returns-clause-dropped : goal.returns-clause-dropped
returns-clause-dropped c = λ mask values old new value table changes now. drop_item mask values value old new table changes now
