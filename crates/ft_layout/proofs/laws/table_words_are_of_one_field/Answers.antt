use Rattle.ft_layout.proofs.FieldLaws.{one_field, some_field, field_within, one_item_field, item_field_within, set_fits}
use Rattle.ft_layout.proofs.laws.table_words_are_of_one_field.Goals as goal

pub returns-clause-one : goal.returns-clause-one
returns-clause-one c = one_field

pub returns-clause-some : goal.returns-clause-some
returns-clause-some c = some_field

pub returns-clause-within : goal.returns-clause-within
returns-clause-within c = field_within

pub returns-clause-set : goal.returns-clause-set
returns-clause-set c = set_fits

pub returns-clause-one_item : goal.returns-clause-one_item
returns-clause-one_item c = one_item_field

pub returns-clause-within_item : goal.returns-clause-within_item
returns-clause-within_item c = item_field_within
