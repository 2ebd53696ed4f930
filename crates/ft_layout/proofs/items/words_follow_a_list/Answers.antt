use Rattle.ft_layout.proofs.ListTableLaws.{item_put, item_appended, item_dropped}
use Rattle.ft_layout.proofs.items.words_follow_a_list.Goals as goal

pub returns-clause-put : goal.returns-clause-put
returns-clause-put c = item_put

pub returns-clause-appended : goal.returns-clause-appended
returns-clause-appended c = item_appended

pub returns-clause-dropped : goal.returns-clause-dropped
returns-clause-dropped c = item_dropped
