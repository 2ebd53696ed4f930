use Rattle.ft_model.proofs.Untouched.{other_contents, other_tables, as_many_contents, as_many_tables}
use Rattle.ft_model.proofs.laws.others_are_untouched.Goals as goal

pub returns-clause-contents : goal.returns-clause-contents
returns-clause-contents c = other_contents

pub returns-clause-tables : goal.returns-clause-tables
returns-clause-tables c = other_tables

pub returns-clause-as_many_contents : goal.returns-clause-as_many_contents
returns-clause-as_many_contents c = as_many_contents

pub returns-clause-as_many_tables : goal.returns-clause-as_many_tables
returns-clause-as_many_tables c = as_many_tables
