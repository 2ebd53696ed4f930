use Rattle.ft_model.proofs.Takings.{takes_few, takes_class_few}
use Rattle.ft_model.proofs.laws.a_write_takes_one_table.Goals as goal

pub returns-clause-class : goal.returns-clause-class
returns-clause-class c = takes_class_few

pub returns-clause-all : goal.returns-clause-all
returns-clause-all c = takes_few
