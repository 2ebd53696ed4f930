use Rattle.ft_layout.proofs.TableLaws.{empty_table, changed_table}
use Rattle.ft_layout.proofs.laws.changed_words_are_of_a_table.Goals as goal

pub returns-clause-blank : goal.returns-clause-blank
returns-clause-blank c = empty_table

pub returns-clause-changed : goal.returns-clause-changed
returns-clause-changed c = λ walk room texts mask used old new place entry within table low keeps changes says. changed_table walk room texts mask within used old new table place low entry changes keeps says
