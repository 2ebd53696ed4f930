use Rattle.ft_layout.proofs.PutLaws.{blank_versions, same_table, same_list, entry_version, item_version, goal_of_entries, goal_of_items}
use Rattle.ft_layout.proofs.puts.versions_change_nothing.Goals as goal

pub returns-clause-entries : goal.returns-clause-entries
returns-clause-entries c = λ walk room texts mask used old new in_walk same table. same_table walk room texts mask in_walk used old new same table

pub returns-clause-items : goal.returns-clause-items
returns-clause-items c = same_list

pub returns-clause-entry : goal.returns-clause-entry
returns-clause-entry c = λ mask words place version. entry_version words version mask place

pub returns-clause-item : goal.returns-clause-item
returns-clause-item c = λ words place version. item_version words version place

pub returns-clause-goal : goal.returns-clause-goal
returns-clause-goal c = λ mask words number. (goal_of_entries words number mask, goal_of_items words number)

pub returns-clause-blank : goal.returns-clause-blank
returns-clause-blank c = blank_versions
