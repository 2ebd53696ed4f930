use Rattle.ft_layout.proofs.PutLaws.{value_put, key_deleted}
use Rattle.ft_layout.proofs.puts.puts_change_one_entry.Goals as goal

pub returns-clause-stored : goal.returns-clause-stored
returns-clause-stored c = λ walk room texts mask used words place key serial before after in_walk fits table at stored. value_put walk room texts mask in_walk fits used words table place key serial before at after stored

pub returns-clause-deleted : goal.returns-clause-deleted
returns-clause-deleted c = λ walk room texts mask used words place key serial before in_walk fits table at. key_deleted walk room texts mask in_walk fits used words table place key serial before at
