use Rattle.ft_set.proofs.SetTries.{set_made}
use Rattle.ft_set.proofs.making.discard.Goals as goal

pub returns-clause-making : goal.returns-clause-making
returns-clause-making c = let e = c.discard_locked.ensures in set_made c.requires.making e.pass e.stack e.made
