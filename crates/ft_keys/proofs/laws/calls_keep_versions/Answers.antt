use Rattle.ft_keys.proofs.Placing.{puts-below}
use Rattle.ft_keys.proofs.UntouchedWords.{keep-versions, keep-later, loads-below}
use Rattle.ft_keys.proofs.laws.calls_keep_versions.Goals as goal

pub returns-clause-keep : goal.returns-clause-keep
returns-clause-keep c mask limit words calls place below = keep-versions mask limit calls words place below

pub returns-clause-rest : goal.returns-clause-rest
returns-clause-rest c mask limit words calls place word below least small = keep-later mask limit calls words place word least small below

pub returns-clause-loads : goal.returns-clause-loads
returns-clause-loads c mask limit calls loads = loads-below mask limit calls loads

pub returns-clause-placed : goal.returns-clause-placed
returns-clause-placed c mask slot place entry inside = puts-below mask slot place entry inside
