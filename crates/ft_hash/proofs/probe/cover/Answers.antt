use Rattle.ft_hash.proofs.Positions.{covers}
use Rattle.ft_hash.proofs.probe.cover.Goals as goal

pub returns : goal.returns
returns c = covers
