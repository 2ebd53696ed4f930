use Rattle.ft_hash.proofs.Positions.{first-state}
use Rattle.ft_hash.proofs.probe.Probe.new.Goals as goal

pub returns : goal.returns
returns c = first-state c.args.hash c.args.mask c.requires
