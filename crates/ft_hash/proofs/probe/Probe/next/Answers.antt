use Rattle.ft_hash.proofs.Positions.{next-state}
use Rattle.ft_hash.proofs.probe.Probe.next.Goals as goal

pub returns-clause-position : goal.returns-clause-position
returns-clause-position c = next-state c.self.inside.slot c.self.inside.perturb c.self.inside.mask c.args.self.now c.self.invariant.0 c.self.view_is
