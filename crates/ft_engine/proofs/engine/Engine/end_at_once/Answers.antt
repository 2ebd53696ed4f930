use Rattle.std.proofs.Common.{subst}
use Rattle.ft_engine.specs.AtOnce.{CameAtOnce}
use Rattle.ft_engine.proofs.MadeCalls.{came_done}
use Rattle.ft_engine.proofs.engine.Engine.end_at_once.Goals as goal

pub returns-in-Done : goal.returns-in-Done
returns-in-Done g c first came =
    came_done c.args.self.now c.args.call.now first c.args.caller.now c.in-Done.reply c.in-Done.stamp (subst (CameAtOnce c.args.self.now c.args.call.now first c.args.caller.now) c.in-Done.is came)
