use Rattle.ft_engine.proofs.Retrying.{more_between}
use Rattle.ft_engine.proofs.engine.Engine.call_on.Goals as goal

pub loop-init : goal.loop-init
loop-init g c = (c.requires.caller, c.requires.may, λ first before. before)

pub loop-preserved : goal.loop-preserved
loop-preserved g c =
    let x = c.in-Err.ensures.again in
    (x.2.caller, x.2.again x.1, λ first before. more_between c.args.self.now c.args.call.now first c.loop.caller c.try_once.new.caller x.0 (c.loop.invariant.2 first before) x.1 x.2)

pub returns-in-Ok : goal.returns-in-Ok
returns-in-Ok g c first before = (c.loop.caller, c.loop.invariant.2 first before, c.in-Ok.ensures.done)
