use Rattle.ft_engine.proofs.MadeCalls.{call_for}
use Rattle.ft_engine.proofs.Retrying.{none_between}
use Rattle.ft_engine.proofs.engine.Engine.call_in_turn.Goals as goal

pub returns : goal.returns
returns g c =
    let a = c.args in
    let x = c.call_on.ensures a.caller.now (none_between a.self.now a.call.now a.caller.now c.requires.caller c.requires.may) in
    call_for a.self.now a.call.now c.call_on.result a.caller.now x.0 c.call_on.new.caller x.1 x.2
