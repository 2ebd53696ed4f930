use Rattle.ft_engine.proofs.Keeping.{no_answer_idle}
use Rattle.ft_engine.proofs.MadeCalls.{came_from, may_lock, some_left}
use Rattle.ft_engine.proofs.engine.Engine.make_any.Goals as goal

pub try_at_once-step-requires-clause-may : goal.try_at_once-step-requires-clause-may
try_at_once-step-requires-clause-may g c objects is = may_lock c.args.self.now c.args.caller.now objects c.requires.caller (c.may_at_once.ensures c.if-not-may_at_once.false).0

pub try_at_once-step-requires-clause-names : goal.try_at_once-step-requires-clause-names
try_at_once-step-requires-clause-names g c = (c.args.caller.now.cursors.items, c.requires.may.names (no_answer_idle c.args.caller.now.flight (c.may_at_once.ensures c.if-not-may_at_once.false).0))

pub try_at_once-step-requires-clause-left : goal.try_at_once-step-requires-clause-left
try_at_once-step-requires-clause-left g c = some_left c.args.self.now c.args.caller.now c.args.call.now c.requires.caller (c.may_at_once.ensures c.if-not-may_at_once.false).0 c.requires.may

pub end_at_once-requires : goal.end_at_once-requires
end_at_once-requires g c =
    let a = c.args in
    let free = c.may_at_once.ensures c.if-not-may_at_once.false in
    record { came = (a.caller.now, came_from a.self.now a.call.now a.caller.now c.try_at_once-step.new.pass c.try_at_once-step.result c.requires.caller c.requires.may free.0 free.1 free.2 c.try_at_once-step.ensures.looked c.try_at_once-step.ensures.tried) }

pub returns : goal.returns
returns g c =
    let a = c.args in
    let free = c.may_at_once.ensures c.if-not-may_at_once.false in
    c.end_at_once.ensures a.caller.now
    (came_from a.self.now a.call.now a.caller.now c.try_at_once-step.new.pass c.try_at_once-step.result c.requires.caller c.requires.may free.0 free.1 free.2 c.try_at_once-step.ensures.looked c.try_at_once-step.ensures.tried)
