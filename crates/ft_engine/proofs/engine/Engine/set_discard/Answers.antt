use Rattle.std.proofs.Common.{refl}
use Rattle.ft_model.specs.declared.call.Call.TheVariants as call
use Rattle.ft_model.specs.declared.call.SetCall.TheVariants as set
use Rattle.ft_section.specs.declared.answers.Objects.TheVariants.{One}
use Rattle.ft_engine.proofs.Keeping.{no_answer_idle}
use Rattle.ft_engine.proofs.MadeCalls.{locked_came, may_lock, some_left}
use Rattle.ft_engine.proofs.engine.Engine.set_discard.Goals as goal

pub try_discard-step-requires-clause-may : goal.try_discard-step-requires-clause-may
try_discard-step-requires-clause-may g c = may_lock c.args.self.now c.args.caller.now (One c.args.s) c.requires.caller (c.is_free.ensures c.if-not-is_free.false).0

pub try_discard-step-requires-clause-left : goal.try_discard-step-requires-clause-left
try_discard-step-requires-clause-left g c = some_left c.args.self.now c.args.caller.now (call.Set c.args.s (set.Discard c.args.key)) c.requires.caller (c.is_free.ensures c.if-not-is_free.false).0 c.requires.may

pub try_discard-step-requires-clause-set : goal.try_discard-step-requires-clause-set
try_discard-step-requires-clause-set g c = (c.requires.may.names (no_answer_idle c.args.caller.now.flight (c.is_free.ensures c.if-not-is_free.false).0)).0.0

pub try_discard-step-requires-clause-key : goal.try_discard-step-requires-clause-key
try_discard-step-requires-clause-key g c = (c.requires.may.names (no_answer_idle c.args.caller.now.flight (c.is_free.ensures c.if-not-is_free.false).0)).2

pub end_at_once-requires : goal.end_at_once-requires
end_at_once-requires g c =
    let a = c.args in
    let free = c.is_free.ensures c.if-not-is_free.false in
    record { came = (a.caller.now, locked_came a.self.now (call.Set a.s (set.Discard a.key)) a.caller.now c.try_discard-step.new.pass c.try_discard-step.result c.requires.caller c.requires.may free.0 free.1 (record { containers = tt; no_cursor = refl }) refl c.try_discard-step.ensures) }

pub returns : goal.returns
returns g c =
    let a = c.args in
    let free = c.is_free.ensures c.if-not-is_free.false in
    c.end_at_once.ensures a.caller.now
    (locked_came a.self.now (call.Set a.s (set.Discard a.key)) a.caller.now c.try_discard-step.new.pass c.try_discard-step.result c.requires.caller c.requires.may free.0 free.1 (record { containers = tt; no_cursor = refl }) refl c.try_discard-step.ensures)
