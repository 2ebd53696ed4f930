use Rattle.std.proofs.Common.{refl, arith}
use Rattle.ft_model.specs.declared.call.Call.TheVariants as call
use Rattle.ft_model.specs.declared.call.SetCall.TheVariants as set
use Rattle.ft_section.specs.declared.answers.Objects.TheVariants.{One}
use Rattle.ft_engine.proofs.Keeping.{no_answer_idle}
use Rattle.ft_engine.proofs.MadeCalls.{locked_came, may_lock, some_left}
use Rattle.ft_engine.proofs.QuickTries.{tried_from}
use Rattle.ft_engine.proofs.engine.Engine.quick_add.Goals as goal

pub try_add-step-requires-clause-may : goal.try_add-step-requires-clause-may
try_add-step-requires-clause-may c = may_lock c.args.self.now c.args.caller.now (One c.args.s) c.requires.caller c.requires.idle

pub try_add-step-requires-clause-left : goal.try_add-step-requires-clause-left
try_add-step-requires-clause-left c = some_left c.args.self.now c.args.caller.now (call.Set c.args.s (set.Add c.args.key)) c.requires.caller c.requires.idle c.requires.may

pub try_add-step-requires-clause-set : goal.try_add-step-requires-clause-set
try_add-step-requires-clause-set c = (c.requires.may.names (no_answer_idle c.args.caller.now.flight c.requires.idle)).0.0

pub try_add-step-requires-clause-key : goal.try_add-step-requires-clause-key
try_add-step-requires-clause-key c = (c.requires.may.names (no_answer_idle c.args.caller.now.flight c.requires.idle)).2

pub count_write-requires : goal.count_write-requires
count_write-requires c =
    let some = c.requires.may.left (no_answer_idle c.args.caller.now.flight c.requires.idle) in
    omega (arith, some)

pub returns : goal.returns
returns c =
    let a = c.args in
    tried_from a.self.now (call.Set c.args.s (set.Add c.args.key)) a.caller.now (record a.caller.now { pass = c.try_add-step.new.pass }) c.count_write.new.self c.try_add-step.result c.count_write.new.rest c.count_write.result
    (locked_came a.self.now (call.Set c.args.s (set.Add c.args.key)) a.caller.now c.try_add-step.new.pass c.try_add-step.result c.requires.caller c.requires.may c.requires.idle c.requires.none (record { containers = tt; no_cursor = refl }) refl c.try_add-step.ensures)
    c.count_write.ensures.wrote c.count_write.ensures.came
