use Rattle.std.proofs.Common.{refl, arith}
use Rattle.ft_model.specs.declared.call.Call.TheVariants as call
use Rattle.ft_model.specs.declared.call.DictCall.TheVariants as dict
use Rattle.ft_section.specs.declared.answers.Objects.TheVariants.{One}
use Rattle.ft_engine.proofs.Keeping.{no_answer_idle}
use Rattle.ft_engine.proofs.MadeCalls.{locked_came, may_lock, some_left}
use Rattle.ft_engine.proofs.QuickTries.{tried_from}
use Rattle.ft_engine.proofs.engine.Engine.quick_set.Goals as goal

pub try_set-step-requires-clause-may : goal.try_set-step-requires-clause-may
try_set-step-requires-clause-may c = may_lock c.args.self.now c.args.caller.now (One c.args.d) c.requires.caller c.requires.idle

pub try_set-step-requires-clause-left : goal.try_set-step-requires-clause-left
try_set-step-requires-clause-left c = some_left c.args.self.now c.args.caller.now (call.Dict c.args.d (dict.Set c.args.pair.0 c.args.pair.1)) c.requires.caller c.requires.idle c.requires.may

pub try_set-step-requires-clause-dict : goal.try_set-step-requires-clause-dict
try_set-step-requires-clause-dict c = (c.requires.may.names (no_answer_idle c.args.caller.now.flight c.requires.idle)).0.0

pub try_set-step-requires-clause-key : goal.try_set-step-requires-clause-key
try_set-step-requires-clause-key c = (c.requires.may.names (no_answer_idle c.args.caller.now.flight c.requires.idle)).2

pub count_write-requires : goal.count_write-requires
count_write-requires c =
    let some = c.requires.may.left (no_answer_idle c.args.caller.now.flight c.requires.idle) in
    omega (arith, some)

pub returns : goal.returns
returns c =
    let a = c.args in
    tried_from a.self.now (call.Dict c.args.d (dict.Set c.args.pair.0 c.args.pair.1)) a.caller.now (record a.caller.now { pass = c.try_set-step.new.pass }) c.count_write.new.self c.try_set-step.result c.count_write.new.rest c.count_write.result
    (locked_came a.self.now (call.Dict c.args.d (dict.Set c.args.pair.0 c.args.pair.1)) a.caller.now c.try_set-step.new.pass c.try_set-step.result c.requires.caller c.requires.may c.requires.idle c.requires.none (record { containers = tt; no_cursor = refl }) refl c.try_set-step.ensures)
    c.count_write.ensures.wrote c.count_write.ensures.came
