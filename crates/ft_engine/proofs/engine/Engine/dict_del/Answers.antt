use Rattle.std.proofs.Common.{refl}
use Rattle.ft_model.specs.declared.call.Call.TheVariants as call
use Rattle.ft_model.specs.declared.call.DictCall.TheVariants as dict
use Rattle.ft_section.specs.declared.answers.Objects.TheVariants.{One}
use Rattle.ft_engine.proofs.Keeping.{no_answer_idle}
use Rattle.ft_engine.proofs.MadeCalls.{locked_came, may_lock, some_left}
use Rattle.ft_engine.proofs.engine.Engine.dict_del.Goals as goal

pub try_any_dict-step-requires-clause-may : goal.try_any_dict-step-requires-clause-may
try_any_dict-step-requires-clause-may g c = may_lock c.args.self.now c.args.caller.now (One c.args.d) c.requires.caller (c.is_free.ensures c.if-not-is_free.false).0

pub try_any_dict-step-requires-clause-left : goal.try_any_dict-step-requires-clause-left
try_any_dict-step-requires-clause-left g c = some_left c.args.self.now c.args.caller.now (call.Dict c.args.d (dict.Del c.args.key)) c.requires.caller (c.is_free.ensures c.if-not-is_free.false).0 c.requires.may

pub try_any_dict-step-requires-clause-names : goal.try_any_dict-step-requires-clause-names
try_any_dict-step-requires-clause-names g c = (c.requires.may.names (no_answer_idle c.args.caller.now.flight (c.is_free.ensures c.if-not-is_free.false).0)).0

pub try_any_dict-step-requires-clause-key : goal.try_any_dict-step-requires-clause-key
try_any_dict-step-requires-clause-key g c = (c.requires.may.names (no_answer_idle c.args.caller.now.flight (c.is_free.ensures c.if-not-is_free.false).0)).2

pub end_at_once-requires : goal.end_at_once-requires
end_at_once-requires g c =
    let a = c.args in
    let free = c.is_free.ensures c.if-not-is_free.false in
    record { came = (a.caller.now, locked_came a.self.now (call.Dict a.d (dict.Del a.key)) a.caller.now c.try_any_dict-step.new.pass c.try_any_dict-step.result c.requires.caller c.requires.may free.0 free.1 (record { containers = tt; no_cursor = refl }) refl c.try_any_dict-step.ensures) }

pub returns : goal.returns
returns g c =
    let a = c.args in
    let free = c.is_free.ensures c.if-not-is_free.false in
    c.end_at_once.ensures a.caller.now
    (locked_came a.self.now (call.Dict a.d (dict.Del a.key)) a.caller.now c.try_any_dict-step.new.pass c.try_any_dict-step.result c.requires.caller c.requires.may free.0 free.1 (record { containers = tt; no_cursor = refl }) refl c.try_any_dict-step.ensures)
