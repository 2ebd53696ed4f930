use Rattle.std.proofs.Common.{refl}
use Rattle.std.specs.Prelude.{None}
use Rattle.ft_model.specs.declared.call.Call.TheVariants as call
use Rattle.ft_model.specs.declared.call.DictCall.TheVariants as dict
use Rattle.ft_model.specs.declared.script.Kind.TheVariants as kind
use Rattle.ft_bank.specs.Passes.{shape_of, view}
use Rattle.ft_section.specs.declared.answers.Objects.TheVariants.{One}
use Rattle.ft_engine.proofs.ContainerCalls.{all_in, container_tried}
use Rattle.ft_engine.proofs.KeyedCalls.{dict_outcome}
use Rattle.ft_engine.proofs.dict_call.try_set.Goals as goal

pub try_under_locks-requires-clause-containers : goal.try_under_locks-requires-clause-containers
try_under_locks-requires-clause-containers c = all_in (shape_of c.args.bank.now) kind.Dict c.args.d None (c.requires.dict, tt)

pub try_under_locks-requires-clause-fits : goal.try_under_locks-requires-clause-fits
try_under_locks-requires-clause-fits c = (c.requires.dict, c.requires.key)

pub returns : goal.returns
returns c hands =
    let b = c.args.bank.now in
    let p = c.args.pass.now in
    let q = c.try_under_locks.new.pass in
    let r = c.try_under_locks.result in
    let made = (dict.Set c.args.key c.args.value) in
    container_tried b p q hands (call.Dict c.args.d made) (One c.args.d) r tt refl refl c.try_under_locks.ensures.sections
    (dict_outcome (shape_of b) c.args.d (view p) (view q) r c.requires.left made refl refl c.try_under_locks.ensures.tried)
