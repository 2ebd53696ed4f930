use Rattle.std.proofs.Common.{refl}
use Rattle.std.specs.Prelude.{None}
use Rattle.ft_model.specs.declared.call.Call.TheVariants as call
use Rattle.ft_model.specs.declared.call.ListCall.TheVariants as list
use Rattle.ft_model.specs.declared.script.Kind.TheVariants as kind
use Rattle.ft_bank.specs.Passes.{shape_of, view}
use Rattle.ft_section.specs.declared.answers.Objects.TheVariants.{One}
use Rattle.ft_engine.proofs.ContainerCalls.{all_in, container_tried}
use Rattle.ft_engine.proofs.ListCalls.{list_outcome}
use Rattle.ft_engine.proofs.list_call.try_append.Goals as goal

pub try_under_locks-requires-clause-containers : goal.try_under_locks-requires-clause-containers
try_under_locks-requires-clause-containers c = all_in (shape_of c.args.bank.now) kind.List c.args.l None (c.requires.list, tt)

pub try_under_locks-requires-clause-fits : goal.try_under_locks-requires-clause-fits
try_under_locks-requires-clause-fits c = c.requires.list

pub returns : goal.returns
returns c hands =
    let b = c.args.bank.now in
    let p = c.args.pass.now in
    let q = c.try_under_locks.new.pass in
    let r = c.try_under_locks.result in
    let made = (list.Append c.args.value) in
    container_tried b p q hands (call.List c.args.l made) (One c.args.l) r tt refl refl c.try_under_locks.ensures.sections
    (list_outcome (shape_of b) c.args.l (view p) (view q) r c.requires.left made refl c.try_under_locks.ensures.tried)
