use Rattle.std.proofs.Common.{true, refl, sym, ap, ◌∙◌, subst}
use Rattle.ft_model.specs.declared.call.Call.{Call}
use Rattle.ft_model.specs.declared.call.Call.TheVariants as call
use Rattle.ft_model.specs.declared.script.Kind.TheVariants as kind
use Rattle.ft_model.specs.Calls.{other_set}
use Rattle.ft_bank.specs.Passes.{shape_of, view}
use Rattle.ft_section.specs.declared.answers.Objects.{Objects}
use Rattle.ft_section.specs.LockTakings.{AreIn}
use Rattle.ft_section.specs.Ready.{MayTry}
use Rattle.ft_section.specs.Trying.{SectionsAfter}
use Rattle.ft_table_calls.specs.TriesUnderLocks.{IsTry, objects_by, objects_in}
use Rattle.ft_set.specs.SetMaking.{FitsSet, MakesSet}
use Rattle.ft_engine.proofs.ContainerCalls.{all_in, container_tried}
use Rattle.ft_engine.proofs.KeyedCalls.{set_outcome, fits_set}
use Rattle.ft_engine.proofs.set_call.try_any_set.Goals as goal

pub returns : goal.returns
returns c hands =
    let a = c.args in
    let b = a.bank.now in
    let p = a.pass.now in
    let q = c.try_under_locks.new.pass in
    let r = c.try_under_locks.result in
    let sc = a.call.now in
    let named = c.named_objects-objects.ensures ∙ ap (objects_by a.s) c.other.ensures in
    let tried = subst (λ (x : Call). IsTry (objects_by a.s (other_set sc)) (MakesSet (shape_of b) x) (view p) (view q) r) c.requires.call
    (subst (λ (o : Objects). IsTry o (MakesSet (shape_of b) a.called.now) (view p) (view q) r) named c.try_under_locks.ensures.tried) in
    container_tried b p q hands (call.Set a.s sc) (objects_by a.s (other_set sc)) r tt c.requires.no_cursor refl
    (subst (λ (o : Objects). SectionsAfter b o p q r) named c.try_under_locks.ensures.sections)
    (set_outcome (shape_of b) a.s (view p) (view q) r c.requires.left sc c.requires.no_cursor tried)

pub try_under_locks-requires-clause-may : goal.try_under_locks-requires-clause-may
try_under_locks-requires-clause-may c = subst (λ (o : Objects). MayTry c.args.bank.now c.args.pass.now o) (sym (c.named_objects-objects.ensures ∙ ap (objects_by c.args.s) c.other.ensures)) c.requires.may

pub try_under_locks-requires-clause-containers : goal.try_under_locks-requires-clause-containers
try_under_locks-requires-clause-containers c =
    let k = shape_of c.args.bank.now in
    subst (λ (o : Objects). AreIn k o) (sym (c.named_objects-objects.ensures ∙ ap (objects_by c.args.s) c.other.ensures)) (all_in k kind.Set c.args.s (other_set c.args.call.now) c.requires.names)

pub try_under_locks-requires-clause-objects : goal.try_under_locks-requires-clause-objects
try_under_locks-requires-clause-objects c = c.named_objects-objects.ensures ∙ ap (objects_by c.args.s) c.other.ensures ∙ ap objects_in (sym c.requires.call)

pub try_under_locks-requires-clause-fits : goal.try_under_locks-requires-clause-fits
try_under_locks-requires-clause-fits c =
    let k = shape_of c.args.bank.now in
    subst (λ (x : Call). FitsSet true k x) (sym c.requires.call) (fits_set k c.args.s c.args.call.now c.requires.names c.requires.key c.requires.no_cursor)
