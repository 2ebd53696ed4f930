use Rattle.std.proofs.Common.{[], refl, sym}
use Rattle.ft_bank.specs.Passes.{shape_of, view}
use Rattle.ft_search.proofs.Puts.{few_done}
use Rattle.ft_engine.proofs.Callers.{hands_stay}
use Rattle.ft_engine.proofs.LookFirst.{contended_looked, none_looked, settled_looked}
use Rattle.ft_engine.proofs.LooksBefore.{looked_left, looked_making, looked_may, looked_then, looked_tried, may_pass, named_objects, plain_call}
use Rattle.ft_engine.proofs.Uncontended.{still_may, try_stands}
use Rattle.ft_engine.proofs.container_call.call_container.Goals as goal

pub look_call-look-requires-clause-pass : goal.look_call-look-requires-clause-pass
look_call-look-requires-clause-pass c =
    let n = named_objects c.args.call.now c.requires.containers in
    may_pass c.args.bank.now c.args.pass.now n.0 (c.requires.may n.0 (n.1 []))

pub look_call-look-requires-clause-settled : goal.look_call-look-requires-clause-settled
look_call-look-requires-clause-settled c =
    let n = named_objects c.args.call.now c.requires.containers in
    (still_may c.args.bank.now c.args.pass.now n.0 (c.requires.may n.0 (n.1 []))).boxes.settled

pub look_call-look-requires-clause-few : goal.look_call-look-requires-clause-few
look_call-look-requires-clause-few c =
    let v = view c.args.pass.now in
    let n = named_objects c.args.call.now c.requires.containers in
    few_done v.shape v refl (still_may c.args.bank.now c.args.pass.now n.0 (c.requires.may n.0 (n.1 []))).boxes

pub settle-requires : goal.settle-requires
settle-requires c =
    let e = c.look_call-look.ensures in
    let n = named_objects c.args.call.now c.requires.containers in
    looked_making c.args.bank.now c.args.pass.now c.look_call-look.new.pass c.args.call.now n.0 c.look_call-look.result (plain_call c.args.call.now c.requires.containers) (c.requires.may n.0 (n.1 [])) e.pass e.sections e.looked

pub try_locked-requires-clause-may : goal.try_locked-requires-clause-may
try_locked-requires-clause-may c objects is =
    let e = c.look_call-look.ensures in
    looked_may c.args.bank.now c.args.pass.now c.look_call-look.new.pass c.settle.new.pass c.args.call.now objects c.look_call-look.result (sym c.in-None.ensures.answer) e.looked e.pass e.sections c.in-None.ensures.none (c.requires.may objects is)

pub try_locked-requires-clause-left : goal.try_locked-requires-clause-left
try_locked-requires-clause-left c =
    looked_left c.args.pass.now c.look_call-look.new.pass c.settle.new.pass c.args.call.now c.look_call-look.result (sym c.in-None.ensures.answer) c.look_call-look.ensures.looked c.in-None.ensures.none c.requires.left

pub returns-in-Some-clause-tried : goal.returns-in-Some-clause-tried
returns-in-Some-clause-tried c hands =
    let e = c.look_call-look.ensures in
    looked_tried c.args.bank.now c.args.pass.now c.look_call-look.new.pass c.settle.new.pass hands c.args.call.now c.look_call-look.result c.in-Some.step (plain_call c.args.call.now c.requires.containers) c.requires.left e.made (sym c.in-Some.ensures.answer) e.looked e.sections c.in-Some.ensures.locked c.in-Some.ensures.owners c.in-Some.ensures.gone

pub returns-in-None-clause-tried : goal.returns-in-None-clause-tried
returns-in-None-clause-tried c hands =
    let e = c.look_call-look.ensures in
    looked_then c.args.bank.now hands c.args.call.now c.args.pass.now c.look_call-look.new.pass c.settle.new.pass c.try_locked.new.pass c.look_call-look.result c.try_locked.result e.made (sym c.in-None.ensures.answer) e.looked e.sections c.in-None.ensures.none (c.try_locked.ensures hands)

pub returns-in-Some-clause-looked : goal.returns-in-Some-clause-looked
returns-in-Some-clause-looked c = settled_looked c.args.call.now c.look_call-look.result c.in-Some.step (view c.args.pass.now) (view c.settle.new.pass) (sym c.in-Some.ensures.answer)

pub returns-in-None-clause-looked : goal.returns-in-None-clause-looked
returns-in-None-clause-looked c =
    let e = c.look_call-look.ensures in
    let n = named_objects c.args.call.now c.requires.containers in
    contended_looked c.args.bank.now [] c.args.call.now c.args.pass.now c.look_call-look.new.pass c.settle.new.pass c.try_locked.new.pass c.look_call-look.result c.try_locked.result
    (try_stands c.args.bank.now c.args.pass.now c.look_call-look.new.pass c.requires.names.0 c.args.call.now n.0 c.look_call-look.result c.requires.names.1 (c.requires.may n.0 (n.1 [])) e.looked e.pass.1) (sym c.in-None.ensures.answer) e.looked
    (none_looked c.args.call.now c.look_call-look.result e.made) c.in-None.ensures.none (c.try_locked.ensures [])

pub returns-in-Some-clause-hands : goal.returns-in-Some-clause-hands
returns-in-Some-clause-hands c hands are =
    let e = c.look_call-look.ensures in
    hands_stay (shape_of c.args.bank.now) c.args.bank.now hands c.args.call.now c.args.pass.now c.settle.new.pass c.in-Some.step c.requires.no_cursor
    (looked_tried c.args.bank.now c.args.pass.now c.look_call-look.new.pass c.settle.new.pass hands c.args.call.now c.look_call-look.result c.in-Some.step (plain_call c.args.call.now c.requires.containers) c.requires.left e.made (sym c.in-Some.ensures.answer) e.looked e.sections c.in-Some.ensures.locked c.in-Some.ensures.owners c.in-Some.ensures.gone) are

pub returns-in-None-clause-hands : goal.returns-in-None-clause-hands
returns-in-None-clause-hands c hands are =
    let e = c.look_call-look.ensures in
    hands_stay (shape_of c.args.bank.now) c.args.bank.now hands c.args.call.now c.args.pass.now c.try_locked.new.pass c.try_locked.result c.requires.no_cursor
    (looked_then c.args.bank.now hands c.args.call.now c.args.pass.now c.look_call-look.new.pass c.settle.new.pass c.try_locked.new.pass c.look_call-look.result c.try_locked.result e.made (sym c.in-None.ensures.answer) e.looked e.sections c.in-None.ensures.none (c.try_locked.ensures hands)) are
