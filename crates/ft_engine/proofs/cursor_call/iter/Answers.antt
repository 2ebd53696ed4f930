use Rattle.std.proofs.Common.{subst}
use Rattle.std.specs.Prelude.{Option}
use Rattle.ft_model.specs.declared.cursor.Cursor.{Cursor}
use Rattle.ft_bank.specs.Passes.{shape_of, view}
use Rattle.ft_iter.specs.CursorCalls.{IsMoveOf, iter_call}
use Rattle.ft_engine.proofs.CursorCalls.{at_read, hands_by, iter_tried}
use Rattle.ft_engine.proofs.cursor_call.iter.Goals as goal

pub returns-clause-tried : goal.returns-clause-tried
returns-clause-tried c =
    iter_tried c.args.bank.now c.args.pass.now c.try_iter-step.new.pass c.args.cursors.now.items c.args.kind c.args.o c.args.number c.index.result.now c.try_iter-step.new.slot c.try_iter-step.result c.requires.left c.try_iter-step.ensures.sections c.try_iter-step.ensures.others c.try_iter-step.ensures.moved

pub returns-clause-hands : goal.returns-clause-hands
returns-clause-hands c =
    let v = view c.args.pass.now in
    let w = view c.try_iter-step.new.pass in
    let called = iter_call c.args.kind c.args.o c.args.number in
    (hands_by (shape_of c.args.bank.now) v w c.args.cursors.now.items c.args.kind c.args.o c.args.number called c.try_iter-step.new.slot c.try_iter-step.result c.requires.hands c.requires.room c.try_iter-step.ensures.others c.requires.container
    (subst (λ (had : Option Cursor). IsMoveOf c.args.kind c.args.o called c.args.number had v w c.try_iter-step.result c.try_iter-step.new.slot) (at_read c.args.cursors.now.items c.args.number c.index.result.now c.requires.room c.index.ensures) c.try_iter-step.ensures.moved)).0
