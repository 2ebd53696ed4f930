use Rattle.std.proofs.Common.{◌≡◌, ◌∙◌, subst, sym}
use Rattle.std.specs.Prelude.{Option, Some}
use Rattle.ft_model.specs.declared.call.Call.TheVariants as call
use Rattle.ft_model.specs.declared.cursor.Cursor.{Cursor}
use Rattle.ft_model.specs.Worlds.{container_of, cursor_at, cursor_kind}
use Rattle.ft_bank.specs.Passes.{shape_of, view}
use Rattle.ft_iter.specs.CursorCalls.{IsMoveOf}
use Rattle.ft_engine.proofs.CursorCalls.{at_read, hands_by, next_tried}
use Rattle.ft_engine.proofs.cursor_call.next.Goals as goal

pub try_next-step-requires-clause-landed : goal.try_next-step-requires-clause-landed
try_next-step-requires-clause-landed c =
    let at : cursor_at c.args.cursors.now.items c.args.number ≡ Some c.in-Some.cursor = sym (at_read c.args.cursors.now.items c.args.number c.index.result.now c.requires.room c.index.ensures) ∙ c.in-Some.is in
    (c.requires.hands.over c.args.number c.in-Some.cursor at).1

pub returns-clause-tried : goal.returns-clause-tried
returns-clause-tried c =
    let at : cursor_at c.args.cursors.now.items c.args.number ≡ Some c.in-Some.cursor = sym (at_read c.args.cursors.now.items c.args.number c.index.result.now c.requires.room c.index.ensures) ∙ c.in-Some.is in
    next_tried c.args.bank.now c.args.pass.now c.try_next-step.new.pass c.args.cursors.now.items (cursor_kind c.in-Some.cursor) c.args.number c.in-Some.cursor (Some c.in-Some.cursor) (Some c.try_next-step.new.cursor) c.try_next-step.result c.requires.left at (sym (c.requires.hands.cursors c.args.number c.requires.room) ∙ at) c.try_next-step.ensures.sections c.try_next-step.ensures.others c.try_next-step.ensures.moved

pub returns-clause-hands : goal.returns-clause-hands
returns-clause-hands c =
    let v = view c.args.pass.now in
    let w = view c.try_next-step.new.pass in
    let kind = cursor_kind c.in-Some.cursor in
    let o = container_of c.in-Some.cursor in
    let left = Some c.try_next-step.new.cursor in
    let at : cursor_at c.args.cursors.now.items c.args.number ≡ Some c.in-Some.cursor = sym (at_read c.args.cursors.now.items c.args.number c.index.result.now c.requires.room c.index.ensures) ∙ c.in-Some.is in
    (hands_by (shape_of c.args.bank.now) v w c.args.cursors.now.items kind o c.args.number (call.Next c.args.number) left c.try_next-step.result c.requires.hands c.requires.room c.try_next-step.ensures.others (c.requires.hands.over c.args.number c.in-Some.cursor at).0
    (subst (λ (had : Option Cursor). IsMoveOf kind o (call.Next c.args.number) c.args.number had v w c.try_next-step.result left) (sym at) c.try_next-step.ensures.moved)).0
