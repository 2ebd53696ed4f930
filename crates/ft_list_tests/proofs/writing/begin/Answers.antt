use Rattle.std.proofs.Common.{refl, subst}
use Rattle.ft_trace.specs.declared.Shape.{Shape}
use Rattle.ft_trace.specs.Boxes.{IsDoneWithBoxes}
use Rattle.ft_bank.specs.Passes.{shape_of, view}
use Rattle.ft_list_tests.proofs.Writes.{begun_early, begun_lists}
use Rattle.ft_list_tests.proofs.writing.begin.Goals as goal

pub returns-clause-list : goal.returns-clause-list
returns-clause-list c =
    let a = c.args in
    let k = shape_of a.bank.now in
    let e = c.read_block-root.ensures in
    let t = c.table_named.ensures in
    begun_lists k a.l c.read_block-root.result c.start_write.result (view a.writer.now) (view c.read_block-root.new.pass) (view c.start_write.new.pass) e.did.1 c.start_write.ensures.1
    c.table_named.result t.named (t.in_bank k (λ q x. e.table q refl x)) c.requires.pass.1 c.requires.container c.requires.list c.requires.locked (e.held c.requires.locked)
    (subst (λ (z : Shape). IsDoneWithBoxes z (view a.writer.now).log) c.requires.pass.1 c.requires.boxes)

pub returns-clause-early : goal.returns-clause-early
returns-clause-early c =
    let a = c.args in
    begun_early (shape_of a.bank.now) a.l c.read_block-root.result c.start_write.result (view a.writer.now) (view c.read_block-root.new.pass) (view c.start_write.new.pass) c.read_block-root.ensures.did.1 c.start_write.ensures.1
