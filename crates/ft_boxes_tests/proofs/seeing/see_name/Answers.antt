use Rattle.std.proofs.Common.{arith}
use Rattle.ft_bank.specs.Passes.{shape_of}
use Rattle.ft_list.proofs.LookRounds.{slots_are}
use Rattle.ft_boxes_tests.proofs.SeenItems.{root_loaded, root_then}
use Rattle.ft_boxes_tests.proofs.seeing.see_name.Goals as goal

pub returns-in_err-table-clause-only : goal.returns-in_err-table-clause-only
returns-in_err-table-clause-only c = root_loaded c.args.l c.read_root-root.result c.args.pass.now c.read_root-root.new.pass c.read_root-root.ensures.did

pub see_in-requires-clause-index : goal.see_in-requires-clause-index
see_in-requires-clause-index c =
    let s = slots_are (shape_of c.args.bank.now) c.in_ok-table.table c.in_ok-table.ensures.in_bank in
    let t = c.if-index-list_items.true in
    let e = c.list_items.ensures in
    omega (arith, s, t, e)

pub returns-then-index-list_items-clause-only : goal.returns-then-index-list_items-clause-only
returns-then-index-list_items-clause-only c = root_then c.args.l c.read_root-root.result c.args.pass.now c.read_root-root.new.pass c.see_in.new.pass c.read_root-root.ensures.did c.see_in.ensures.only

pub returns-else-index-list_items-clause-only : goal.returns-else-index-list_items-clause-only
returns-else-index-list_items-clause-only c = root_loaded c.args.l c.read_root-root.result c.args.pass.now c.read_root-root.new.pass c.read_root-root.ensures.did
