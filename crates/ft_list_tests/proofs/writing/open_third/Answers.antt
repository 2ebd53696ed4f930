use Rattle.ft_bank.specs.Passes.{shape_of}
use Rattle.ft_list_tests.proofs.Writes.{has_third}
use Rattle.ft_list_tests.proofs.writing.open_third.Goals as goal

pub open_item-requires-clause-place : goal.open_item-requires-clause-place
open_item-requires-clause-place c = has_third (shape_of c.args.bank.now) c.in_ok-table.table c.in_ok-table.ensures.list.table_in c.if-table-ne3.false
