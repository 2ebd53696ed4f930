use Rattle.ft_bank.specs.Passes.{shape_of}
use Rattle.ft_reads.proofs.Windowed.{saw_between}
use Rattle.ft_whole_tables.specs.Items.{IsAllIn}
use Rattle.ft_whole_tables.proofs.items.copy_between.Goals as goal

pub returns-clause-saw : goal.returns-clause-saw
returns-clause-saw c =
    let a = c.args in
    let k = shape_of a.bank.now in
    saw_between k a.c (IsAllIn a.way k c.copy_all-copy.result) (record { opened = c.seq-opened.result; number = c.stamp-number.result; closed = c.seq-closed.result })
    a.pass.now c.seq-opened.new.pass c.copy_all-copy.new.pass c.stamp-number.new.pass c.seq-closed.new.pass c.seq-opened.ensures c.copy_all-copy.ensures.reads c.stamp-number.ensures.did c.seq-closed.ensures
