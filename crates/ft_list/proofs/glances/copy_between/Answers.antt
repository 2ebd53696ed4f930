use Rattle.ft_bank.specs.Passes.{shape_of}
use Rattle.ft_reads.specs.Copies.{AreCopied}
use Rattle.ft_list.specs.Scans.{IsOfItems}
use Rattle.ft_reads.proofs.Windowed.{saw_between}
use Rattle.ft_list.proofs.glances.copy_between.Goals as goal

pub returns-clause-saw : goal.returns-clause-saw
returns-clause-saw c =
    let a = c.args in
    let k = shape_of a.bank.now in
    saw_between k a.l (IsOfItems k (AreCopied c.copy_items-copy.result)) (record { opened = c.seq-opened.result; number = c.stamp-number.result; closed = c.seq-closed.result })
    a.pass.now c.seq-opened.new.pass c.copy_items-copy.new.pass c.stamp-number.new.pass c.seq-closed.new.pass c.seq-opened.ensures c.copy_items-copy.ensures.reads c.stamp-number.ensures.did c.seq-closed.ensures
