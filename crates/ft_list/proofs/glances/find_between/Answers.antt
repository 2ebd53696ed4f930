use Rattle.std.proofs.Common.{◌≡◌}
use Rattle.ft_model.specs.Lists.{index_of}
use Rattle.ft_bank.specs.Passes.{shape_of}
use Rattle.ft_list.specs.Scans.{IsOfItems}
use Rattle.ft_reads.proofs.Windowed.{saw_between}
use Rattle.ft_list.proofs.glances.find_between.Goals as goal

pub returns-clause-saw : goal.returns-clause-saw
returns-clause-saw c =
    let a = c.args in
    let k = shape_of a.bank.now in
    saw_between k a.l (IsOfItems k (λ items. c.first_equal-found.result ≡ index_of items a.value)) (record { opened = c.seq-opened.result; number = c.stamp-number.result; closed = c.seq-closed.result })
    a.pass.now c.seq-opened.new.pass c.first_equal-found.new.pass c.stamp-number.new.pass c.seq-closed.new.pass c.seq-opened.ensures c.first_equal-found.ensures.reads c.stamp-number.ensures.did c.seq-closed.ensures
