use Rattle.ft_bank.specs.Passes.{shape_of}
use Rattle.ft_reads.proofs.Windowed.{saw_both_between}
use Rattle.ft_whole_tables.specs.Comparisons.{IsComparedAs}
use Rattle.ft_whole_tables.proofs.comparisons.compare_between.Goals as goal

pub returns-clause-saw : goal.returns-clause-saw
returns-clause-saw c =
    let a = c.args in
    let k = shape_of a.bank.now in
    saw_both_between k a.c a.other (IsComparedAs k a.how c.holds_between-is_so.result) (record { opened = c.seq-opened.result; number = c.stamp-number.result; closed = c.seq-closed.result })
    (record { opened = c.seq-other_opened.result; number = c.stamp-number.result; closed = c.seq-other_closed.result })
    a.pass.now c.seq-opened.new.pass c.seq-other_opened.new.pass c.holds_between-is_so.new.pass c.stamp-number.new.pass c.seq-other_closed.new.pass c.seq-closed.new.pass
    c.seq-opened.ensures c.seq-other_opened.ensures c.holds_between-is_so.ensures.reads c.stamp-number.ensures.did c.seq-other_closed.ensures c.seq-closed.ensures
