use Rattle.std.proofs.Common.{ap, ◌∙◌}
use Rattle.ft_trace.specs.declared.View.{View}
use Rattle.ft_trace.specs.Addresses.{class_of, slots}
use Rattle.ft_trace.specs.Boxes.{references_held}
use Rattle.ft_trace.specs.Holds.{held_words}
use Rattle.ft_trace.specs.Pictures.{entry_field}
use Rattle.ft_bank.specs.Passes.{shape_of, view}
use Rattle.ft_bank.specs.TableNames.{table_id}
use Rattle.ft_merging.proofs.Ending.{closing_begins, closing_ends, closing_shut}
use Rattle.ft_merging.proofs.closing.finish_entries.Goals as goal

pub commit-number-requires-clause-may : goal.commit-number-requires-clause-may
commit-number-requires-clause-may c = c.requires.may.may

pub close_all-requires-clause-closing : goal.close_all-requires-clause-closing
close_all-requires-clause-closing c =
    let a = c.args in
    let d = c.commit-number.ensures.did in
    closing_begins (shape_of a.bank.now) a.o a.table a.fill a.called.now a.said.now (view a.pass.now) c.requires.may c.commit-number.result d.0 (view c.commit-number.new.pass) d.1.1 c.commit-number.ensures.committed

pub stop_write-requires-clause-container : goal.stop_write-requires-clause-container
stop_write-requires-clause-container c = c.close_all.ensures.closing.writes.container

pub stop_write-requires-clause-odd : goal.stop_write-requires-clause-odd
stop_write-requires-clause-odd c = c.close_all.ensures.closing.writes.odd

pub stop_write-requires-clause-committed : goal.stop_write-requires-clause-committed
stop_write-requires-clause-committed c = c.close_all.ensures.closing.late

pub stop_write-requires-clause-stands : goal.stop_write-requires-clause-stands
stop_write-requires-clause-stands c = c.close_all.ensures.closing.stands

pub stop_write-requires-clause-shut : goal.stop_write-requires-clause-shut
stop_write-requires-clause-shut c =
    let a = c.args in
    let e = c.close_all.ensures in
    closing_shut (shape_of a.bank.now) a.o a.table a.fill (view c.close_all.new.pass) e.pass.1 e.closing

pub returns-clause-ends : goal.returns-clause-ends
returns-clause-ends c =
    let a = c.args in
    let d = c.commit-number.ensures.did in
    let e = c.close_all.ensures in
    closing_ends (shape_of a.bank.now) a.o a.table a.fill a.called.now a.said.now (view a.pass.now) c.requires.may c.commit-number.result d.0 (view c.commit-number.new.pass) d.1.1 c.commit-number.ensures.committed
    (view c.close_all.new.pass) e.only e.closing c.requires.pass.1 c.stop_write.result (view c.stop_write.new.pass) c.commit-number.ensures.seen c.stop_write.ensures.1

pub returns-clause-references : goal.returns-clause-references
returns-clause-references c b =
    ap (λ (y : View). references_held y.shape b y.log) c.stop_write.ensures.1
    ∙ (c.close_all.ensures.references b ∙ ap (λ (y : View). references_held y.shape b y.log) c.commit-number.ensures.did.1.1)

pub returns-clause-keeps : goal.returns-clause-keeps
returns-clause-keeps c p word some_ few =
    let a = c.args in
    let field = λ (z : View). entry_field (slots (class_of (table_id a.table))) (held_words a.o z).table p word in
    ap field c.stop_write.ensures.1 ∙ (c.close_all.ensures.keeps p word some_ few ∙ ap field c.commit-number.ensures.did.1.1)
