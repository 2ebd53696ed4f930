use Rattle.std.proofs.Common.{ap, ◌∙◌, ℕ}
use Rattle.ft_trace.specs.declared.View.{View}
use Rattle.ft_trace.specs.Holds.{held_unboxed}
use Rattle.ft_trace.specs.Pictures.{root_in}
use Rattle.ft_bank.specs.Passes.{shape_of, view}
use Rattle.ft_list.proofs.EmptyWrites.{nothing_commits, nothing_stands, nothing_shut, nothing_wrote}
use Rattle.ft_trace.specs.Boxes.{references_held}
use Rattle.ft_list.proofs.bare.write_nothing.Goals as goal

pub commit-number-requires-clause-may : goal.commit-number-requires-clause-may
commit-number-requires-clause-may c =
    let a = c.args in
    nothing_commits (shape_of a.bank.now) a.o (view a.pass.now) (view c.start_write.new.pass) c.start_write.result c.requires.may c.requires.untaken c.requires.pass.1 c.start_write.ensures.1 c.requires.bare a.called.now a.said.now c.requires.leaves

pub stop_write-requires-clause-stands : goal.stop_write-requires-clause-stands
stop_write-requires-clause-stands c =
    let a = c.args in
    let d = c.commit-number.ensures in
    nothing_stands (shape_of a.bank.now) a.o (view a.pass.now) (view c.start_write.new.pass) c.start_write.result c.requires.may c.requires.untaken c.requires.pass.1 c.start_write.ensures.1 c.requires.bare a.called.now a.said.now c.requires.leaves
    c.commit-number.result d.did.0 (view c.commit-number.new.pass) d.did.1.1 d.committed

pub stop_write-requires-clause-shut : goal.stop_write-requires-clause-shut
stop_write-requires-clause-shut c =
    let a = c.args in
    let d = c.commit-number.ensures in
    nothing_shut (shape_of a.bank.now) a.o (view a.pass.now) (view c.start_write.new.pass) c.start_write.result c.requires.may c.requires.untaken c.requires.pass.1 c.start_write.ensures.1 c.requires.bare a.called.now a.said.now c.requires.leaves
    c.commit-number.result d.did.0 (view c.commit-number.new.pass) d.did.1.1 d.committed

pub returns-clause-wrote : goal.returns-clause-wrote
returns-clause-wrote c =
    let a = c.args in
    let d = c.commit-number.ensures in
    nothing_wrote (shape_of a.bank.now) a.o (view a.pass.now) (view c.start_write.new.pass) c.start_write.result c.requires.may c.requires.untaken c.requires.pass.1 c.start_write.ensures.1 c.requires.bare a.called.now a.said.now c.requires.leaves
    c.commit-number.result d.did.0 (view c.commit-number.new.pass) d.did.1.1 d.committed c.stop_write.result (view c.stop_write.new.pass) d.seen c.stop_write.ensures.1

pub returns-clause-root : goal.returns-clause-root
returns-clause-root c =
    let root = λ (v : View). root_in (held_unboxed c.args.o v) in
    ap root c.stop_write.ensures.1 ∙ (ap root c.commit-number.ensures.did.1.1 ∙ ap root c.start_write.ensures.1)

pub returns-clause-references : goal.returns-clause-references
returns-clause-references c b =
    let held : View → ℕ = λ v. references_held v.shape b v.log in
    ap held c.stop_write.ensures.1 ∙ (ap held c.commit-number.ensures.did.1.1 ∙ ap held c.start_write.ensures.1)
