use Rattle.ft_bank.specs.Passes.{shape_of, view}
use Rattle.ft_bank_tests.proofs.Reversing.{may_commit, shut_after, stands_after, writes_merged, writes_raised, wrote}
use Rattle.ft_bank_tests.proofs.writes.reverse.Goals as goal

pub commit-number-requires-clause-may : goal.commit-number-requires-clause-may
commit-number-requires-clause-may c =
    let a = c.args in
    may_commit (shape_of a.bank.now) a.l (view a.pass.now) a.pass.now.possible c.requires.pass.1 c.requires.may c.requires.bare c.start_write.result (view c.start_write.new.pass) c.start_write.ensures.1

pub stop_write-requires-clause-stands : goal.stop_write-requires-clause-stands
stop_write-requires-clause-stands c =
    let a = c.args in
    let d = c.commit-number.ensures.did in
    stands_after (shape_of a.bank.now) a.l (view a.pass.now) a.pass.now.possible c.requires.pass.1 c.requires.may c.requires.bare c.start_write.result (view c.start_write.new.pass) c.start_write.ensures.1 c.commit-number.result d.0 (view c.commit-number.new.pass) c.commit-number.ensures.committed d.1.1

pub stop_write-requires-clause-shut : goal.stop_write-requires-clause-shut
stop_write-requires-clause-shut c =
    let a = c.args in
    let d = c.commit-number.ensures.did in
    shut_after (shape_of a.bank.now) a.l (view a.pass.now) a.pass.now.possible c.requires.pass.1 c.requires.may c.requires.bare c.start_write.result (view c.start_write.new.pass) c.start_write.ensures.1 c.commit-number.result d.0 (view c.commit-number.new.pass) c.commit-number.ensures.committed d.1.1

pub returns-clause-wrote : goal.returns-clause-wrote
returns-clause-wrote c =
    let a = c.args in
    let d = c.commit-number.ensures.did in
    (wrote (shape_of a.bank.now) a.l (view a.pass.now) a.pass.now.possible c.requires.pass.1 c.requires.may c.requires.bare c.start_write.result (view c.start_write.new.pass) c.start_write.ensures.1 c.commit-number.result d.0 (view c.commit-number.new.pass) c.commit-number.ensures.committed d.1.1 c.commit-number.ensures.seen c.stop_write.result (view c.stop_write.new.pass) c.stop_write.ensures.1).0

pub returns-clause-still_bare : goal.returns-clause-still_bare
returns-clause-still_bare c =
    let a = c.args in
    let d = c.commit-number.ensures.did in
    (wrote (shape_of a.bank.now) a.l (view a.pass.now) a.pass.now.possible c.requires.pass.1 c.requires.may c.requires.bare c.start_write.result (view c.start_write.new.pass) c.start_write.ensures.1 c.commit-number.result d.0 (view c.commit-number.new.pass) c.commit-number.ensures.committed d.1.1 c.commit-number.ensures.seen c.stop_write.result (view c.stop_write.new.pass) c.stop_write.ensures.1).1

pub returns-clause-merged : goal.returns-clause-merged
returns-clause-merged c =
    let a = c.args in
    let d = c.commit-number.ensures.did in
    writes_merged a.l (view a.pass.now) (view c.start_write.new.pass) (view c.commit-number.new.pass) (view c.stop_write.new.pass) c.start_write.result c.commit-number.result c.stop_write.result d.0 c.start_write.ensures.1 d.1.1 c.stop_write.ensures.1

pub returns-clause-raised : goal.returns-clause-raised
returns-clause-raised c =
    let a = c.args in
    let d = c.commit-number.ensures.did in
    writes_raised a.l (view a.pass.now) (view c.start_write.new.pass) (view c.commit-number.new.pass) (view c.stop_write.new.pass) c.start_write.result c.commit-number.result c.stop_write.result d.0 c.start_write.ensures.1 d.1.1 c.stop_write.ensures.1
