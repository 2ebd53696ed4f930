use Rattle.ft_bank.specs.Passes.{shape_of, view}
use Rattle.ft_boxes_tests.proofs.SharedBoxes.{shares_left, shares_raised}
use Rattle.ft_boxes_tests.proofs.merges.raise_where.Goals as goal

pub returns-clause-raised : goal.returns-clause-raised
returns-clause-raised c is =
    let r = c.raise_shared in
    shares_raised (shape_of c.args.bank.now) c.args.b (view c.args.pass.now) (view r.new.pass) c.args.count c.args.old r.result r.ensures.only r.ensures.did.1 is c.requires.shared

pub returns-clause-left : goal.returns-clause-left
returns-clause-left c ne =
    let r = c.raise_shared in
    shares_left (shape_of c.args.bank.now) c.args.b (view c.args.pass.now) (view r.new.pass) c.args.count c.args.old r.result r.ensures.only r.ensures.did.1 ne c.requires.shared
