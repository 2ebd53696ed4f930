use Rattle.ft_bank.specs.Passes.{shape_of, view}
use Rattle.ft_boxes_tests.proofs.SharedBoxes.{shares_dropped, shares_given}
use Rattle.ft_boxes_tests.proofs.merges.drop_one.Goals as goal

pub returns-then-found-eq-LAST-clause-shared : goal.returns-then-found-eq-LAST-clause-shared
returns-then-found-eq-LAST-clause-shared c =
    let k = shape_of c.args.bank.now in
    let drop = c.drop_shared-found in
    let give = c.give_place in
    shares_given k c.args.b (view drop.new.pass) (view give.new.pass) _ give.ensures.only give.ensures.did.1
    (shares_dropped k c.args.b (view c.args.pass.now) (view drop.new.pass) c.args.count drop.result drop.ensures.only drop.ensures.did.1 c.requires.shared)

pub returns-else-found-eq-LAST-clause-shared : goal.returns-else-found-eq-LAST-clause-shared
returns-else-found-eq-LAST-clause-shared c =
    let drop = c.drop_shared-found in
    shares_dropped (shape_of c.args.bank.now) c.args.b (view c.args.pass.now) (view drop.new.pass) c.args.count drop.result drop.ensures.only drop.ensures.did.1 c.requires.shared
