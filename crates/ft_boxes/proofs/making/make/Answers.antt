use Rattle.std.proofs.Common.{◌∙◌}
use Rattle.ft_bank.specs.Passes.{view}
use Rattle.ft_bank.proofs.DoneBoxes.{stays_settled_same}
use Rattle.ft_bank.proofs.KnownAfterWrites.{boxed_then}
use Rattle.ft_boxes.proofs.Heaps.{first_then}
use Rattle.ft_boxes.proofs.making.make.Goals as goal

pub returns-in-Some-clause-only : goal.returns-in-Some-clause-only
returns-in-Some-clause-only c = boxed_then (view c.args.pass.now) (view c.take_free.new.pass) (view c.fill.new.pass) c.take_free.ensures.only c.fill.ensures.only

pub returns-in-Some-clause-values : goal.returns-in-Some-clause-values
returns-in-Some-clause-values c =
    let v = view c.args.pass.now in
    let x = view c.take_free.new.pass in
    let taken = c.in-Some.ensures.taken in
    first_then v x (view c.fill.new.pass) c.take_free.ensures.only taken.same c.take_free.ensures.values
    (c.fill.ensures.filled.values (taken.same _ ∙ taken.was.1))

pub returns-in-None-clause-settled : goal.returns-in-None-clause-settled
returns-in-None-clause-settled c = (stays_settled_same (view c.args.pass.now) (view c.take_free.new.pass) c.in-None.ensures.full.1.made).settled c.requires.settled
