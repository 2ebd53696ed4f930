use Rattle.std.proofs.Common.{refl}
use Rattle.ft_boxes.specs.References.{box_of}
use Rattle.ft_boxes_tests.proofs.StillPasses.{counted_calls, same_calls}
use Rattle.ft_boxes_tests.proofs.heaps.can_make.Goals as goal

pub returns-in-Up : goal.returns-in-Up
returns-in-Up c =
    let made = c.make.ensures in
    let gone = c.release.ensures in
    counted_calls c.args.bank.now c.args.pass.now c.make.new.pass c.release.new.pass (box_of c.in-Up.held) (box_of c.in-Up.held) c.requires gone.pass made.sections gone.sections made.only gone.only c.in-Up.ensures.made.more refl gone.less gone.settled

pub returns-in-HeapFull : goal.returns-in-HeapFull
returns-in-HeapFull c = same_calls c.args.bank.now c.args.pass.now c.make.new.pass c.requires c.make.ensures.pass c.make.ensures.sections c.make.ensures.only c.make.ensures.settled c.in-HeapFull.ensures.made.1.references
