use Rattle.std.proofs.Common.{ap, ◌∙◌, sym}
use Rattle.ft_trace.specs.declared.Shape.{Shape}
use Rattle.ft_trace.specs.Boxes.{references_held}
use Rattle.ft_bank.specs.BoxSteps.{box_id}
use Rattle.ft_bank.specs.Passes.{shape_of, view}
use Rattle.ft_boxes_tests.proofs.SharedBoxes.{shares_loaded}
use Rattle.ft_boxes_tests.proofs.StillPasses.{may_still}
use Rattle.ft_boxes_tests.proofs.merges.read_shared.Goals as goal

pub returns-clause-shared : goal.returns-clause-shared
returns-clause-shared c =
    let v = view c.args.pass.now in
    let is = c.requires.counter.caller in
    shares_loaded (shape_of c.args.bank.now) c.args.b v (view c.read_box.new.pass) 0 is.pass.1 c.read_box.ensures.only
    (record {
      name = c.requires.name;
      shared = c.read_box.ensures.other c.requires.other;
      held = ap (λ (z : Shape). references_held z (box_id c.args.b) v.log) (sym is.pass.1) ∙ (may_still c.args.bank.now c.args.pass.now is.may).boxes.none (box_id c.args.b);
      saw = c.requires.saw;
    })
