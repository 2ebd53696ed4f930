use Rattle.ft_bank.specs.BoxSteps.{box_id}
use Rattle.ft_bank.specs.Passes.{shape_of, view}
use Rattle.ft_boxes.proofs.Steps.{saw_then}
use Rattle.ft_bank_bench.proofs.box_steps.raise_once.Goals as goal

pub returns-in-Up-clause-saw : goal.returns-in-Up-clause-saw
returns-in-Up-clause-saw c =
    let k = shape_of c.args.bank.now in
    let b = box_id c.args.b in
    saw_then k b (view c.raise.new.pass) (view c.release.new.pass) c.release.ensures.only.work.pass.grown
    (saw_then k b (view c.args.pass.now) (view c.raise.new.pass) c.raise.ensures.only.work.pass.grown c.requires.saw)

pub returns-in-Dead-clause-saw : goal.returns-in-Dead-clause-saw
returns-in-Dead-clause-saw c = saw_then (shape_of c.args.bank.now) (box_id c.args.b) (view c.args.pass.now) (view c.raise.new.pass) c.raise.ensures.only.work.pass.grown c.requires.saw
