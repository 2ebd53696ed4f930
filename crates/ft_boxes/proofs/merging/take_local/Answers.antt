use Rattle.ft_trace.specs.declared.Act.TheVariants.{ClearLocal, ReadBox}
use Rattle.ft_bank.specs.BoxSteps.{box_id}
use Rattle.ft_boxes.proofs.CountSteps.{took_one, took_then}
use Rattle.ft_boxes.proofs.merging.take_local.Goals as goal

pub returns-then-count-gt0-clause-steps : goal.returns-then-count-gt0-clause-steps
returns-then-count-gt0-clause-steps c =
    let b = box_id c.args.b in
    took_then c.args.pass.now c.read_box-count.new.pass c.clear_local.new.pass (took_one (ReadBox b 3 c.read_box-count.result) c.args.pass.now c.read_box-count.new.pass tt c.read_box-count.ensures.did)
    (took_one (ClearLocal b) c.read_box-count.new.pass c.clear_local.new.pass tt c.clear_local.ensures.did)

pub returns-else-count-gt0-clause-steps : goal.returns-else-count-gt0-clause-steps
returns-else-count-gt0-clause-steps c = took_one (ReadBox (box_id c.args.b) 3 c.read_box-count.result) c.args.pass.now c.read_box-count.new.pass tt c.read_box-count.ensures.did
