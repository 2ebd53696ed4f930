use Rattle.ft_bank.specs.Passes.{view}
use Rattle.ft_boxes.proofs.Heaps.{loaded_then}
use Rattle.ft_trace.specs.declared.Act.TheVariants.{RaiseLocal, ReadBox}
use Rattle.std.proofs.Common.{◌+◌}
use Rattle.ft_bank.specs.BoxSteps.{box_id}
use Rattle.ft_boxes.proofs.CountSteps.{took_one, took_then}
use Rattle.ft_boxes.proofs.raising.raise_own.Goals as goal

pub returns-else-count-lt-MOST-clause-only : goal.returns-else-count-lt-MOST-clause-only
returns-else-count-lt-MOST-clause-only c =
    (loaded_then (view c.args.pass.now) (view c.read_box-count.new.pass) (view c.merge.new.pass) c.args.pass.now.possible c.read_box-count.ensures.only c.merge.ensures.only c.merge.ensures.values).0

pub returns-else-count-lt-MOST-clause-values : goal.returns-else-count-lt-MOST-clause-values
returns-else-count-lt-MOST-clause-values c =
    (loaded_then (view c.args.pass.now) (view c.read_box-count.new.pass) (view c.merge.new.pass) c.args.pass.now.possible c.read_box-count.ensures.only c.merge.ensures.only c.merge.ensures.values).1

pub returns-then-count-lt-MOST-clause-steps : goal.returns-then-count-lt-MOST-clause-steps
returns-then-count-lt-MOST-clause-steps c =
    let b = box_id c.args.b in
    took_then c.args.pass.now c.read_box-count.new.pass c.raise_local.new.pass (took_one (ReadBox b 3 c.read_box-count.result) c.args.pass.now c.read_box-count.new.pass tt c.read_box-count.ensures.did)
    (took_one (RaiseLocal b (c.read_box-count.result + 1)) c.read_box-count.new.pass c.raise_local.new.pass tt c.raise_local.ensures.did)

pub returns-else-count-lt-MOST-clause-steps : goal.returns-else-count-lt-MOST-clause-steps
returns-else-count-lt-MOST-clause-steps c =
    took_then c.args.pass.now c.read_box-count.new.pass c.merge.new.pass (took_one (ReadBox (box_id c.args.b) 3 c.read_box-count.result) c.args.pass.now c.read_box-count.new.pass tt c.read_box-count.ensures.did)
    c.merge.ensures.steps
