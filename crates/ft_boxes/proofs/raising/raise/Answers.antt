use Rattle.ft_bank.specs.BoxSteps.{box_id}
use Rattle.ft_bank.specs.Passes.{shape_of, view}
use Rattle.ft_bank.proofs.KnownAfterWrites.{boxed_then}
use Rattle.ft_boxes.proofs.Heaps.{first_then, raises_before}
use Rattle.ft_boxes.proofs.Steps.{saw_then}
use Rattle.ft_boxes.proofs.CountSteps.{raises_after}
use Rattle.ft_boxes.proofs.raising.raise.Goals as goal

pub raise_shared-requires-clause-saw : goal.raise_shared-requires-clause-saw
raise_shared-requires-clause-saw c =
    saw_then (shape_of c.args.bank.now) (box_id c.args.b) (view c.args.pass.now) (view c.raise_if_own.new.pass) c.raise_if_own.ensures.only.work.pass.grown c.requires.saw

pub returns-else-raise_if_own-clause-only : goal.returns-else-raise_if_own-clause-only
returns-else-raise_if_own-clause-only c =
    boxed_then (view c.args.pass.now) (view c.raise_if_own.new.pass) (view c.raise_shared.new.pass) c.raise_if_own.ensures.only c.raise_shared.ensures.only

pub returns-else-raise_if_own-clause-raised : goal.returns-else-raise_if_own-clause-raised
returns-else-raise_if_own-clause-raised c =
    raises_before c.args.b (view c.args.pass.now) (view c.raise_if_own.new.pass) (view c.raise_shared.new.pass) c.raise_shared.result c.raise_if_own.ensures.only (c.raise_if_own.ensures.shared c.if-raise_if_own.false).1 c.raise_shared.ensures.raised

pub returns-else-raise_if_own-clause-values : goal.returns-else-raise_if_own-clause-values
returns-else-raise_if_own-clause-values c =
    first_then (view c.args.pass.now) (view c.raise_if_own.new.pass) (view c.raise_shared.new.pass) c.raise_if_own.ensures.only (c.raise_if_own.ensures.shared c.if-raise_if_own.false).1 c.raise_if_own.ensures.values c.raise_shared.ensures.values

pub returns-else-raise_if_own-clause-steps : goal.returns-else-raise_if_own-clause-steps
returns-else-raise_if_own-clause-steps c = raises_after c.args.b c.args.pass.now c.raise_if_own.new.pass c.raise_shared.new.pass c.raise_shared.result c.raise_if_own.ensures.steps c.raise_shared.ensures.steps
