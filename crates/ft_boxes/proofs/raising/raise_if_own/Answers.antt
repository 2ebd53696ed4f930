use Rattle.ft_bank.specs.Passes.{view}
use Rattle.ft_boxes.proofs.Heaps.{loaded_keeps, loaded_then}
use Rattle.ft_boxes.proofs.CountSteps.{took_then}
use Rattle.ft_boxes.proofs.raising.raise_if_own.Goals as goal

pub returns-then-is_own-clause-only : goal.returns-then-is_own-clause-only
returns-then-is_own-clause-only c =
    (loaded_then (view c.args.pass.now) (view c.is_own.new.pass) (view c.raise_own.new.pass) c.args.pass.now.possible c.is_own.ensures.only c.raise_own.ensures.only c.raise_own.ensures.values).0

pub returns-then-is_own-clause-values : goal.returns-then-is_own-clause-values
returns-then-is_own-clause-values c =
    (loaded_then (view c.args.pass.now) (view c.is_own.new.pass) (view c.raise_own.new.pass) c.args.pass.now.possible c.is_own.ensures.only c.raise_own.ensures.only c.raise_own.ensures.values).1

pub returns-else-is_own-clause-values : goal.returns-else-is_own-clause-values
returns-else-is_own-clause-values c = loaded_keeps (view c.args.pass.now) (view c.is_own.new.pass) c.args.pass.now.possible c.is_own.ensures.only

pub returns-then-is_own-clause-steps : goal.returns-then-is_own-clause-steps
returns-then-is_own-clause-steps c = took_then c.args.pass.now c.is_own.new.pass c.raise_own.new.pass c.is_own.ensures.steps c.raise_own.ensures.steps
