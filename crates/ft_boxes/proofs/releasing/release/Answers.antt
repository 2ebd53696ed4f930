use Rattle.ft_bank.specs.Passes.{view}
use Rattle.ft_boxes.proofs.Heaps.{loaded_then}
use Rattle.ft_boxes.proofs.CountSteps.{took_then}
use Rattle.ft_boxes.proofs.releasing.release.Goals as goal

pub returns-then-is_own-clause-only : goal.returns-then-is_own-clause-only
returns-then-is_own-clause-only c =
    (loaded_then (view c.args.pass.now) (view c.is_own.new.pass) (view c.drop_own.new.pass) c.args.pass.now.possible c.is_own.ensures.only c.drop_own.ensures.only c.drop_own.ensures.values).0

pub returns-then-is_own-clause-values : goal.returns-then-is_own-clause-values
returns-then-is_own-clause-values c =
    (loaded_then (view c.args.pass.now) (view c.is_own.new.pass) (view c.drop_own.new.pass) c.args.pass.now.possible c.is_own.ensures.only c.drop_own.ensures.only c.drop_own.ensures.values).1

pub returns-else-is_own-clause-only : goal.returns-else-is_own-clause-only
returns-else-is_own-clause-only c =
    (loaded_then (view c.args.pass.now) (view c.is_own.new.pass) (view c.drop_shared.new.pass) c.args.pass.now.possible c.is_own.ensures.only c.drop_shared.ensures.only c.drop_shared.ensures.values).0

pub returns-else-is_own-clause-values : goal.returns-else-is_own-clause-values
returns-else-is_own-clause-values c =
    (loaded_then (view c.args.pass.now) (view c.is_own.new.pass) (view c.drop_shared.new.pass) c.args.pass.now.possible c.is_own.ensures.only c.drop_shared.ensures.only c.drop_shared.ensures.values).1

pub returns-then-is_own-clause-steps : goal.returns-then-is_own-clause-steps
returns-then-is_own-clause-steps c = took_then c.args.pass.now c.is_own.new.pass c.drop_own.new.pass c.is_own.ensures.steps c.drop_own.ensures.steps

pub returns-else-is_own-clause-steps : goal.returns-else-is_own-clause-steps
returns-else-is_own-clause-steps c = took_then c.args.pass.now c.is_own.new.pass c.drop_shared.new.pass c.is_own.ensures.steps c.drop_shared.ensures.steps
