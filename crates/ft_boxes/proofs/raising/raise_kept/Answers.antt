use Rattle.std.proofs.Common.{refl}
use Rattle.ft_trace.specs.declared.Act.TheVariants.{RaiseKept}
use Rattle.ft_bank.specs.BoxSteps.{box_id}
use Rattle.ft_bank.specs.Passes.{view}
use Rattle.ft_bank.proofs.KnownAfterWrites.{boxed_then}
use Rattle.ft_boxes.proofs.Heaps.{first_then}
use Rattle.ft_boxes.proofs.Steps.{keeps_by}
use Rattle.ft_boxes.proofs.raising.raise_kept.Goals as goal

pub returns-then-not-raise_if_own-clause-only : goal.returns-then-not-raise_if_own-clause-only
returns-then-not-raise_if_own-clause-only c =
    boxed_then (view c.args.pass.now) (view c.raise_if_own.new.pass) (view c.raise_kept.new.pass) c.raise_if_own.ensures.only c.raise_kept.ensures.only

pub returns-then-not-raise_if_own-clause-values : goal.returns-then-not-raise_if_own-clause-values
returns-then-not-raise_if_own-clause-values c =
    let x = view c.raise_if_own.new.pass in
    let w = view c.raise_kept.new.pass in
    first_then (view c.args.pass.now) x w c.raise_if_own.ensures.only (c.raise_if_own.ensures.shared c.if-not-raise_if_own.true).1 c.raise_if_own.ensures.values
    (keeps_by x w (RaiseKept (box_id c.args.b) c.raise_kept.result) (λ k b i n which. refl) c.raise_kept.ensures.did.1)
