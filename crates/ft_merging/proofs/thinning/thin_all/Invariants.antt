use Rattle.std.proofs.Common.{◌≡◌}
use Rattle.ft_model.specs.Worlds.{set_of}
use Rattle.ft_trace.specs.Holds.{known_state}
use Rattle.ft_trace.specs.ContainerStates.{ContainerState}
use Rattle.ft_bank.specs.Passes.{shape_of, view, IsPassOf}
use Rattle.ft_bank.specs.PassSections.{stack_of}
use Rattle.ft_bank.specs.SameBoxes.{SameReferences}
use Rattle.ft_bank.specs.Whole.{OnlyWritten}
use Rattle.ft_merging.specs.Internal.ThinningSteps.{IsThinned}
use Rattle.ft_merging.proofs.thinning.thin_all.Given as goal

abbrev pub invariant-loop-place : goal.invariant-loop-place
invariant-loop-place l = record {
  pass : IsPassOf l.bank l.pass;
  stack : stack_of l.pass ≡ stack_of l.initial.pass;
  only : OnlyWritten l.s (view l.initial.pass) (view l.pass);
  references : SameReferences (view l.initial.pass) (view l.pass);
  thinned : (to : ContainerState) → IsThinned (shape_of l.bank) l.s l.table l.kept (set_of (known_state l.t (view l.initial.pass)).content) (set_of (known_state l.s (view l.initial.pass)).content) to l.fill 0 (view l.initial.pass)
      → IsThinned (shape_of l.bank) l.s l.table l.kept (set_of (known_state l.t (view l.initial.pass)).content) (set_of (known_state l.s (view l.initial.pass)).content) to l.fill l.place (view l.pass);
}
