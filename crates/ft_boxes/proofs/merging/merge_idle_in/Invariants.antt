use Rattle.std.proofs.Common.{◌≡◌, ℕ, ◌*◌, ◌≤◌}
use Rattle.ft_trace.specs.Boxes.{IsSettled}
use Rattle.ft_bank.specs.Passes.{view, IsPassOf}
use Rattle.ft_bank.specs.PassSections.{stack_of}
use Rattle.ft_bank.specs.SameBoxes.{SameReferences, TakesNoPlace}
use Rattle.ft_bank.specs.Whole.{OnlyBoxed}
use Rattle.ft_boxes.specs.Internal.Merges.{LeavesNoIdleBoxIn}
use Rattle.ft_boxes.specs.Merging.{MergesIdleBoxes}
use Rattle.ft_boxes.specs.References.{KeepsValues}
use Rattle.ft_boxes.proofs.merging.merge_idle_in.Given as goal

abbrev pub invariant-loop-place : goal.invariant-loop-place
invariant-loop-place l = record {
  pass : IsPassOf l.bank l.pass;
  sections : stack_of l.pass ≡ stack_of l.fn.pass;
  settled : IsSettled (view l.pass).log;
  only : OnlyBoxed (view l.fn.pass) (view l.pass);
  same : SameReferences (view l.fn.pass) (view l.pass);
  places : TakesNoPlace (view l.fn.pass) (view l.pass);
  values : KeepsValues (view l.fn.pass) (view l.pass);
  merges : MergesIdleBoxes (view l.fn.pass) (view l.pass);
  left : LeavesNoIdleBoxIn (64 * l.fn.word) l.place (view l.fn.pass) (view l.pass);
  low : 64 * l.fn.word ≤ l.place;
}
