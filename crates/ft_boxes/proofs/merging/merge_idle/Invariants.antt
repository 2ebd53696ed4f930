use Rattle.std.proofs.Common.{◌≡◌, ◌*◌}
use Rattle.ft_trace.specs.Boxes.{IsSettled}
use Rattle.ft_bank.specs.Passes.{view, IsPassOf}
use Rattle.ft_bank.specs.PassSections.{stack_of}
use Rattle.ft_bank.specs.SameBoxes.{SameReferences, TakesNoPlace}
use Rattle.ft_bank.specs.Whole.{OnlyBoxed}
use Rattle.ft_boxes.specs.Internal.Merges.{LeavesNoIdleBoxIn}
use Rattle.ft_boxes.specs.Merging.{MergesIdleBoxes}
use Rattle.ft_boxes.specs.References.{KeepsValues}
use Rattle.ft_boxes.proofs.merging.merge_idle.Given as goal

abbrev pub invariant-loop-word : goal.invariant-loop-word
invariant-loop-word l = record {
  pass : IsPassOf l.bank l.pass;
  sections : stack_of l.pass ≡ stack_of l.fn.pass;
  settled : IsSettled (view l.pass).log;
  only : OnlyBoxed (view l.fn.pass) (view l.pass);
  same : SameReferences (view l.fn.pass) (view l.pass);
  places : TakesNoPlace (view l.fn.pass) (view l.pass);
  values : KeepsValues (view l.fn.pass) (view l.pass);
  merges : MergesIdleBoxes (view l.fn.pass) (view l.pass);
  left : LeavesNoIdleBoxIn 0 (64 * l.word) (view l.fn.pass) (view l.pass);
}
