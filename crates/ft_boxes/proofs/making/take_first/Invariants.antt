use Rattle.std.proofs.Common.{◌≡◌}
use Rattle.ft_bank.specs.Passes.{view, IsPassOf}
use Rattle.ft_bank.specs.PassSections.{stack_of}
use Rattle.ft_bank.specs.SameBoxes.{SameBoxes}
use Rattle.ft_bank.specs.Whole.{OnlyBoxed}
use Rattle.ft_boxes.specs.Making.{FoundFull}
use Rattle.ft_boxes.specs.References.{KeepsValues}
use Rattle.ft_boxes.proofs.making.take_first.Given as goal

abbrev pub invariant-loop-word : goal.invariant-loop-word
invariant-loop-word l = record {
  pass : IsPassOf l.bank l.pass;
  sections : stack_of l.pass ≡ stack_of l.fn.pass;
  only : OnlyBoxed (view l.fn.pass) (view l.pass);
  values : KeepsValues (view l.fn.pass) (view l.pass);
  made : SameBoxes (view l.fn.pass) (view l.pass);
  full : FoundFull l.word (view l.fn.pass) (view l.pass);
}
