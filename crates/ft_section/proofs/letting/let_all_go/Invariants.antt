use Rattle.std.proofs.Common.{take}
use Rattle.ft_bank.specs.Passes.{view}
use Rattle.ft_bank.specs.PassSections.{noted_in}
use Rattle.ft_section.specs.Locking.{LetGo, KeepsStack}
use Rattle.ft_section.proofs.letting.let_all_go.Given as goal

abbrev pub invariant-loop-section : goal.invariant-loop-section
invariant-loop-section l = record {
  stack : KeepsStack l.fn.pass l.pass;
  go : LetGo (λ o. noted_in o (take l.section-index l.sections)) (view l.fn.pass) (view l.pass);
}
