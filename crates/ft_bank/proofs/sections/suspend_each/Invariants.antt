use Rattle.std.proofs.Common.{◌≡◌, map, take, drop, ◌++◌}
use Rattle.ft_bank.specs.PassSections.{suspended}
use Rattle.ft_bank.proofs.sections.suspend_each.Given as goal

abbrev pub invariant-loop-section : goal.invariant-loop-section
invariant-loop-section l =
    l.sections ≡ map (suspended l.marks) (take l.section-index l.fn.sections) ++ drop l.section-index l.fn.sections
