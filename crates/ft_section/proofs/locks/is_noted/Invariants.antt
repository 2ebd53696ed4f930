use Rattle.std.proofs.Common.{◌≡◌, drop}
use Rattle.ft_bank.specs.PassSections.{noted_in}
use Rattle.ft_section.proofs.locks.is_noted.Given as goal

abbrev pub invariant-loop-section : goal.invariant-loop-section
invariant-loop-section l = noted_in l.o (drop l.section-index l.sections) ≡ noted_in l.o l.sections
