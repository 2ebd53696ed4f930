use Rattle.std.proofs.Common.{length}
use Rattle.ft_bank.specs.NewPasses.{AreOpening}
use Rattle.ft_bank_tests.proofs.shapes.take_each.Given as goal

abbrev pub invariant-loop-pass : goal.invariant-loop-pass
invariant-loop-pass l = AreOpening l.bank 0 l.passes.items

abbrev pub decreases-loop-pass : goal.decreases-loop-pass
decreases-loop-pass l = length l.passes.items
