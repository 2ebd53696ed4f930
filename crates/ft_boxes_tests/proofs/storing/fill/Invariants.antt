use Rattle.ft_boxes_tests.specs.Counters.{IsCaller}
use Rattle.ft_boxes_tests.proofs.storing.fill.Given as goal

abbrev pub invariant-loop-index : goal.invariant-loop-index
invariant-loop-index l = record { may : IsCaller l.bank l.pass }
