use Rattle.ft_boxes_tests.specs.Counters.{IsCaller}
use Rattle.ft_boxes_tests.proofs.moves.append_small.Given as goal

abbrev pub invariant-loop : goal.invariant-loop
invariant-loop l = record { may : IsCaller l.bank l.pass }
