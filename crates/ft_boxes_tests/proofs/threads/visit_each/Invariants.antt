use Rattle.ft_boxes_tests.specs.Counters.{IsCounter}
use Rattle.ft_boxes_tests.proofs.threads.visit_each.Given as goal

abbrev pub invariant-loop-index : goal.invariant-loop-index
invariant-loop-index l = record { counter : IsCounter l.bank l.pass }
