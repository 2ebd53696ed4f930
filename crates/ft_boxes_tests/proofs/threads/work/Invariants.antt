use Rattle.ft_boxes_tests.specs.Counters.{IsCounter}
use Rattle.ft_boxes_tests.proofs.threads.work.Given as goal

abbrev pub invariant-loop : goal.invariant-loop
invariant-loop l = record { counter : IsCounter l.bank l.pass }
