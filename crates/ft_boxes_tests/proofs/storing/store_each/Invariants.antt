use Rattle.ft_boxes_tests.specs.Counters.{IsStoring}
use Rattle.ft_boxes_tests.proofs.storing.store_each.Given as goal

abbrev pub invariant-loop-index : goal.invariant-loop-index
invariant-loop-index l = record { storing : IsStoring l.bank l.pass }
