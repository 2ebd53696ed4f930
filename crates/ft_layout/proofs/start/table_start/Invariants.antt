use Rattle.std.proofs.Common.{◌≡◌, ◌≤◌, ◌+◌, ◌-◌, ◌*◌}
use Rattle.ft_layout.specs.Starts.{heap_start, words_below}
use Rattle.ft_layout.proofs.start.table_start.Given as goal

-- the heaps and the tables of all lower classes lie before, at most 1,024 tables of a class
abbrev pub invariant-loop-below : goal.invariant-loop-below
invariant-loop-below l = record {
  is : l.start ≡ heap_start l.containers l.heap l.passes + words_below l.tables l.below;
  most : l.start ≤ 1060000 + (l.below - 3) * 425019392;
}
