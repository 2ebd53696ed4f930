use Rattle.std.proofs.Common.{◌≡◌, ◌+◌, ◌-◌, ◌++◌}
use Rattle.ft_bank.specs.TableNames.{sizes_from}
use Rattle.ft_bank.proofs.opening.class_sizes.Given as goal

abbrev pub invariant-loop-class : goal.invariant-loop-class
invariant-loop-class l = l.sizes.items ++ sizes_from (3 + l.class) (14 - l.class) ≡ sizes_from 3 14
