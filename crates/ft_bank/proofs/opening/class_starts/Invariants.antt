use Rattle.std.proofs.Common.{◌≡◌, ◌+◌, ◌-◌, ◌++◌}
use Rattle.ft_bank.specs.Shapes.{plan}
use Rattle.ft_bank.specs.TableNames.{starts_from}
use Rattle.ft_bank.proofs.opening.class_starts.Given as goal

abbrev pub invariant-loop-class : goal.invariant-loop-class
invariant-loop-class l = l.starts.items ++ starts_from (plan l.fn.shape) (3 + l.class) (14 - l.class) ≡ starts_from (plan l.fn.shape) 3 14
