use Rattle.std.proofs.Common.{◌≡◌, ◌+◌, ◌-◌, ◌++◌}
use Rattle.ft_trace.specs.Addresses.{free_counts}
use Rattle.ft_bank.proofs.opening.push_counts.Given as goal

-- with the counts that are left they are all
abbrev pub invariant-loop-class : goal.invariant-loop-class
invariant-loop-class l = l.words.items ++ free_counts l.tables (3 + l.class) (14 - l.class) ≡ l.fn.words.items ++ free_counts l.tables 3 14
