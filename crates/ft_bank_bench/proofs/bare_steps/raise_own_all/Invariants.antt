use Rattle.std.proofs.Common.{◌≡◌}
use Rattle.ft_bank_bench.proofs.bare_steps.raise_own_all.Given as goal

abbrev pub invariant-loop : goal.invariant-loop
invariant-loop l = l.seat.table_id ≡ l.words.table_id
