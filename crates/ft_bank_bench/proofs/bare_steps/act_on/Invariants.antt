use Rattle.std.proofs.Common.{◌≡◌}
use Rattle.ft_bank_bench.proofs.bare_steps.act_on.Given as goal

abbrev pub invariant-loop-word : goal.invariant-loop-word
invariant-loop-word l = l.seat.table_id ≡ l.words.table_id
