use Rattle.ft_bank_bench.specs.Counting.{MayCount}
use Rattle.ft_bank_bench.proofs.box_steps.make_all.Given as goal

abbrev pub invariant-loop : goal.invariant-loop
invariant-loop l = MayCount l.bank l.pass
