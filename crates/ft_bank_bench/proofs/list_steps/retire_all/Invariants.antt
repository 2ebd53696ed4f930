use Rattle.ft_bank_bench.proofs.list_steps.retire_all.Given as goal
use Rattle.ft_list.specs.ListWrites.{MayCallList}

abbrev pub invariant-loop-round : goal.invariant-loop-round
invariant-loop-round l = MayCallList l.bank l.pass l.l
