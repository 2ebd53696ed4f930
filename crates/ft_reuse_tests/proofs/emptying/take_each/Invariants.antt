use Rattle.std.proofs.Common.{◌≤◌}
use Rattle.ft_reuse_tests.proofs.emptying.take_each.Given as goal
use Rattle.ft_list.specs.ListWrites.{MayCallList}

abbrev pub invariant-loop : goal.invariant-loop
invariant-loop l = record { may : MayCallList l.bank l.pass l.l; few : l.taken ≤ 256 }
