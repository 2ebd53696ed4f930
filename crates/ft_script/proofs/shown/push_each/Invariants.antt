use Rattle.std.proofs.Common.{◌≡◌, ◌++◌, length}
use Rattle.std.specs.Prelude.{All}
use Rattle.ft_script.proofs.Printed.{each_listed}
use Rattle.ft_script.proofs.shown.push_each.Given as goal

abbrev pub invariant-loop-member : goal.invariant-loop-member
invariant-loop-member g l = record {
  printed : l.out.items ++ each_listed (g.T.Shown.text l.strings) l.member-iterator ≡ l.initial.out.items ++ each_listed (g.T.Shown.text l.strings) l.initial.member-iterator;
  rest : All (g.T.Shown.is_of (length l.strings)) l.member-iterator;
}
