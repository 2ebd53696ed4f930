use Rattle.std.proofs.Common.{◌≡◌, ◌++◌, take}
use Rattle.ft_script.proofs.Printed.{each_listed}
use Rattle.ft_script.proofs.shown.push_listed.Given as goal

abbrev pub invariant-loop-next : goal.invariant-loop-next
invariant-loop-next g l = l.out.items ≡ l.initial.out.items ++ each_listed (g.T.Shown.text l.strings) (take l.next-index l.rest)
