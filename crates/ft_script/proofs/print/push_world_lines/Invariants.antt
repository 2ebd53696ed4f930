use Rattle.std.proofs.Common.{◌≡◌, ◌++◌, length}
use Rattle.ft_script.proofs.Printed.{first_lines}
use Rattle.ft_script.proofs.print.push_world_lines.Given as goal

abbrev pub invariant-loop-container : goal.invariant-loop-container
invariant-loop-container l = l.out.items ≡ l.initial.out.items ++ first_lines l.script l.world (length l.yielded)
