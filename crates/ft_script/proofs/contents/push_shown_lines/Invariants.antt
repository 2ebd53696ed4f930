use Rattle.std.proofs.Common.{◌≡◌, ◌++◌, length}
use Rattle.ft_script.proofs.ShownLines.{first_shown}
use Rattle.ft_script.proofs.contents.push_shown_lines.Given as goal

abbrev pub invariant-loop-container : goal.invariant-loop-container
invariant-loop-container l = l.out.items ≡ l.initial.out.items ++ first_shown l.script l.contents (length l.yielded)
