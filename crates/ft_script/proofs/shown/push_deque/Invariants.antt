use Rattle.std.proofs.Common.{◌≡◌, ◌++◌, take, map}
use Rattle.ft_script.specs.Texts.{listed, value_text}
use Rattle.ft_script.proofs.shown.push_deque.Given as goal

abbrev pub invariant-loop-place : goal.invariant-loop-place
invariant-loop-place l = l.out.items ≡ l.initial.out.items ++ listed (map (value_text l.strings) (take l.place l.items.items))
