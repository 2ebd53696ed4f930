use Rattle.std.proofs.Common.{◌≡◌, ◌++◌, take, map}
use Rattle.std.specs.List.{join_with_byte, zip}
use Rattle.ft_script.specs.Texts.{named_text}
use Rattle.ft_script.proofs.shown.push_all.Given as goal

abbrev pub invariant-loop-place : goal.invariant-loop-place
invariant-loop-place l = l.out.items ≡ l.initial.out.items ++ join_with_byte 59 (map (named_text l.strings) (take l.place (zip l.containers l.world)))
