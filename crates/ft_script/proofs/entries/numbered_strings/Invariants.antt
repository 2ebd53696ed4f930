use Rattle.std.proofs.Common.{◌≡◌, take}
use Rattle.ft_script.proofs.entries.numbered_strings.Given as goal

abbrev pub invariant-loop-text : goal.invariant-loop-text
invariant-loop-text l = l.strings ≡ take l.text-index l.texts
