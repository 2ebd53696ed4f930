use Rattle.std.proofs.Common.{◌≡◌, ◌++◌, drop}
use Rattle.ft_script.specs.LineWords.{text_from}
use Rattle.std.proofs.Common.{false}
use Rattle.ft_script.proofs.words.text_of.Given as goal

abbrev pub invariant-loop-byte : goal.invariant-loop-byte
invariant-loop-byte l = l.text.items ++ text_from l.after (drop l.byte-index l.letters) ≡ text_from false l.letters
