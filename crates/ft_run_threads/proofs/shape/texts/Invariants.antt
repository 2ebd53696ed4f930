use Rattle.std.proofs.Common.{◌≡◌, map, take}
use Rattle.ft_hash.specs.Hashes.{text_hash}
use Rattle.ft_run_threads.proofs.shape.texts.Given as goal

abbrev pub invariant-loop-string : goal.invariant-loop-string
invariant-loop-string l = l.texts.items ≡ map text_hash (take l.string-index l.strings)
