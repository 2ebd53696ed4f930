use Rattle.ft_script.proofs.ShortNumbers.{IsReadTo}
use Rattle.ft_script.proofs.words.short_value.Given as goal

abbrev pub invariant-loop-byte : goal.invariant-loop-byte
invariant-loop-byte l = IsReadTo l.digits l.byte-index l.value
