use Rattle.std.proofs.Common.{◌≡◌, length}
use Rattle.ft_facade.proofs.sizes.hashes.Given as goal

abbrev pub invariant-loop-number : goal.invariant-loop-number
invariant-loop-number l = length l.hashes.items ≡ l.number
