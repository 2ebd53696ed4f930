use Rattle.std.proofs.Common.{◌≡◌, take}
use Rattle.ft_hash.specs.Hashes.{text_hash}
use Rattle.ft_hash.proofs.hash.hash_text.Given as goal

-- the hash of the bytes so far
abbrev pub invariant-loop-byte : goal.invariant-loop-byte
invariant-loop-byte l = l.hash ≡ text_hash (take l.byte-index l.text)
