-- In which order the slots of a table are tried for a hash. A table has a power of two of slots, numbered from 0 on,
-- and its mask is the last one. (CPython's dictobject.c and setobject.c, their comments on probing: i*5 + perturb + 1,
-- perturb shifted by 5, runs of 9 more; from where on and in what words: profile)
use Rattle.std.specs.Prelude.{◌≡◌, ℕ, zero, suc, ◌+◌, ◌*◌, ◌/◌, ◌%◌, ◌^◌, ◌<◌, ◌≤◌, List, [], ◌∷◌, map, flat_map, nat_le, if◌then◌else◌}
use Rattle.std.specs.List.{range_with_len}
use Rattle.std.specs.Int.{IsPowerOfTwo}

-- the last slot of a table with a power of two of slots, 8 or more, which 64 bits can count (profile)
pub record IsMask (mask : ℕ) : Type 0 where
  pub least : 7 ≤ mask
  pub most : mask < 2 ^ 63
  pub power : IsPowerOfTwo (mask + 1)

-- what is left of the hash after n shifts by 5 bits
unfoldable pub perturb : ℕ → ℕ → ℕ
perturb hash n = hash / 32 ^ n

-- position n of the hash's probe: first the hash's low bits, then five times the position before, plus what is left of
-- the hash, plus 1
unfoldable pub position : ℕ → ℕ → ℕ → ℕ
position hash mask zero = hash % (mask + 1)
position hash mask (suc n) = (position hash mask n * 5 + perturb hash (suc n) + 1) % (mask + 1)

-- the slots that a dict's probe tries at its first n positions, in order
unfoldable pub dict_slots : ℕ → ℕ → ℕ → List ℕ
dict_slots hash mask n = map (position hash mask) (range_with_len 0 n)

-- a set's probe tries the nine slots after a position too, where the table has them all
unfoldable pub run_slots : ℕ → ℕ → List ℕ
run_slots mask slot = if nat_le (slot + 9) mask then range_with_len slot 10 else slot ∷ []

-- the slots that a set's probe tries at its first n positions, in order
unfoldable pub set_slots : ℕ → ℕ → ℕ → List ℕ
set_slots hash mask n = flat_map (run_slots mask) (dict_slots hash mask n)

-- a probe on its way: the position that comes next, what is left of the hash there, and the mask
pub record ProbeState : Type 0 where
  pub slot : ℕ
  pub left : ℕ
  pub mask : ℕ

-- the probe of a hash that has given n positions
unfoldable pub probe_state : ℕ → ℕ → ℕ → ProbeState
probe_state hash mask n = record { slot = position hash mask n; left = perturb hash n; mask = mask }

-- every slot is among the first mask + 14 positions, so as many as there are slots and 13 more
abbrev pub Covers : ℕ → ℕ → Type 0
Covers hash mask = (slot : ℕ) → slot ≤ mask → (n : ℕ) × (n < mask + 14) × (position hash mask n ≡ slot)
