-- What a source has left and a sink has taken in. A stream that doesn't tell its content has None.
use Rattle.std.specs.Prelude.{ℕ, ◌+◌, ◌-◌, ◌^◌, min, List, ◌++◌, Option, option_map}

-- What a stream tells of its bytes, those that a source has left or that a sink has taken in, and how often a call of
-- it has failed. (profile)
pub record Stream : Type 0 where
  pub content : Option (List ℕ)
  pub faults : ℕ

-- The count of faults after one more. It stands still at the end of its range.
abbrev pub raised : ℕ → ℕ
raised count = min (count + 1) (2 ^ 64 - 1)

-- What was left before these bytes came, where this is left now.
abbrev pub prepended : List ℕ → Option (List ℕ) → Option (List ℕ)
prepended bytes left = option_map (λ rest. bytes ++ rest) left

-- What a sink has taken in, after these bytes more.
abbrev pub added : Option (List ℕ) → List ℕ → Option (List ℕ)
added taken bytes = option_map (λ before. before ++ bytes) taken
