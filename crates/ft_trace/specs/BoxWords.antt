-- Words of boxes, and words that name them.
use Rattle.std.specs.Prelude.{◌≢◌, ℕ, ◌+◌, ◌-◌, ◌%◌, ◌^◌}
use Rattle.ft_model.specs.declared.data.Value.{Value}
use Rattle.ft_model.specs.declared.data.Value.TheVariants as value
use Rattle.ft_layout.specs.declared.slot.Stored.TheVariants.{Plain}
use Rattle.ft_layout.specs.Words.{IsStored}

-- The shared word has the shared count, which may be below 0, times this number. The two low bits are 0 in the default
-- state. (PEP 703, "Biased Reference Counting")
abbrev pub count_unit : ℕ
count_unit = 4

-- and these where the box was merged (PEP 703)
abbrev pub merged_bits : ℕ
merged_bits = 3

-- the shared word of a box that is dead, since it was merged and its count is 0 (PEP 703); also where there is no box
-- (profile)
abbrev pub dead_word : ℕ
dead_word = 3

-- what the shared word becomes where the count is raised by one, and where it is lowered
abbrev pub raised_word : ℕ → ℕ
raised_word found = (found + count_unit) % 2 ^ 64

abbrev pub lowered_word : ℕ → ℕ
lowered_word found = (found + (2 ^ 64 - count_unit)) % 2 ^ 64

-- the kind of a value that stands in a box; its payload names the box (profile)
abbrev pub box_kind : ℕ
box_kind = 4

-- the kind and the payload of a value that a box may have: an integer or a string (profile)
pub record IsBoxedValue (kind payload : ℕ) : Type 0 where
  pub stored : Value
  pub some : stored ≢ value.Nothing
  pub words : IsStored kind payload (Plain stored)
