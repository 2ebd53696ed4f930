-- The first and the last of the used entries of a table that are there.
use Rattle.std.specs.Prelude.{◌≡◌, ℕ, ◌+◌, ◌<◌, ◌≤◌, true, false, List, length, Option, Some, None, slice_index_or}
use Rattle.ft_layout.specs.Tables.{UsedEntry, is_live}

-- no entry from one place on and before another is there
abbrev pub NoneThere : ℕ → ℕ → List UsedEntry → Type 0
NoneThere from past used =
    (place : ℕ) (any : UsedEntry) → from ≤ place → place < past → is_live (slice_index_or used place any) ≡ false

-- of as many used entries the one at this place is there, and none before it; or none is
abbrev pub IsFirst : ℕ → Option ℕ → List UsedEntry → Type 0
IsFirst fill (Some place) used =
    fill ≡ length used
    → (place < fill) × NoneThere 0 place used × ((any : UsedEntry) → is_live (slice_index_or used place any) ≡ true)
IsFirst fill None used = fill ≡ length used → NoneThere 0 fill used

-- of as many used entries the one at this place is there, and none after it; or none is
abbrev pub IsLast : ℕ → Option ℕ → List UsedEntry → Type 0
IsLast fill (Some place) used =
    fill ≡ length used
    → (place < fill) × NoneThere (place + 1) fill used
    × ((any : UsedEntry) → is_live (slice_index_or used place any) ≡ true)
IsLast fill None used = fill ≡ length used → NoneThere 0 fill used
