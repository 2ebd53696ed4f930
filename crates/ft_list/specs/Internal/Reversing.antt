-- The words of a list's table while a pass turns its items round.
use Rattle.std.specs.Prelude.{◌≡◌, ℕ, ◌+◌, ◌<◌, ◌≤◌, List, length, reverse}
use Rattle.ft_model.specs.declared.data.Value.{Value}
use Rattle.ft_layout.specs.declared.slot.Stored.{Stored}
use Rattle.ft_list.specs.ListItemWrites.{IsPutting, stored_item}

-- As many items from the first one on, and as many before the end, stand as they are to stand in the end; those between
-- stand as they did. (profile)
pub record IsTurning (class : ℕ) (values : List Value) (at : ℕ) (words : List ℕ) : Type 0 where
  pub now : ℕ → Stored
  pub putting : IsPutting class values 0 (length values) now words
  pub first : (p : ℕ) → p < at → now p ≡ stored_item (reverse values) p
  pub last : (p : ℕ) → length values ≤ p + at → now p ≡ stored_item (reverse values) p
  pub middle : (p : ℕ) → at ≤ p → p + at < length values → now p ≡ stored_item values p
