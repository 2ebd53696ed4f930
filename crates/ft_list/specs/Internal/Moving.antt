-- The words of a list's table while a pass puts its items in order.
use Rattle.std.specs.Prelude.{◌≡◌, ℕ, ◌<◌, ◌≤◌, List}
use Rattle.ft_model.specs.declared.data.Value.{Value}
use Rattle.ft_layout.specs.declared.slot.Stored.{Stored}
use Rattle.ft_list.specs.ListItemWrites.{IsPutting, stored_item}

-- The items are put in order, and those before this place were: it stores what `news` has before it, and what the list
-- had from it on. (profile)
pub record IsMoving (class : ℕ) (values news : List Value) (first past at : ℕ) (words : List ℕ) : Type 0 where
  pub now : ℕ → Stored
  pub putting : IsPutting class values first past now words
  pub done : (p : ℕ) → p < at → now p ≡ stored_item news p
  pub rest : (p : ℕ) → at ≤ p → now p ≡ stored_item values p

-- The items are put in order, from the last one down, and those from this place on were: it stores what `news` has from it
-- on, and what the list had before it. (profile)
pub record IsMovingDown (class : ℕ) (values news : List Value) (first past at : ℕ) (words : List ℕ) : Type 0 where
  pub now : ℕ → Stored
  pub putting : IsPutting class values first past now words
  pub done : (p : ℕ) → at ≤ p → now p ≡ stored_item news p
  pub rest : (p : ℕ) → p < at → now p ≡ stored_item values p
