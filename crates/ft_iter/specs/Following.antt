-- What a dict or a set gives next, as plain containers have it and as words say it.
use Rattle.std.specs.Prelude.{◌≡◌, ℕ, Option, option_map}
use Rattle.ft_model.specs.declared.content.Content.{Content}
use Rattle.ft_model.specs.declared.content.Content.TheVariants as content
use Rattle.ft_model.specs.Cursors.{next_pair, next_element}
use Rattle.ft_layout.specs.declared.slot.Pair.{Pair}
use Rattle.ft_layout.specs.Containers.{used_pair, used_element}
use Rattle.ft_keys.specs.TableChanges.{entry_of_pair}

-- The pair of words says what the plain container has next: the pair or the element with the least serial greater than
-- the last one given, or none. A list has no serials. (profile)
abbrev pub IsNextOf : Content → Option ℕ → Option Pair → Type 0
IsNextOf (content.Dict dict) last given =
    option_map entry_of_pair given ≡ option_map used_pair (next_pair dict.pairs last)
IsNextOf (content.Set set) last given =
    option_map entry_of_pair given ≡ option_map used_element (next_element set.elements last)
IsNextOf (content.List items) last given = ⊥
IsNextOf (content.Deque deque) last given = ⊥
