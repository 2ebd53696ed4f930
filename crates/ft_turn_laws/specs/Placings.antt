-- Numbers in lists.
use Rattle.std.specs.Prelude.{ℕ, ◌+◌, ◌==◌, List, [], ◌∷◌, if◌then◌else◌}

-- how often the number stands in the list
abbrev pub times : ℕ → List ℕ → ℕ
times o [] = 0
times o (x ∷ xs) = (if x == o then 1 else 0) + times o xs

-- one number, or two that differ
abbrev pub pair_of : ℕ → ℕ → List ℕ
pair_of lower upper = if lower == upper then lower ∷ [] else lower ∷ upper ∷ []
