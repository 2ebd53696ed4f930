-- Sums.
use Rattle.std.specs.Prelude.{ℕ, zero, suc, ◌+◌}

-- f of the first n numbers, added up
abbrev pub sum_to : (ℕ → ℕ) → ℕ → ℕ
sum_to f zero = 0
sum_to f (suc n) = f n + sum_to f n
