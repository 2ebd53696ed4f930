-- Words on a thread between two turns.
use Rattle.std.specs.Prelude.{ℕ, ◌+◌, ◌<◌, List, [], ◌∷◌, length, if◌then◌else◌}
use Rattle.ft_turns.specs.Orders.{ThreadState}

-- the calls of the thread that have finished, and the next one where its answer is fixed
abbrev pub so_far : ThreadState → ℕ
so_far state = length state.marks + (if state.fixed then 1 else 0)

-- all are below the number
abbrev pub AreBelow : ℕ → List ℕ → Type 0
AreBelow n [] = Unit {0}
AreBelow n (x ∷ xs) = (x < n) × AreBelow n xs
