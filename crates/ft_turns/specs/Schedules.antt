-- The turns that are left.
use Rattle.std.specs.Prelude.{ℕ, ◌≤◌, List, ◌++◌, drop}
use Rattle.std.specs.List.{flat_map, range_with_len}
use Rattle.ft_turns.specs.declared.schedule.Schedule.{Schedule}

-- that many rounds, each of that many threads
abbrev pub rounds_of : ℕ → ℕ → List ℕ
rounds_of threads rounds = flat_map (λ round. range_with_len 0 threads) (range_with_len 0 rounds)

-- what is left of the order, of the round that has begun, and of the rounds
abbrev pub scheduled : Schedule → List ℕ → ℕ → List ℕ
scheduled schedule order threads =
    drop schedule.ordered order ++ (drop schedule.next (range_with_len 0 threads) ++ rounds_of threads schedule.rounds)

-- no more threads have had their turns in the round that has begun than there are
abbrev pub IsInRound : ℕ → Schedule → Type 0
IsInRound threads schedule = schedule.next ≤ threads
