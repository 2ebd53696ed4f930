-- Counts of awaits stay within the number of calls.
use Rattle.std.proofs.Common.{◌≡◌, ℕ, zero, suc, ◌+◌, ◌<◌, ◌≤◌, List, [], ◌∷◌, length, take, get_or, refl, arith}
use Rattle.std.specs.Prelude.{sum, map}
use Rattle.std.proofs.lemmas.List.Sums.{count_by-le-length, sum_by-cons}
use Rattle.ft_model.specs.declared.script.Thread.{Thread}
use Rattle.ft_board.specs.Awaits.{count_awaits, is_await_of}

-- the awaits of a call among the calls of the threads before one, and all calls of that one, are at most all calls
pub room : (thread index : ℕ) (owns : List Thread) (k : ℕ) (d : Thread) → k < length owns
    → sum (map (λ own. count_awaits thread index own.calls) (take k owns)) + length (get_or owns k d).calls
    ≤ sum (map (λ own. length own.calls) owns)
room thread index [] k d short = omega (arith, short)
room thread index (own ∷ owns) zero d short =
    let first : length (get_or (own ∷ owns) 0 d).calls ≡ length own.calls = refl in
    let all = sum_by-cons (λ (n : ℕ). n) (length own.calls) (map (λ (each : Thread). length each.calls) owns) in
    omega (arith, first, all)
room thread index (own ∷ owns) (suc k) d short =
    let one : count_awaits thread index own.calls ≤ length own.calls = count_by-le-length (is_await_of thread index) own.calls in
    let rest = room thread index owns k d (omega (arith, short)) in
    let before = sum_by-cons (λ (n : ℕ). n) (count_awaits thread index own.calls) (map (λ (each : Thread). count_awaits thread index each.calls) (take k owns)) in
    let all = sum_by-cons (λ (n : ℕ). n) (length own.calls) (map (λ (each : Thread). length each.calls) owns) in
    omega (arith, one, rest, before, all)
