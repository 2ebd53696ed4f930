-- Rounds that are left.
use Rattle.std.proofs.Common.{◌≡◌, ℕ, zero, suc, ◌+◌, ◌-◌, ◌<◌, ◌≤◌, List, [], ◌∷◌, ◌++◌, length, drop, get_or, refl, ap, ◌∙◌, arith}
use Rattle.std.specs.List.{flat_map, range_with_len}
use Rattle.std.proofs.lemmas.List.{drop_more, drop_all}
use Rattle.std.proofs.lemmas.List.FromFn.{get_or-range_with_len, length-range_with_len}
use Rattle.ft_turns.specs.declared.schedule.Schedule.{Schedule}
use Rattle.ft_turns.specs.Schedules.{rounds_of, scheduled}

same_rounds : (round : List ℕ) (n a b : ℕ) → flat_map (λ one. round) (range_with_len a n) ≡ flat_map (λ one. round) (range_with_len b n)
same_rounds round zero a b = refl
same_rounds round (suc n) a b = ap (λ rest. round ++ rest) (same_rounds round n _ _)

pub round_more : (threads n : ℕ) → 0 < n → rounds_of threads n ≡ range_with_len 0 threads ++ rounds_of threads (n - 1)
round_more threads zero some = absurd (omega arith)
round_more threads (suc n) some =
    let less : suc n - 1 ≡ n = omega arith in
    rw less (ap (λ rest. range_with_len 0 threads ++ rest) (same_rounds (range_with_len 0 threads) n _ _))

pub next_more : (threads next : ℕ) → next < threads → drop next (range_with_len 0 threads) ≡ next ∷ drop (next + 1) (range_with_len 0 threads)
next_more threads next within =
    let in_range : next < length (range_with_len 0 threads) = rw length-range_with_len within in
    let read : get_or (range_with_len 0 threads) next 0 ≡ next = get_or-range_with_len 0 threads next 0 within ∙ omega arith in
    drop_more (range_with_len 0 threads) next 0 in_range ∙ ap (λ t. t ∷ drop (next + 1) (range_with_len 0 threads)) read

pub round_over : (threads : ℕ) → drop threads (range_with_len 0 threads) ≡ []
round_over threads = drop_all threads (range_with_len 0 threads) (let same : length (range_with_len 0 threads) ≡ threads = length-range_with_len 0 threads in omega arith)

-- a round that begins
pub round_begins : (schedule after : Schedule) (order : List ℕ) (threads : ℕ) → schedule.next ≡ threads → 0 < schedule.rounds → after.ordered ≡ schedule.ordered → after.next ≡ 0 → after.rounds ≡ schedule.rounds - 1 → scheduled after order threads ≡ scheduled schedule order threads
round_begins schedule after order threads over some ordered next rounds =
    rw (ordered, next, rounds, over, round_over threads, round_more threads schedule.rounds some) refl

-- a turn in a round
pub turn_of_round : (schedule : Schedule) (order : List ℕ) (threads : ℕ) → length order ≤ schedule.ordered → schedule.next < threads → scheduled schedule order threads ≡ schedule.next ∷ scheduled (record schedule { next = schedule.next + 1 }) order threads
turn_of_round schedule order threads over within = rw (drop_all schedule.ordered order over, next_more threads schedule.next within) refl

-- no turn
pub none_left : (schedule : Schedule) (order : List ℕ) (threads : ℕ) → length order ≤ schedule.ordered → schedule.next ≡ threads → schedule.rounds ≡ 0 → scheduled schedule order threads ≡ []
none_left schedule order threads over ended none = rw (drop_all schedule.ordered order over, ended, round_over threads, none) refl
