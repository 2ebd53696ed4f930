-- All calls finish.
use Rattle.std.proofs.Common.{◌≡◌, ℕ, zero, suc, ◌+◌, ◌-◌, ◌*◌, ◌<◌, ◌≤◌, List, [], ◌∷◌, ◌++◌, length, get_or, map, sum, Option, refl, sym, ap, ◌∙◌, arith, inl, inr, ⊎_elim}
use Rattle.std.specs.Prelude.{◌⊎◌, All}
use Rattle.std.specs.List.{fold, sum_by, range_with_len}
use Rattle.std.specs.Option.{option_map_or}
use Rattle.std.proofs.lemmas.Bool.{cases_lt}
use Rattle.std.proofs.lemmas.List.{length-map, get_or-map, get_or_past, append_assoc}
use Rattle.std.proofs.lemmas.List.Sums.{fold-append, sum-map, sum_by-cons}
use Rattle.std.proofs.lemmas.List.Elements.{All-head, All-tail}
use Rattle.std.proofs.lemmas.Option.{slice_get_past}
use Rattle.ft_model.specs.declared.script.ScriptParts.{ScriptParts}
use Rattle.ft_model.specs.declared.script.Thread.{Thread}
use Rattle.ft_model.specs.Histories.{calls_of}
use Rattle.ft_model.specs.Scripts.{IsScript}
use Rattle.ft_turns.specs.Orders.{ThreadState, Machine, fresh_thread, start_machine, thread_at, turn, round_of, count_of_calls, turns_of, last_machine}
use Rattle.ft_turns.specs.Chronicling.{AllFinish}
use Rattle.ft_turns.specs.Schedules.{rounds_of}
use Rattle.ft_turns.specs.Wants.{so_far, AreBelow}
use Rattle.ft_turns.specs.Ends.{steps_made, AreFinished, after_turns, AreTurns, TurnsGoOn, places_of}
use Rattle.ft_turns.proofs.TurnParts.{idle_turn, ready_none}
use Rattle.ft_turns.proofs.ScheduleLemmas.{round_more}
use Rattle.ft_turns.proofs.NothingLeft.{below_sum, same_parts, calls_at}
use Rattle.ft_turns.proofs.MachineSoundness.{IsSoundMachine, start_sound}
use Rattle.ft_turns.proofs.AnsweredPlaces.{placed_run, placed_start}
use Rattle.ft_turns.proofs.Progress.{run, two_rounds, round_below, below_append}

-- ---- steps

double_sum : (g : Thread → ℕ) (threads : List Thread) → sum_by (λ t. g t + g t) threads ≡ sum_by g threads + sum_by g threads
double_sum g [] = omega arith
double_sum g (t ∷ threads) = omega (arith, double_sum g threads, sum_by-cons (λ t. g t + g t) t threads, sum_by-cons g t threads)

double_at : (threads : List Thread) (i : ℕ) → i < length threads → get_or (map (λ (t : Thread). length t.calls + length t.calls) threads) i 0 ≡ get_or (map (λ (t : Thread). length t.calls) threads) i 0 + get_or (map (λ (t : Thread). length t.calls) threads) i 0
double_at [] i within = absurd (omega (arith, within))
double_at (t ∷ threads) zero within = refl
double_at (t ∷ threads) (suc i) within = double_at threads i (omega (arith, within))

-- no more steps than two for each call, and where there are that many every call has finished
pub full_steps : (script : ScriptParts) (machine : Machine) → IsSoundMachine script machine → count_of_calls script + count_of_calls script ≤ steps_made machine → AreFinished script machine
full_steps script machine sound many thread within =
    let f : ThreadState → ℕ = λ state. so_far state + length state.marks in
    let g : Thread → ℕ = λ t. length t.calls in
    let h : Thread → ℕ = λ t. g t + g t in
    let xs = map f machine.threads in
    let ys = map h script.threads in
    let counts : length xs ≡ length ys = length-map machine.threads f ∙ (sound.count ∙ sym (length-map script.threads h)) in
    let mine : (i : ℕ) → i < length script.threads → get_or xs i 0 ≡ f (thread_at machine i) = λ i in_script. get_or-map f machine.threads i fresh_thread 0 (rw sound.count in_script) in
    let theirs : (i : ℕ) → i < length script.threads → get_or ys i 0 ≡ length (calls_of script i) + length (calls_of script i) = λ i in_script. double_at script.threads i in_script ∙ ap (λ n. n + n) (sym (calls_at script i in_script)) in
    let below : (i : ℕ) → i < length xs → get_or xs i 0 ≤ get_or ys i 0 = λ i in_xs.
    let in_script : i < length script.threads = let size = length-map machine.threads f in omega (arith, in_xs, size, sound.count) in
    let made = (sound.each i in_script).made in
    omega (arith, mine i in_script, theirs i in_script, made) in
    let total : sum ys ≡ count_of_calls script + count_of_calls script = sum-map h script.threads ∙ (double_sum g script.threads ∙ ap (λ n. n + n) (sym (sum-map g script.threads))) in
    let steps : sum xs ≡ steps_made machine = sum-map f machine.threads in
    let sums : sum xs ≡ sum ys = let le = below_sum xs ys counts below in omega (arith, le, total, steps, many) in
    let in_xs : thread < length xs = let size = length-map machine.threads f in omega (arith, within, size, sound.count) in
    let same = same_parts xs ys counts below sums thread in_xs in
    let made = (sound.each thread within).made in
    omega (arith, same, mine thread within, theirs thread within, made)

-- ---- nothing is left

finished_turn : (script : ScriptParts) (machine : Machine) (thread : ℕ) → thread < length script.threads → AreFinished script machine → turn script machine thread ≡ machine
finished_turn script machine thread within finished =
    let done = finished thread within in
    idle_turn script machine thread (ready_none script machine thread (slice_get_past (calls_of script thread) (length (thread_at machine thread).marks) (omega (arith, done))))

finished_run : (script : ScriptParts) (turns : List ℕ) (machine : Machine) → AreTurns script turns → AreFinished script machine → fold (turn script) machine turns ≡ machine
finished_run script [] machine below finished = refl
finished_run script (thread ∷ turns) machine below finished =
    ap (λ m. fold (turn script) m turns) (finished_turn script machine thread below.0 finished) ∙ finished_run script turns machine below.1 finished

-- ---- rounds

rounds_below : (script : ScriptParts) (n k : ℕ) → k ≡ n → AreTurns script (rounds_of (length script.threads) k)
rounds_below script zero k is = rw is tt
rounds_below script (suc n) k is =
    let less : k - 1 ≡ n = omega (arith, is) in
    rw (round_more (length script.threads) k (omega (arith, is))) (below_append (length script.threads) (round_of script) (rounds_of (length script.threads) (k - 1)) (round_below script) (rounds_below script n (k - 1) less))

-- two rounds for each step, or all calls have finished
rounds_go : (script : ScriptParts) → IsScript script → (r k : ℕ) (machine : Machine) → k ≡ r + r → IsSoundMachine script machine → AreFinished script (fold (turn script) machine (rounds_of (length script.threads) k)) ⊎ (steps_made machine + r ≤ steps_made (fold (turn script) machine (rounds_of (length script.threads) k)))
rounds_go script rule zero k machine is sound = let none : k ≡ 0 = omega (arith, is) in rw none (inr (omega arith))
rounds_go script rule (suc r) k machine is sound =
    let n = length script.threads in
    let round = round_of script in
    let cut : rounds_of n k ≡ (round ++ round) ++ rounds_of n (k - 1 - 1) =
    round_more n k (omega (arith, is)) ∙ (ap (λ rest. round ++ rest) (round_more n (k - 1) (omega (arith, is))) ∙ sym (append_assoc round round (rounds_of n (k - 1 - 1)))) in
    let middle = fold (turn script) machine (round ++ round) in
    let whole : fold (turn script) machine (rounds_of n k) ≡ fold (turn script) middle (rounds_of n (k - 1 - 1)) = ap (fold (turn script) machine) cut ∙ fold-append (turn script) machine (round ++ round) (rounds_of n (k - 1 - 1)) in
    let two = run script rule (round ++ round) machine (below_append n round round (round_below script) (round_below script)) sound in
    ⊎_elim
    (λ (more : steps_made machine < steps_made middle).
    let rest = rounds_go script rule r (k - 1 - 1) middle (omega (arith, is)) two.sound in
    rw whole (⊎_elim
    (λ (f : AreFinished script (fold (turn script) middle (rounds_of n (k - 1 - 1)))). inl f)
    (λ (le : steps_made middle + r ≤ steps_made (fold (turn script) middle (rounds_of n (k - 1 - 1)))). inr (omega (arith, le, more)))
    rest))
    (λ (quiet : steps_made middle ≤ steps_made machine).
    let finished : AreFinished script machine = λ thread within. let past = two_rounds script rule machine sound quiet thread within in let made = (sound.each thread within).made in omega (arith, past, made) in
    inl (rw (finished_run script (rounds_of n k) machine (rounds_below script k k refl) finished) finished))
    (cases_lt (steps_made machine) (steps_made middle))

all_below : (n : ℕ) (xs : List ℕ) → All (λ x. x < n) xs → AreBelow n xs
all_below n [] all = tt
all_below n (x ∷ xs) all = (All-head (λ x. x < n) x xs all, all_below n xs (All-tail (λ x. x < n) x xs all))

pub turns_below : (script : ScriptParts) → IsScript script → AreTurns script (turns_of script)
turns_below script rule =
    let n = length script.threads in
    let rounds = 4 * count_of_calls script in
    below_append n script.order (rounds_of n rounds) (all_below n script.order rule.turns) (rounds_below script rounds rounds refl)

pub all_finish : (script : ScriptParts) → IsScript script → AreFinished script (last_machine script)
all_finish script rule =
    let n = length script.threads in
    let count = count_of_calls script in
    let start = start_machine script in
    let ordered = fold (turn script) start script.order in
    let whole : last_machine script ≡ fold (turn script) ordered (rounds_of n (4 * count)) = fold-append (turn script) start script.order (rounds_of n (4 * count)) in
    let first = run script rule script.order start (all_below n script.order rule.turns) (start_sound script rule) in
    let last = run script rule (rounds_of n (4 * count)) ordered (rounds_below script (4 * count) (4 * count) refl) first.sound in
    rw whole (⊎_elim
    (λ (f : AreFinished script (fold (turn script) ordered (rounds_of n (4 * count)))). f)
    (λ (le : steps_made ordered + (count + count) ≤ steps_made (fold (turn script) ordered (rounds_of n (4 * count)))). full_steps script (fold (turn script) ordered (rounds_of n (4 * count))) last.sound (omega (arith, le)))
    (rounds_go script rule (count + count) (4 * count) ordered (omega arith) first.sound))

-- a thread that the script does not have has no call
pub each_finishes : (script : ScriptParts) → IsScript script → AllFinish script
each_finishes script rule thread =
    ⊎_elim
    (λ (within : thread < length script.threads). all_finish script rule thread within)
    (λ (past : length script.threads ≤ thread).
    let sound = (run script rule (turns_of script) (start_machine script) (turns_below script rule) (start_sound script rule)).sound in
    ap (λ (s : ThreadState). length s.marks) (get_or_past (last_machine script).threads thread fresh_thread (omega (arith, sound.count, past)))
    ∙ ap (λ (o : Option Thread). length (option_map_or (λ (t : Thread). t.calls) o [])) (sym (slice_get_past script.threads thread past)))
    (cases_lt thread (length script.threads))

pub rounds_bring : (script : ScriptParts) → IsScript script → (turns : List ℕ) (thread : ℕ) → AreTurns script turns → thread < length script.threads → length (thread_at (after_turns script turns) thread).marks < length (calls_of script thread) → steps_made (after_turns script turns) < steps_made (after_turns script (turns ++ (round_of script ++ round_of script)))
rounds_bring script rule turns thread below within left =
    let machine = after_turns script turns in
    let whole : after_turns script (turns ++ (round_of script ++ round_of script)) ≡ fold (turn script) machine (round_of script ++ round_of script) = fold-append (turn script) (start_machine script) turns (round_of script ++ round_of script) in
    let sound = (run script rule turns (start_machine script) below (start_sound script rule)).sound in
    rw whole (⊎_elim
    (λ (more : steps_made machine < steps_made (fold (turn script) machine (round_of script ++ round_of script))). more)
    (λ (quiet : steps_made (fold (turn script) machine (round_of script ++ round_of script)) ≤ steps_made machine). absurd (let past = two_rounds script rule machine sound quiet thread within in omega (arith, past, left)))
    (cases_lt (steps_made machine) (steps_made (fold (turn script) machine (round_of script ++ round_of script)))))

-- ---- answers

pub all_answered : (script : ScriptParts) → IsScript script → (thread : ℕ) → thread < length script.threads → places_of thread (last_machine script).answered ≡ range_with_len 0 (length (calls_of script thread))
all_answered script rule thread within =
    let turns = turns_of script in
    let below = turns_below script rule in
    let start = start_machine script in
    let sound = (run script rule turns start below (start_sound script rule)).sound in
    let done = all_finish script rule thread within in
    let made = (sound.each thread within).made in
    let least : length (thread_at (last_machine script) thread).marks ≤ so_far (thread_at (last_machine script) thread) = omega arith in
    let count : so_far (thread_at (last_machine script) thread) ≡ length (calls_of script thread) = omega (arith, made, done, least) in
    (placed_run script turns start below (placed_start script)).places thread within ∙ ap (range_with_len 0) count

pub turns_go_on : (script : ScriptParts) → IsScript script → TurnsGoOn script
turns_go_on script rule = record { two_rounds = rounds_bring script rule; finished = all_finish script rule; answered = all_answered script rule }
