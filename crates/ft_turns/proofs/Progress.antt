-- In any two rounds that follow each other an answer is fixed or a call finishes, unless no call is left.
use Rattle.std.proofs.Common.{◌≡◌, ◌≢◌, ℕ, zero, suc, ◌+◌, ◌<◌, ◌≤◌, true, false, List, [], ◌∷◌, ◌++◌, length, get_or, Option, None, Some, refl, sym, ap, ◌∙◌, arith, inl, inr, ⊎_elim}
use Rattle.std.specs.Prelude.{is_some, slice_get, ◌⊎◌, nat_lt, if◌then◌else◌}
use Rattle.std.specs.Option.{option_map_or}
use Rattle.std.specs.List.{fold, range_with_len}
use Rattle.std.proofs.lemmas.Bool.{cases_eq, cases_lt}
use Rattle.std.proofs.lemmas.List.{append-nil}
use Rattle.std.proofs.lemmas.List.Sums.{fold-append}
use Rattle.std.proofs.lemmas.Option.{slice_get_cases}
use Rattle.ft_model.specs.declared.script.ScriptParts.{ScriptParts}
use Rattle.ft_model.specs.declared.call.Call.{Call}
use Rattle.ft_model.specs.Histories.{calls_of}
use Rattle.ft_model.specs.Scripts.{IsScript}
use Rattle.ft_turns.specs.Orders.{ThreadState, Machine, holder_of, thread_at, next_call, ready_call, section_locks, turn, round_of, awaited}
use Rattle.ft_turns.specs.Wants.{AreBelow}
use Rattle.ft_turns.specs.Ends.{steps_made, AreTurns}
use Rattle.ft_turns.proofs.LockCounts.{by, times, same_self, held_within}
use Rattle.ft_turns.proofs.Soundness.{Waits, locks_had}
use Rattle.ft_turns.proofs.Awaits.{await_is}
use Rattle.ft_turns.proofs.MachineSoundness.{IsSoundMachine, Rests, Awaits, idle_cases, Turned, turned}

-- ---- a run of turns

-- the turns keep what holds of the machine, and lose no step
pub record Run (script : ScriptParts) (before after : Machine) : Type 0 where
  pub sound : IsSoundMachine script after
  pub steps : steps_made before ≤ steps_made after

pub run : (script : ScriptParts) → IsScript script → (turns : List ℕ) (machine : Machine) → AreTurns script turns → IsSoundMachine script machine → Run script machine (fold (turn script) machine turns)
run script rule [] machine below sound = record { sound = sound; steps = omega arith }
run script rule (thread ∷ turns) machine below sound =
    let first = turned script rule machine thread below.0 sound in
    let rest = run script rule turns (turn script machine thread) below.1 first.sound in
    record { sound = rest.sound; steps = omega (arith, first.steps, rest.steps) }

-- the thread has a turn among these
abbrev pub Occurs : ℕ → List ℕ → Type 0
Occurs thread [] = ⊥
Occurs thread (one ∷ turns) = (thread ≡ one) ⊎ Occurs thread turns

-- the sections of the thread have let their locks go
abbrev pub IsSettled : Machine → ℕ → Type 0
IsSettled machine thread = section_locks (thread_at machine thread).sections ≡ []

-- the thread rests, or waits for a lock that somebody has and that stands above its own
pub record Blocked (machine : Machine) (thread : ℕ) : Type 0 where
  pub container : ℕ
  pub is_held : is_some (holder_of machine.holders container) ≡ true
  pub above : (one : ℕ) → 1 ≤ times one (thread_at machine thread).own → one < container

abbrev pub IsStuck : ScriptParts → Machine → ℕ → Type 0
IsStuck script machine thread = Rests script machine thread ⊎ Blocked machine thread

-- ---- a turn that brings nothing forward

settled_turn : (script : ScriptParts) (before after : Machine) (thread other : ℕ) → Turned script before after thread → steps_made after ≤ steps_made before → (IsSettled before other ⊎ (other ≡ thread)) → IsSettled after other
settled_turn script before after thread other done le cases =
    ⊎_elim
    (λ (e : other ≡ thread).
    rw e (⊎_elim
    (λ (r : Rests script before thread × (after ≡ before)). rw r.1 r.0.settled)
    (λ (w : Waits before.holders after.holders (thread_at before thread) (thread_at after thread) × (length (thread_at after thread).marks ≡ length (thread_at before thread).marks)). w.0.settled)
    (done.quiet le)))
    (λ (n : other ≢ thread).
    ⊎_elim
    (λ (was : IsSettled before other). rw (done.others other n) was)
    (λ (e : other ≡ thread). absurd (n e))
    cases)
    (cases_eq other thread)

marks_turn : (script : ScriptParts) (before after : Machine) (thread other : ℕ) → Turned script before after thread → steps_made after ≤ steps_made before → length (thread_at after other).marks ≡ length (thread_at before other).marks
marks_turn script before after thread other done le =
    ⊎_elim
    (λ (e : other ≡ thread).
    rw e (⊎_elim
    (λ (r : Rests script before thread × (after ≡ before)). ap (λ m. length (thread_at m thread).marks) r.1)
    (λ (w : Waits before.holders after.holders (thread_at before thread) (thread_at after thread) × (length (thread_at after thread).marks ≡ length (thread_at before thread).marks)). w.1)
    (done.quiet le)))
    (λ (n : other ≢ thread). ap (λ (s : ThreadState). length s.marks) (done.others other n))
    (cases_eq other thread)

-- a thread that keeps its state is as ready as before, where no call has finished
ready_by : ScriptParts → ℕ → ThreadState → (ℕ → ℕ) → Option Call
ready_by script thread state marks =
    if (if state.fixed then false else option_map_or (λ one. nat_lt (marks one.thread) one.index) (awaited script thread (length state.marks)) false) then None else next_call script thread state

ready_same : (script : ScriptParts) (before after : Machine) (thread : ℕ) → thread_at after thread ≡ thread_at before thread → ((k : ℕ) → length (thread_at after k).marks ≡ length (thread_at before k).marks) → ready_call script after thread ≡ ready_call script before thread
unfolding ready_by
ready_same script before after thread same marks = λ i. ready_by script thread (same i) (λ k. marks k i)

grows_turn : (script : ScriptParts) (before after : Machine) (thread container : ℕ) → Turned script before after thread → steps_made after ≤ steps_made before → IsSettled before thread → is_some (holder_of before.holders container) ≡ true → is_some (holder_of after.holders container) ≡ true
grows_turn script before after thread container done le settled held =
    ⊎_elim
    (λ (r : Rests script before thread × (after ≡ before)). rw r.1 held)
    (λ (w : Waits before.holders after.holders (thread_at before thread) (thread_at after thread) × (length (thread_at after thread).marks ≡ length (thread_at before thread).marks)). w.0.grows settled container held)
    (done.quiet le)

stuck_turn : (script : ScriptParts) (before after : Machine) (thread other : ℕ) → Turned script before after thread → steps_made after ≤ steps_made before → IsSettled before thread → (IsStuck script before other ⊎ (other ≡ thread)) → IsStuck script after other
stuck_turn script before after thread other done le settled cases =
    ⊎_elim
    (λ (e : other ≡ thread).
    rw e (⊎_elim
    (λ (r : Rests script before thread × (after ≡ before)). rw r.1 (inl r.0))
    (λ (w : Waits before.holders after.holders (thread_at before thread) (thread_at after thread) × (length (thread_at after thread).marks ≡ length (thread_at before thread).marks)).
    let blocked : Blocked after thread = record { container = w.0.container; is_held = w.0.is_held; above = w.0.above } in inr blocked)
    (done.quiet le)))
    (λ (n : other ≢ thread).
    let same = done.others other n in
    let marks : (k : ℕ) → length (thread_at after k).marks ≡ length (thread_at before k).marks = λ k. marks_turn script before after thread k done le in
    ⊎_elim
    (λ (was : IsStuck script before other).
    ⊎_elim
    (λ (r : Rests script before other). let still : Rests script after other = record { idle = ready_same script before after other same marks ∙ r.idle; own = rw same r.own; settled = rw same r.settled } in inl still)
    (λ (b : Blocked before other). let still : Blocked after other = record { container = b.container; is_held = grows_turn script before after thread b.container done le settled b.is_held; above = rw same b.above } in inr still)
    was)
    (λ (e : other ≡ thread). absurd (n e))
    cases)
    (cases_eq other thread)

-- ---- rounds that bring nothing forward

-- what a first turn of a run says, where the run brings nothing forward
quiet_first : (script : ScriptParts) (rule : IsScript script) (thread : ℕ) (turns : List ℕ) (machine : Machine) → AreTurns script (thread ∷ turns) → IsSoundMachine script machine → steps_made (fold (turn script) machine (thread ∷ turns)) ≤ steps_made machine → (steps_made (turn script machine thread) ≤ steps_made machine) × (steps_made (fold (turn script) (turn script machine thread) turns) ≤ steps_made (turn script machine thread))
quiet_first script rule thread turns machine below sound le =
    let first = turned script rule machine thread below.0 sound in
    let rest = run script rule turns (turn script machine thread) below.1 first.sound in
    let whole : steps_made (fold (turn script) (turn script machine thread) turns) ≤ steps_made machine = le in
    (omega (arith, rest.steps, whole), omega (arith, first.steps, whole))

marks_run : (script : ScriptParts) → IsScript script → (turns : List ℕ) (machine : Machine) (other : ℕ) → AreTurns script turns → IsSoundMachine script machine → steps_made (fold (turn script) machine turns) ≤ steps_made machine → length (thread_at (fold (turn script) machine turns) other).marks ≡ length (thread_at machine other).marks
marks_run script rule [] machine other below sound le = refl
marks_run script rule (thread ∷ turns) machine other below sound le =
    let first = turned script rule machine thread below.0 sound in
    let quiet = quiet_first script rule thread turns machine below sound le in
    marks_run script rule turns (turn script machine thread) other below.1 first.sound quiet.1 ∙ marks_turn script machine (turn script machine thread) thread other first quiet.0

settled_run : (script : ScriptParts) → IsScript script → (turns : List ℕ) (machine : Machine) (other : ℕ) → AreTurns script turns → IsSoundMachine script machine → steps_made (fold (turn script) machine turns) ≤ steps_made machine → (IsSettled machine other ⊎ Occurs other turns) → IsSettled (fold (turn script) machine turns) other
settled_run script rule [] machine other below sound le cases = ⊎_elim (λ (was : IsSettled machine other). was) (λ (none : ⊥). absurd none) cases
settled_run script rule (thread ∷ turns) machine other below sound le cases =
    let first = turned script rule machine thread below.0 sound in
    let quiet = quiet_first script rule thread turns machine below sound le in
    let after = turn script machine thread in
    let go : (IsSettled after other ⊎ Occurs other turns) → IsSettled (fold (turn script) machine (thread ∷ turns)) other = settled_run script rule turns after other below.1 first.sound quiet.1 in
    ⊎_elim
    (λ (was : IsSettled machine other). go (inl (settled_turn script machine after thread other first quiet.0 (inl was))))
    (λ (now : (other ≡ thread) ⊎ Occurs other turns).
    ⊎_elim
    (λ (e : other ≡ thread). go (inl (settled_turn script machine after thread other first quiet.0 (inr e))))
    (λ (later : Occurs other turns). go (inr later))
    now)
    cases

stuck_run : (script : ScriptParts) → IsScript script → (turns : List ℕ) (machine : Machine) (other : ℕ) → AreTurns script turns → IsSoundMachine script machine → ((k : ℕ) → k < length script.threads → IsSettled machine k) → steps_made (fold (turn script) machine turns) ≤ steps_made machine → (IsStuck script machine other ⊎ Occurs other turns) → IsStuck script (fold (turn script) machine turns) other
stuck_run script rule [] machine other below sound settled le cases = ⊎_elim (λ (was : IsStuck script machine other). was) (λ (none : ⊥). absurd none) cases
stuck_run script rule (thread ∷ turns) machine other below sound settled le cases =
    let first = turned script rule machine thread below.0 sound in
    let quiet = quiet_first script rule thread turns machine below sound le in
    let after = turn script machine thread in
    let still : (k : ℕ) → k < length script.threads → IsSettled after k = λ k within. settled_turn script machine after thread k first quiet.0 (inl (settled k within)) in
    let go : (IsStuck script after other ⊎ Occurs other turns) → IsStuck script (fold (turn script) machine (thread ∷ turns)) other = stuck_run script rule turns after other below.1 first.sound still quiet.1 in
    let here : (IsStuck script machine other ⊎ (other ≡ thread)) → IsStuck script after other = stuck_turn script machine after thread other first quiet.0 (settled thread below.0) in
    ⊎_elim
    (λ (was : IsStuck script machine other). go (inl (here (inl was))))
    (λ (now : (other ≡ thread) ⊎ Occurs other turns).
    ⊎_elim
    (λ (e : other ≡ thread). go (inl (here (inr e))))
    (λ (later : Occurs other turns). go (inr later))
    now)
    cases

-- ---- threads that are all stuck

some_holder : (holder : Option ℕ) → is_some holder ≡ true → (thread : ℕ) × (1 ≤ by holder thread)
some_holder None held = absurd (let e : false ≡ true = held in cc)
some_holder (Some thread) held = (thread, omega (arith, same_self thread))

-- the holder of a lock is stuck with it
holder_is : (script : ScriptParts) (machine : Machine) (container : ℕ) → IsSoundMachine script machine → ((k : ℕ) → k < length script.threads → IsSettled machine k) → is_some (holder_of machine.holders container) ≡ true → (thread : ℕ) × (thread < length script.threads) × (1 ≤ times container (thread_at machine thread).own)
holder_is script machine container sound settled held =
    let one = some_holder (holder_of machine.holders container) held in
    let thread = one.0 in
    let within : thread < length script.threads =
    ⊎_elim
    (λ (i : thread < length script.threads). i)
    (λ (past : length script.threads ≤ thread). absurd (omega (arith, one.1, sound.no_other thread container past)))
    (cases_lt thread (length script.threads)) in
    let had : locks_had (thread_at machine thread) ≡ (thread_at machine thread).own = rw (settled thread within) (append-nil (thread_at machine thread).own) in
    let its : 1 ≤ times container (thread_at machine thread).own = let t = (sound.each thread within).held container in let u = ap (times container) had in omega (arith, one.1, t, u) in
    (thread, within, its)

-- no lock is held: its holder would wait for a higher one that is held
no_lock : (script : ScriptParts) (machine : Machine) (left container : ℕ) → IsSoundMachine script machine → ((k : ℕ) → k < length script.threads → IsSettled machine k) → ((k : ℕ) → k < length script.threads → IsStuck script machine k) → length machine.holders ≤ container + left → is_some (holder_of machine.holders container) ≡ true → ⊥
no_lock script machine zero container sound settled stuck fuel held = let inside : container < length machine.holders = held_within machine.holders container held in absurd (omega (arith, fuel, inside))
no_lock script machine (suc left) container sound settled stuck fuel held =
    let holder = holder_is script machine container sound settled held in
    ⊎_elim
    (λ (r : Rests script machine holder.0). let none : times container (thread_at machine holder.0).own ≡ 0 = rw r.own refl in absurd (omega (arith, none, holder.2)))
    (λ (b : Blocked machine holder.0). no_lock script machine left b.container sound settled stuck (omega (arith, fuel, b.above container holder.2)) b.is_held)
    (stuck holder.0 holder.1)

-- so every thread rests
all_rest : (script : ScriptParts) (machine : Machine) (thread : ℕ) → thread < length script.threads → IsSoundMachine script machine → ((k : ℕ) → k < length script.threads → IsSettled machine k) → ((k : ℕ) → k < length script.threads → IsStuck script machine k) → Rests script machine thread
all_rest script machine thread within sound settled stuck =
    ⊎_elim
    (λ (r : Rests script machine thread). r)
    (λ (b : Blocked machine thread). absurd (no_lock script machine (length machine.holders) b.container sound settled stuck (omega arith) b.is_held))
    (stuck thread within)

-- ---- rounds

occurs_range : (n from thread : ℕ) → from ≤ thread → thread < from + n → Occurs thread (range_with_len from n)
occurs_range zero from thread low high = absurd (omega (arith, low, high))
occurs_range (suc n) from thread low high =
    ⊎_elim
    (λ (e : thread ≡ from). inl e)
    (λ (d : thread ≢ from). inr (occurs_range n _ thread (omega (arith, low, d)) (omega (arith, high))))
    (cases_eq thread from)

below_range : (n from bound : ℕ) → from + n ≤ bound → AreBelow bound (range_with_len from n)
below_range zero from bound le = tt
below_range (suc n) from bound le = (omega (arith, le), below_range n _ bound (omega (arith, le)))

pub below_append : (bound : ℕ) (xs ys : List ℕ) → AreBelow bound xs → AreBelow bound ys → AreBelow bound (xs ++ ys)
below_append bound [] ys one two = two
below_append bound (x ∷ xs) ys one two = (one.0, below_append bound xs ys one.1 two)

pub round_below : (script : ScriptParts) → AreTurns script (round_of script)
round_below script = below_range (length script.threads) 0 (length script.threads) (omega arith)

-- where all threads rest, none has a call left: the first that awaits awaits a call of an earlier one, and all of those have
-- finished
none_left : (script : ScriptParts) → IsScript script → (machine : Machine) → ((k : ℕ) → k < length script.threads → Rests script machine k) → (n thread : ℕ) → thread < n → thread < length script.threads → length (calls_of script thread) ≤ length (thread_at machine thread).marks
none_left script rule machine rest zero thread low within = absurd (omega (arith, low))
none_left script rule machine rest (suc n) thread low within =
    ⊎_elim
    (λ (waits : Awaits script machine thread).
    let its = await_is script rule thread (length (thread_at machine thread).marks) waits.one waits.is in
    let earlier = its.earlier in
    let before = none_left script rule machine rest n waits.one.thread (omega (arith, earlier, low)) (omega (arith, earlier, within)) in
    let there = its.there in
    let unfinished = waits.unfinished in
    absurd (omega (arith, before, there, unfinished)))
    (λ (none : next_call script thread (thread_at machine thread) ≡ None).
    ⊎_elim
    (λ (found : (called : Call) × (length (thread_at machine thread).marks < length (calls_of script thread)) × (slice_get (calls_of script thread) (length (thread_at machine thread).marks) ≡ Some called) × (get_or (calls_of script thread) (length (thread_at machine thread).marks) called ≡ called)). absurd (let e = sym none ∙ found.2 in cc))
    (λ (past : (length (calls_of script thread) ≤ length (thread_at machine thread).marks) × (slice_get (calls_of script thread) (length (thread_at machine thread).marks) ≡ None)). past.0)
    (slice_get_cases (calls_of script thread) (length (thread_at machine thread).marks)).1)
    (idle_cases script machine thread (rest thread within).idle)

-- two rounds bring something forward, or no thread has a call left
pub two_rounds : (script : ScriptParts) → IsScript script → (machine : Machine) → IsSoundMachine script machine → steps_made (fold (turn script) machine (round_of script ++ round_of script)) ≤ steps_made machine → (thread : ℕ) → thread < length script.threads → length (calls_of script thread) ≤ length (thread_at machine thread).marks
two_rounds script rule machine sound le thread within =
    let round = round_of script in
    let below = round_below script in
    let middle = fold (turn script) machine round in
    let last = fold (turn script) middle round in
    let whole : fold (turn script) machine (round ++ round) ≡ last = fold-append (turn script) machine round round in
    let one = run script rule round machine below sound in
    let two = run script rule round middle below one.sound in
    let all : steps_made last ≤ steps_made machine = rw whole at le in
    let quiet_one : steps_made middle ≤ steps_made machine = omega (arith, two.steps, all) in
    let quiet_two : steps_made last ≤ steps_made middle = omega (arith, one.steps, all) in
    let occurs : (k : ℕ) → k < length script.threads → Occurs k round = λ k in_script. occurs_range (length script.threads) 0 k (omega arith) (omega (arith, in_script)) in
    let settled : (k : ℕ) → k < length script.threads → IsSettled middle k = λ k in_script. settled_run script rule round machine k below sound quiet_one (inr (occurs k in_script)) in
    let still : (k : ℕ) → k < length script.threads → IsSettled last k = λ k in_script. settled_run script rule round middle k below one.sound quiet_two (inl (settled k in_script)) in
    let stuck : (k : ℕ) → k < length script.threads → IsStuck script last k = λ k in_script. stuck_run script rule round middle k below one.sound settled quiet_two (inr (occurs k in_script)) in
    let rest : (k : ℕ) → k < length script.threads → Rests script last k = λ k in_script. all_rest script last k in_script two.sound still stuck in
    let marks : length (thread_at last thread).marks ≡ length (thread_at machine thread).marks = marks_run script rule round middle thread below one.sound quiet_two ∙ marks_run script rule round machine thread below sound quiet_one in
    let done = none_left script rule last rest (suc thread) thread (omega arith) within in
    omega (arith, done, marks)
