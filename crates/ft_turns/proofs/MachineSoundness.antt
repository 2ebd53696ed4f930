-- What holds of the machine between two turns, and what a turn brings forward.
use Rattle.std.proofs.Common.{◌≡◌, ◌≢◌, ℕ, zero, suc, ◌+◌, ◌<◌, ◌≤◌, Bool, true, false, List, [], ◌∷◌, length, get_or, take, drop, map, Option, None, Some, refl, sym, ap, ◌∙◌, subst, arith, add-zero, inl, inr, ⊎_elim}
use Rattle.std.specs.Prelude.{if◌then◌else◌, slice_get, ◌⊎◌, All}
use Rattle.std.specs.Option.{option_map_or}
use Rattle.std.proofs.lemmas.Bool.{cases_eq, ltb-true}
use Rattle.std.proofs.lemmas.List.{get_or-set_same, get_or-set_other, length-set, length-map, length-append, drop_all, nil_from_length}
use Rattle.std.proofs.lemmas.List.Sums.{sum_by-set}
use Rattle.std.proofs.lemmas.List.Elements.{All-take}
use Rattle.std.proofs.lemmas.Option.{slice_get_cases}
use Rattle.ft_model.specs.declared.call.Call.{Call}
use Rattle.ft_model.specs.declared.script.Thread.{Thread}
use Rattle.ft_model.specs.declared.script.ScriptParts.{ScriptParts}
use Rattle.ft_model.specs.Histories.{calls_of, cursors_of}
use Rattle.ft_model.specs.Scripts.{IsScript, IsThread, IsCallOf, AreNested}
use Rattle.ft_turns.specs.Orders.{ThreadState, Machine, Locking, fresh_thread, start_machine, lower_first, locks_taken, take_locks, holder_of, thread_at, next_call, section_locks, innermost_containers, is_unfinished, is_awaiting, ready_call, turn, Awaited, awaited}
use Rattle.ft_turns.specs.Internal.TurnParts.{TryOutcome, not_tried, answer_tried, finish_tried, answer_part, finish_part, newly_answered, placed}
use Rattle.ft_turns.specs.Wants.{so_far}
use Rattle.ft_turns.specs.Ends.{steps_made}
use Rattle.ft_turns.proofs.Awaits.{await_is}
use Rattle.ft_turns.proofs.TurnParts.{turn_is, idle_turn, ready_next, ready_none}
use Rattle.ft_turns.proofs.TurnSteps.{finish_adds_mark, answer_keeps_marks}
use Rattle.ft_turns.proofs.LockCounts.{by}
use Rattle.ft_turns.proofs.Wanting.{named_are_two, taken_are_two}
use Rattle.ft_turns.proofs.Soundness.{IsSound, Waits, wanted, own_none}
use Rattle.ft_turns.proofs.TurnSoundness.{IsTurned, turned_sound}

-- every thread is sound, and nobody else has a lock
pub record IsSoundMachine (script : ScriptParts) (machine : Machine) : Type 0 where
  pub count : length machine.threads ≡ length script.threads
  pub each : (thread : ℕ) → thread < length script.threads → IsSound script thread machine.holders (thread_at machine thread)
  pub no_other : (thread container : ℕ) → length script.threads ≤ thread → by (holder_of machine.holders container) thread ≡ 0

-- ---- the script

-- a thread's calls keep the rule of scripts
pub record Calls (script : ScriptParts) (thread : ℕ) : Type 0 where
  pub calls : All (IsCallOf script (cursors_of script thread)) (calls_of script thread)
  pub nested : AreNested 0 (calls_of script thread)

pub thread_calls : (script : ScriptParts) → IsScript script → (thread : ℕ) → thread < length script.threads → Calls script thread
thread_calls script rule thread within =
    ⊎_elim
    (λ (found : (t : Thread) × (thread < length script.threads) × (slice_get script.threads thread ≡ Some t) × (get_or script.threads thread t ≡ t)).
    let is : IsThread script found.0 = subst (IsThread script) found.3 (rule.threads thread found.0 within) in
    let calls : calls_of script thread ≡ found.0.calls = ap (λ o. option_map_or (λ (t : Thread). t.calls) o []) found.2 in
    let cursors : cursors_of script thread ≡ length found.0.cursors = ap (λ o. option_map_or (λ (t : Thread). length t.cursors) o 0) found.2 in
    let whole : Calls script thread = record { calls = rw (calls, cursors) is.calls; nested = rw calls is.nested } in whole)
    (λ (past : (length script.threads ≤ thread) × (slice_get script.threads thread ≡ None)). absurd (omega (arith, past.0, within)))
    (slice_get_cases script.threads thread).1

-- ---- steps

abbrev pub steps_of : ThreadState → ℕ
steps_of state = so_far state + length state.marks

answer_steps : (fixed : Bool) (found : Option ℕ) (holders : List (Option ℕ)) (state : ThreadState) (called : Call) (locking : Locking) → state.fixed ≡ fixed → steps_of (if fixed then not_tried holders state else answer_tried state called (record locking { found = found })).state ≡ steps_of state + (if (if fixed then not_tried holders state else answer_tried state called (record locking { found = found })).done then 1 else 0)
answer_steps true found holders state called locking is = omega arith
answer_steps false None holders state called locking is = rw is (omega arith)
answer_steps false (Some other) holders state called locking is = omega arith

finish_steps : (fixed : Bool) (found : Option ℕ) (tried : TryOutcome) (locking : Locking) → tried.state.fixed ≡ fixed → steps_of (if fixed then finish_tried tried.state (record locking { found = found }) else not_tried tried.holders tried.state).state ≡ steps_of tried.state + (if (if fixed then finish_tried tried.state (record locking { found = found }) else not_tried tried.holders tried.state).done then 1 else 0)
finish_steps false found tried locking is = omega arith
finish_steps true None tried locking is = rw is (omega (arith, length-append tried.state.marks (tried.state.mark ∷ [])))
finish_steps true (Some other) tried locking is = omega arith

-- both parts of a turn bring forward what they do
turn_steps : (thread : ℕ) (before : List Call) (called : Call) (holders : List (Option ℕ)) (state : ThreadState) → steps_of (finish_part thread (answer_part thread before called holders state)).state ≡ steps_of state + (if (answer_part thread before called holders state).done then 1 else 0) + (if (finish_part thread (answer_part thread before called holders state)).done then 1 else 0)
turn_steps thread before called holders state =
    let taking = take_locks thread holders (lower_first (locks_taken before called)) in
    let first = answer_part thread before called holders state in
    let again = take_locks thread first.holders (lower_first (innermost_containers first.state.sections)) in
    let one : steps_of first.state ≡ steps_of state + (if first.done then 1 else 0) = answer_steps state.fixed taking.found holders state called taking refl in
    let two : steps_of (finish_part thread first).state ≡ steps_of first.state + (if (finish_part thread first).done then 1 else 0) = finish_steps first.state.fixed again.found first again refl in
    two ∙ ap (λ k. k + (if (finish_part thread first).done then 1 else 0)) one

not_one : (b : Bool) (n : ℕ) → n + (if b then 1 else 0) ≤ n → b ≡ false
not_one true n le = absurd (omega (arith, le))
not_one false n le = refl

-- ---- a turn

-- a thread that has no call left, or awaits one that has not finished, has no lock
pub record Rests (script : ScriptParts) (machine : Machine) (thread : ℕ) : Type 0 where
  pub idle : ready_call script machine thread ≡ None
  pub own : (thread_at machine thread).own ≡ []
  pub settled : section_locks (thread_at machine thread).sections ≡ []

-- what a turn of a thread comes to
pub record Turned (script : ScriptParts) (before after : Machine) (thread : ℕ) : Type 0 where
  pub sound : IsSoundMachine script after
  pub others : (other : ℕ) → other ≢ thread → thread_at after other ≡ thread_at before other
  pub steps : steps_made before ≤ steps_made after
  -- nothing is brought forward only where the thread rests, or waits
  pub quiet : steps_made after ≤ steps_made before → (Rests script before thread × (after ≡ before)) ⊎ (Waits before.holders after.holders (thread_at before thread) (thread_at after thread) × (length (thread_at after thread).marks ≡ length (thread_at before thread).marks))

ended : (script : ScriptParts) (machine : Machine) (thread : ℕ) → IsSound script thread machine.holders (thread_at machine thread) → next_call script thread (thread_at machine thread) ≡ None → Rests script machine thread
ended script machine thread sound next =
    let state = thread_at machine thread in
    let calls = calls_of script thread in
    let n = length state.marks in
    let past : length calls ≤ n =
    ⊎_elim
    (λ (found : (called : Call) × (n < length calls) × (slice_get calls n ≡ Some called) × (get_or calls n called ≡ called)). absurd (let e = sym next ∙ found.2 in cc))
    (λ (ended : (length calls ≤ n) × (slice_get calls n ≡ None)). ended.0)
    (slice_get_cases calls n).1 in
    let unfixed : state.fixed ≡ false = not_one state.fixed n (omega (arith, past, sound.made)) in
    let none_left : drop (so_far state) calls ≡ [] = drop_all (so_far state) calls (omega (arith, past)) in
    let nested : AreNested (length state.sections) [] = rw none_left at sound.nested in
    let closed : state.sections ≡ [] = nil_from_length state.sections nested in
    let wants : wanted script thread state ≡ [] =
    ap (λ b. if b then lower_first (innermost_containers state.sections) else option_map_or (λ called. lower_first (locks_taken (take (length state.marks) (calls_of script thread)) called)) (next_call script thread state) []) unfixed
    ∙ ap (λ o. option_map_or (λ called. lower_first (locks_taken (take (length state.marks) (calls_of script thread)) called)) o []) next in
    record {
      idle = ready_none script machine thread next;
      own = own_none state.own (section_locks state.sections) (wanted script thread state) wants sound.own_is;
      settled = ap section_locks closed;
    }

-- what a thread awaits
pub record Awaits (script : ScriptParts) (machine : Machine) (thread : ℕ) : Type 0 where
  pub unfixed : (thread_at machine thread).fixed ≡ false
  pub one : Awaited
  pub is : awaited script thread (length (thread_at machine thread).marks) ≡ Some one
  pub unfinished : length (thread_at machine one.thread).marks < one.index

pub awaits_one : (script : ScriptParts) (machine : Machine) (thread : ℕ) → is_awaiting script machine thread ≡ true → Awaits script machine thread
awaits_one script machine thread waits =
    let state = thread_at machine thread in
    elim state.fixed as (λ b. state.fixed ≡ b → (if b then false else option_map_or (is_unfinished machine) (awaited script thread (length state.marks)) false) ≡ true → Awaits script machine thread) [
      | true ↦ λ fixed e. absurd (cc)
      | false ↦ λ unfixed e.
          elim (awaited script thread (length state.marks)) as (λ o. awaited script thread (length state.marks) ≡ o → option_map_or (is_unfinished machine) o false ≡ true → Awaits script machine thread) [
            | None ↦ λ none e. absurd (cc)
            | Some one ↦ λ is e. record { unfixed = unfixed; one = one; is = is; unfinished = ltb-true (length (thread_at machine one.thread).marks) one.index e }
          ] refl e
    ] refl waits

awaiting : (script : ScriptParts) → IsScript script → (machine : Machine) (thread : ℕ) → IsSound script thread machine.holders (thread_at machine thread) → Awaits script machine thread → ready_call script machine thread ≡ None → Rests script machine thread
awaiting script rule machine thread sound waits idle =
    let state = thread_at machine thread in
    let its = await_is script rule thread (length state.marks) waits.one waits.is in
    let far : so_far state ≡ length state.marks = ap (λ b. length state.marks + (if b then 1 else 0)) waits.unfixed ∙ add-zero (length state.marks) in
    let nested : AreNested (length state.sections) (drop (length state.marks) (calls_of script thread)) = rw far at sound.nested in
    let closed : state.sections ≡ [] = nil_from_length state.sections (its.outside (length state.sections) nested) in
    let wants : wanted script thread state ≡ [] =
    ap (λ b. if b then lower_first (innermost_containers state.sections) else option_map_or (λ called. lower_first (locks_taken (take (length state.marks) (calls_of script thread)) called)) (next_call script thread state) []) waits.unfixed
    ∙ ap (λ o. option_map_or (λ called. lower_first (locks_taken (take (length state.marks) (calls_of script thread)) called)) o []) its.at in
    record {
      idle = idle;
      own = own_none state.own (section_locks state.sections) (wanted script thread state) wants sound.own_is;
      settled = ap section_locks closed;
    }

-- a thread that is idle awaits, or has no call left
pub idle_cases : (script : ScriptParts) (machine : Machine) (thread : ℕ) → ready_call script machine thread ≡ None → Awaits script machine thread ⊎ (next_call script thread (thread_at machine thread) ≡ None)
idle_cases script machine thread idle =
    elim (is_awaiting script machine thread) as (λ b. is_awaiting script machine thread ≡ b → (if b then None else next_call script thread (thread_at machine thread)) ≡ None → Awaits script machine thread ⊎ (next_call script thread (thread_at machine thread) ≡ None)) [
      | true ↦ λ waits e. inl (awaits_one script machine thread waits)
      | false ↦ λ not e. inr e
    ] refl idle

rests : (script : ScriptParts) → IsScript script → (machine : Machine) (thread : ℕ) → IsSound script thread machine.holders (thread_at machine thread) → ready_call script machine thread ≡ None → Rests script machine thread
rests script rule machine thread sound idle =
    ⊎_elim
    (λ (waits : Awaits script machine thread). awaiting script rule machine thread sound waits idle)
    (λ (none : next_call script thread (thread_at machine thread) ≡ None). ended script machine thread sound none)
    (idle_cases script machine thread idle)

turned_idle : (script : ScriptParts) → IsScript script → (machine : Machine) (thread : ℕ) → thread < length script.threads → IsSoundMachine script machine → ready_call script machine thread ≡ None → Turned script machine (turn script machine thread) thread
turned_idle script rule machine thread within sound idle =
    let same = idle_turn script machine thread idle in
    let still : Turned script machine machine thread = record {
      sound = sound;
      others = λ other differ. refl;
      steps = omega arith;
      quiet = λ le. inl (rests script rule machine thread (sound.each thread within) idle, refl);
    } in
    rw same still

turned_placed : (script : ScriptParts) (machine : Machine) (thread : ℕ) (answered : Bool) (tried : TryOutcome) (more : List (ℕ × ℕ))
    → thread < length script.threads
    → IsSoundMachine script machine
    → IsTurned script thread machine.holders (thread_at machine thread) answered tried
    → steps_of tried.state ≡ steps_of (thread_at machine thread) + (if answered then 1 else 0) + (if tried.done then 1 else 0)
    → length tried.state.marks ≡ length (thread_at machine thread).marks + (if tried.done then 1 else 0)
    → Turned script machine (placed machine thread tried more) thread
turned_placed script machine thread answered tried more within sound turned steps marks =
    let after = placed machine thread tried more in
    let in_machine : thread < length machine.threads = rw sound.count within in
    let reads : thread_at after thread ≡ tried.state = get_or-set_same machine.threads thread tried.state fresh_thread in_machine in
    let f : ThreadState → ℕ = λ state. so_far state + length state.marks in
    let sums = sum_by-set f machine.threads thread tried.state fresh_thread in_machine in
    let here : f tried.state ≡ f (thread_at machine thread) + (if answered then 1 else 0) + (if tried.done then 1 else 0) = steps in
    record {
      sound = record {
        count = length-set machine.threads thread tried.state ∙ sound.count;
        each = λ other in_script.
            ⊎_elim
            (λ (e : other ≡ thread). rw (e, reads) turned.sound)
            (λ (n : other ≢ thread).
            let same : thread_at after other ≡ thread_at machine other = get_or-set_other machine.threads thread other tried.state fresh_thread n in
            let was = sound.each other in_script in
            let now : IsSound script other tried.holders (thread_at machine other) = record {
              size = turned.apart.size ∙ was.size;
              held = λ container. was.held container ∙ sym (turned.apart.others container other (λ e. n (sym e)));
              own_is = was.own_is;
              sections_are = was.sections_are;
              nested = was.nested;
              made = was.made;
            } in
            rw same now)
            (cases_eq other thread);
        no_other = λ other container past. turned.apart.others container other (λ e. absurd (let o : thread ≡ other = e in omega (arith, o, past, within))) ∙ sound.no_other other container past;
      };
      others = λ other n. get_or-set_other machine.threads thread other tried.state fresh_thread n;
      steps = omega (arith, sums, here);
      quiet = λ le.
          let none : answered ≡ false = not_one answered (f (thread_at machine thread)) (omega (arith, sums, here, le)) in
          let undone : tried.done ≡ false = not_one tried.done (f (thread_at machine thread)) (omega (arith, sums, here, le)) in
          let waits : Waits machine.holders tried.holders (thread_at machine thread) tried.state = turned.quiet none undone in
          let same : length tried.state.marks ≡ length (thread_at machine thread).marks = marks ∙ (ap (λ b. length (thread_at machine thread).marks + (if b then 1 else 0)) undone ∙ add-zero (length (thread_at machine thread).marks)) in
          inr (rw reads waits, ap (λ (state : ThreadState). length state.marks) reads ∙ same);
    }

turned_ready : (script : ScriptParts) → IsScript script → (machine : Machine) (thread : ℕ) → thread < length script.threads → IsSoundMachine script machine → (ready : Call) → ready_call script machine thread ≡ Some ready → Turned script machine (turn script machine thread) thread
turned_ready script rule machine thread within sound ready is_ready =
    let state = thread_at machine thread in
    let calls = calls_of script thread in
    let n = length state.marks in
    let next = ready_next script machine thread ready is_ready in
    ⊎_elim
    (λ (found : (called : Call) × (n < length calls) × (slice_get calls n ≡ Some called) × (get_or calls n called ≡ called)).
    let called = found.0 in
    let kept = thread_calls script rule thread within in
    let this : IsCallOf script (cursors_of script thread) called = subst (IsCallOf script (cursors_of script thread)) found.3 (kept.calls n called found.1) in
    let two = named_are_two script.containers (cursors_of script thread) called this.names in
    let taken_two = taken_are_two script (cursors_of script thread) (take n calls) called (All-take (IsCallOf script (cursors_of script thread)) n calls kept.calls) this in
    let first = answer_part thread (take n calls) called machine.holders state in
    let second = finish_part thread first in
    let marks : length second.state.marks ≡ n + (if second.done then 1 else 0) = finish_adds_mark thread first ∙ ap (λ ms. length ms + (if second.done then 1 else 0)) (answer_keeps_marks thread (take n calls) called machine.holders state) in
    let is = turn_is script machine thread called (rw sound.count within) (is_ready ∙ (sym next ∙ found.2)) in
    let done = turned_placed script machine thread first.done second (newly_answered thread n first.done) within sound (turned_sound script thread machine.holders state called found.2 two taken_two (sound.each thread within)) (turn_steps thread (take n calls) called machine.holders state) marks in
    rw is done)
    (λ (past : (length calls ≤ n) × (slice_get calls n ≡ None)). absurd (let e = sym past.1 ∙ next in cc))
    (slice_get_cases calls n).1

pub turned : (script : ScriptParts) → IsScript script → (machine : Machine) (thread : ℕ) → thread < length script.threads → IsSoundMachine script machine → Turned script machine (turn script machine thread) thread
turned script rule machine thread within sound =
    elim (ready_call script machine thread) as (λ o. ready_call script machine thread ≡ o → Turned script machine (turn script machine thread) thread) [
      | None ↦ λ none. turned_idle script rule machine thread within sound none
      | Some ready ↦ λ is. turned_ready script rule machine thread within sound ready is
    ] refl

-- ---- the start

none_has : {X : Type 0} (xs : List X) (container thread : ℕ) → by (holder_of (map (λ x. let none : Option ℕ = None in none) xs) container) thread ≡ 0
none_has [] container thread = refl
none_has (x ∷ xs) zero thread = refl
none_has (x ∷ xs) (suc container) thread = none_has xs container thread

pub fresh_at : (threads : List Thread) (k : ℕ) → get_or (map (λ (thread : Thread). fresh_thread) threads) k fresh_thread ≡ fresh_thread
fresh_at [] k = refl
fresh_at (thread ∷ threads) zero = refl
fresh_at (thread ∷ threads) (suc k) = fresh_at threads k

pub start_sound : (script : ScriptParts) → IsScript script → IsSoundMachine script (start_machine script)
start_sound script rule =
    let machine = start_machine script in
    record {
      count = length-map script.threads (λ (thread : Thread). fresh_thread);
      each = λ thread within.
          let kept = thread_calls script rule thread within in
          let fresh : IsSound script thread machine.holders fresh_thread = record {
            size = length-map script.containers _;
            held = λ container. sym (none_has script.containers container thread);
            own_is = inl refl;
            sections_are = tt;
            nested = kept.nested;
            made = omega arith;
          } in
          rw (fresh_at script.threads thread) fresh;
      no_other = λ thread container past. none_has script.containers container thread;
    }
