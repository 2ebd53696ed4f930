-- The answer of each call is fixed once, each thread's in the order of its calls.
use Rattle.std.proofs.Common.{◌≡◌, ◌≢◌, ℕ, ◌+◌, ◌<◌, ◌≤◌, Bool, true, false, cond, List, [], ◌∷◌, ◌++◌, length, get_or, set, take, map, Option, None, Some, refl, sym, ap, ◌∙◌, arith, add-zero, ⊎_elim}
use Rattle.std.specs.Prelude.{if◌then◌else◌, ◌==◌, slice_get}
use Rattle.std.specs.List.{fold, filter, range_with_len}
use Rattle.std.proofs.lemmas.Bool.{cases_eq}
use Rattle.std.proofs.lemmas.Bool.Decides.{nat_tests}
use Rattle.std.proofs.lemmas.List.{get_or-set_same, get_or-set_other, length-set, length-map, length-append, map-append, append-nil}
use Rattle.std.proofs.lemmas.List.Elements.{filter-append}
use Rattle.std.proofs.lemmas.Option.{slice_get_cases}
use Rattle.ft_model.specs.declared.call.Call.{Call}
use Rattle.ft_model.specs.declared.script.Thread.{Thread}
use Rattle.ft_model.specs.declared.script.ScriptParts.{ScriptParts}
use Rattle.ft_model.specs.Histories.{calls_of}
use Rattle.ft_history.proofs.Unbroken.{range_push}
use Rattle.ft_turns.specs.Orders.{ThreadState, Machine, Locking, fresh_thread, start_machine, lower_first, locks_taken, take_locks, thread_at, innermost_containers, turn, ready_call}
use Rattle.ft_turns.specs.Internal.TurnParts.{TryOutcome, not_tried, answer_tried, finish_tried, answer_part, finish_part, newly_answered, placed}
use Rattle.ft_turns.specs.Wants.{so_far}
use Rattle.ft_turns.specs.Ends.{AreTurns, places_of}
use Rattle.ft_turns.proofs.TurnParts.{turn_is, idle_turn, ready_next}
use Rattle.ft_turns.proofs.MachineSoundness.{fresh_at}

-- the places of each thread's answered calls, in the order of their answers
pub record ArePlaced (script : ScriptParts) (machine : Machine) : Type 0 where
  pub count : length machine.threads ≡ length script.threads
  pub places : (thread : ℕ) → thread < length script.threads → places_of thread machine.answered ≡ range_with_len 0 (so_far (thread_at machine thread))

-- ---- what a turn counts

answer_counts : (fixed : Bool) (found : Option ℕ) (holders : List (Option ℕ)) (state : ThreadState) (called : Call) (locking : Locking) → state.fixed ≡ fixed → so_far (if fixed then not_tried holders state else answer_tried state called (record locking { found = found })).state ≡ so_far state + (if (if fixed then not_tried holders state else answer_tried state called (record locking { found = found })).done then 1 else 0)
answer_counts true found holders state called locking is = omega arith
answer_counts false None holders state called locking is = rw is (omega arith)
answer_counts false (Some other) holders state called locking is = omega arith

answer_new : (fixed : Bool) (found : Option ℕ) (holders : List (Option ℕ)) (state : ThreadState) (called : Call) (locking : Locking) → state.fixed ≡ fixed → (if fixed then not_tried holders state else answer_tried state called (record locking { found = found })).done ≡ true → so_far state ≡ length state.marks
answer_new true found holders state called locking is done = absurd (let e : false ≡ true = done in cc)
answer_new false None holders state called locking is done = rw is (add-zero (length state.marks))
answer_new false (Some other) holders state called locking is done = absurd (let e : false ≡ true = done in cc)

finish_counts : (fixed : Bool) (found : Option ℕ) (tried : TryOutcome) (locking : Locking) → tried.state.fixed ≡ fixed → so_far (if fixed then finish_tried tried.state (record locking { found = found }) else not_tried tried.holders tried.state).state ≡ so_far tried.state
finish_counts false found tried locking is = refl
finish_counts true None tried locking is = rw is (omega (arith, length-append tried.state.marks (tried.state.mark ∷ [])))
finish_counts true (Some other) tried locking is = refl

-- ---- places

places-append : (thread : ℕ) (xs ys : List (ℕ × ℕ)) → places_of thread (xs ++ ys) ≡ places_of thread xs ++ places_of thread ys
places-append thread xs ys =
    let test : ℕ × ℕ → Bool = λ one. one.0 == thread in
    let place : ℕ × ℕ → ℕ = λ one. one.1 in
    ap (map place) (filter-append test xs ys) ∙ map-append place (filter test xs) (filter test ys)

its_place : (b : Bool) (thread place : ℕ) → (thread == thread) ≡ b → map (λ (one : ℕ × ℕ). one.1) (cond b ((thread, place) ∷ []) []) ≡ place ∷ []
its_place true thread place is = refl
its_place false thread place is = absurd (let e : true ≡ false = (let t : (thread == thread) ≡ true = grind (arith, nat_tests) in sym t ∙ is) in cc)

no_place : (b : Bool) (thread other place : ℕ) → thread ≢ other → (thread == other) ≡ b → map (λ (one : ℕ × ℕ). one.1) (cond b ((thread, place) ∷ []) []) ≡ []
no_place true thread other place differ is = absurd (differ (grind (arith, nat_tests, is)))
no_place false thread other place differ is = refl

new_other : (done : Bool) (thread other place : ℕ) → thread ≢ other → places_of other (newly_answered thread place done) ≡ []
new_other true thread other place differ = no_place (thread == other) thread other place differ refl
new_other false thread other place differ = refl

new_places : (done : Bool) (thread place before after : ℕ) (answered : List (ℕ × ℕ)) → (done ≡ true → before ≡ place) → after ≡ before + (if done then 1 else 0) → places_of thread answered ≡ range_with_len 0 before → places_of thread answered ++ places_of thread (newly_answered thread place done) ≡ range_with_len 0 after
new_places true thread place before after answered at is was =
    let here : before ≡ place = at refl in
    let one : places_of thread (newly_answered thread place true) ≡ before ∷ [] = its_place (thread == thread) thread place refl ∙ ap (λ k. k ∷ []) (sym here) in
    let push : range_with_len 0 (before + 1) ≡ range_with_len 0 before ++ before ∷ [] = range_push 0 before ∙ ap (λ k. range_with_len 0 before ++ k ∷ []) (omega arith) in
    rw (one, was, is) (sym push)
new_places false thread place before after answered at is was =
    let same : after ≡ before = omega (arith, is) in
    rw same (append-nil (places_of thread answered) ∙ was)

-- ---- a turn

placed_ready : (script : ScriptParts) (machine : Machine) (thread : ℕ) → thread < length script.threads → ArePlaced script machine → (ready : Call) → ready_call script machine thread ≡ Some ready → ArePlaced script (turn script machine thread)
placed_ready script machine thread within are ready is_ready =
    let state = thread_at machine thread in
    let calls = calls_of script thread in
    let n = length state.marks in
    let next = ready_next script machine thread ready is_ready in
    ⊎_elim
    (λ (found : (called : Call) × (n < length calls) × (slice_get calls n ≡ Some called) × (get_or calls n called ≡ called)).
    let called = found.0 in
    let taking = take_locks thread machine.holders (lower_first (locks_taken (take n calls) called)) in
    let first = answer_part thread (take n calls) called machine.holders state in
    let again = take_locks thread first.holders (lower_first (innermost_containers first.state.sections)) in
    let second = finish_part thread first in
    let counts : so_far second.state ≡ so_far state + (if first.done then 1 else 0) = finish_counts first.state.fixed again.found first again refl ∙ answer_counts state.fixed taking.found machine.holders state called taking refl in
    let new : first.done ≡ true → so_far state ≡ n = answer_new state.fixed taking.found machine.holders state called taking refl in
    let in_machine : thread < length machine.threads = rw are.count within in
    let reads : get_or (set machine.threads thread second.state) thread fresh_thread ≡ second.state = get_or-set_same machine.threads thread second.state fresh_thread in_machine in
    let after : ArePlaced script (placed machine thread second (newly_answered thread n first.done)) = record {
      count = length-set machine.threads thread second.state ∙ are.count;
      places = λ other in_script.
          places-append other machine.answered (newly_answered thread n first.done) ∙
          ⊎_elim
          (λ (e : other ≡ thread). rw (e, reads) (new_places first.done thread n (so_far state) (so_far second.state) machine.answered new counts (are.places thread within)))
          (λ (d : other ≢ thread).
          let same : get_or (set machine.threads thread second.state) other fresh_thread ≡ thread_at machine other = get_or-set_other machine.threads thread other second.state fresh_thread d in
          rw (new_other first.done thread other n (λ e. d (sym e)), append-nil (places_of other machine.answered), same) (are.places other in_script))
          (cases_eq other thread);
    } in
    rw (turn_is script machine thread called in_machine (is_ready ∙ (sym next ∙ found.2))) after)
    (λ (past : (length calls ≤ n) × (slice_get calls n ≡ None)). absurd (let e = sym past.1 ∙ next in cc))
    (slice_get_cases calls n).1

pub placed_turn : (script : ScriptParts) (machine : Machine) (thread : ℕ) → thread < length script.threads → ArePlaced script machine → ArePlaced script (turn script machine thread)
placed_turn script machine thread within are =
    elim (ready_call script machine thread) as (λ o. ready_call script machine thread ≡ o → ArePlaced script (turn script machine thread)) [
      | None ↦ λ none. rw (idle_turn script machine thread none) are
      | Some ready ↦ λ is. placed_ready script machine thread within are ready is
    ] refl

pub placed_run : (script : ScriptParts) (turns : List ℕ) (machine : Machine) → AreTurns script turns → ArePlaced script machine → ArePlaced script (fold (turn script) machine turns)
placed_run script [] machine below are = are
placed_run script (thread ∷ turns) machine below are = placed_run script turns (turn script machine thread) below.1 (placed_turn script machine thread below.0 are)

pub placed_start : (script : ScriptParts) → ArePlaced script (start_machine script)
placed_start script = record {
  count = length-map script.threads (λ (thread : Thread). fresh_thread);
  places = λ thread within. rw (fresh_at script.threads thread) refl;
}
