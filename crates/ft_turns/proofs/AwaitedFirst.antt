-- In the order of the turns each call that is awaited stands before the call that awaits it.
use Rattle.std.proofs.Common.{◌≡◌, ℕ, zero, suc, ◌+◌, ◌-◌, ◌<◌, ◌≤◌, Bool, true, false, List, [], ◌∷◌, ◌++◌, length, map, take, Option, None, Some, refl, sym, ap, ◌∙◌, subst, arith, cond, append_assoc, ◌==◌}
use Rattle.std.specs.Prelude.{if◌then◌else◌, filter, fold, slice_get}
use Rattle.std.specs.Option.{option_map, option_map_or}
use Rattle.std.proofs.lemmas.Bool.{eq-eqb, ltb-false}
use Rattle.std.proofs.lemmas.List.{append-nil, length-map, take-map}
use Rattle.std.proofs.lemmas.Option.{none-some, same_Some, slice_get-map}
use Rattle.std.proofs.lemmas.Simd.{map-map}
use Rattle.std.proofs.lemmas.List.FromFn.{length-range_with_len}
use Rattle.ft_model.specs.declared.call.Call.{Call}
use Rattle.ft_model.specs.declared.call.Call.TheVariants as call
use Rattle.ft_model.specs.declared.entry.Entry.{Entry}
use Rattle.ft_model.specs.declared.script.ScriptParts.{ScriptParts}
use Rattle.ft_model.specs.Histories.{calls_of, entries_of, EachAt, IsAwaited, IsAwaitedIn, IsWhole}
use Rattle.ft_model.specs.Scripts.{IsScript}
use Rattle.ft_history.proofs.FilteredParts.{passed_at}
use Rattle.ft_history.proofs.StampedLists.{index_is as index_of}
use Rattle.ft_turns.specs.Orders.{ThreadState, Machine, Locking, start_machine, take_locks, lower_first, locks_taken, thread_at, next_call, is_unfinished, is_awaiting, ready_call, turn, turns_of, last_machine, Ordered, ordered_entry, ordered_in, order_of, Awaited, awaited_by, awaited}
use Rattle.ft_turns.specs.Internal.TurnParts.{not_tried, answer_tried, answer_part, newly_answered}
use Rattle.ft_turns.specs.Wants.{so_far}
use Rattle.ft_turns.specs.Ends.{AreTurns, places_of}
use Rattle.ft_turns.specs.AwaitedFirst.{AwaitsDone, AreAwaitsDone, AwaitedCallsComeFirst}
use Rattle.ft_turns.proofs.Awaits.{await_is}
use Rattle.ft_turns.proofs.TurnParts.{turn_is, idle_turn}
use Rattle.ft_turns.proofs.AnsweredPlaces.{ArePlaced, placed_turn, placed_start}
use Rattle.ft_turns.proofs.AllCallsFinish.{turns_below}

push : (script : ScriptParts) (seen answered : List (ℕ × ℕ)) (called : ℕ × ℕ) → AreAwaitsDone script seen answered → AwaitsDone script (seen ++ answered) called → AreAwaitsDone script seen (answered ++ called ∷ [])
push script seen [] called are done = (subst (λ (l : List (ℕ × ℕ)). AwaitsDone script l called) (append-nil seen) done, tt)
push script seen (first ∷ answered) called are done = (are.0, push script (seen ++ first ∷ []) answered called are.1 (subst (λ (l : List (ℕ × ℕ)). AwaitsDone script l called) (sym (append_assoc seen (first ∷ []) answered)) done))

-- a call whose answer is fixed in a turn had none before
not_fixed : (fixed : Bool) (holders : List (Option ℕ)) (state : ThreadState) (called : Call) (locking : Locking) → (if fixed then not_tried holders state else answer_tried state called locking).done ≡ true → fixed ≡ false
not_fixed true holders state called locking done = absurd (let e : false ≡ true = done in cc)
not_fixed false holders state called locking done = refl

-- and awaited nothing that had not finished
not_waiting : (script : ScriptParts) (machine : Machine) (thread : ℕ) (ready : Call) → ready_call script machine thread ≡ Some ready → (thread_at machine thread).fixed ≡ false → (one : Awaited) → awaited script thread (length (thread_at machine thread).marks) ≡ Some one → one.index ≤ length (thread_at machine one.thread).marks
not_waiting script machine thread ready is unfixed one it =
    let none : is_awaiting script machine thread ≡ false =
    elim (is_awaiting script machine thread) as (λ b. (if b then None else next_call script thread (thread_at machine thread)) ≡ Some ready → b ≡ false) [
      | true ↦ λ e. absurd (cc)
      | false ↦ λ e. refl
    ] is in
    let open_ : is_awaiting script machine thread ≡ is_unfinished machine one =
    ap (λ (b : Bool). if b then false else option_map_or (is_unfinished machine) (awaited script thread (length (thread_at machine thread).marks)) false) unfixed
    ∙ ap (λ (o : Option Awaited). option_map_or (is_unfinished machine) o false) it in
    ltb-false (length (thread_at machine one.thread).marks) one.index (sym open_ ∙ none)

newly : (script : ScriptParts) (answered : List (ℕ × ℕ)) (thread place : ℕ) (done : Bool) → AreAwaitsDone script [] answered → (done ≡ true → AwaitsDone script answered (thread, place)) → AreAwaitsDone script [] (answered ++ newly_answered thread place done)
newly script answered thread place true are awaits = push script [] answered (thread, place) are (awaits refl)
newly script answered thread place false are awaits = subst (AreAwaitsDone script []) (sym (append-nil answered)) are

ready_turn : (script : ScriptParts) → IsScript script → (machine : Machine) (thread : ℕ) → thread < length script.threads → ArePlaced script machine → AreAwaitsDone script [] machine.answered → (ready : Call) → ready_call script machine thread ≡ Some ready → AreAwaitsDone script [] (turn script machine thread).answered
ready_turn script rule machine thread within places are ready is =
    let state = thread_at machine thread in
    let n = length state.marks in
    let locking = take_locks thread machine.holders (lower_first (locks_taken (take n (calls_of script thread)) ready)) in
    let first = answer_part thread (take n (calls_of script thread)) ready machine.holders state in
    let in_machine : thread < length machine.threads = let c = places.count in omega (arith, c, within) in
    let done : AreAwaitsDone script [] (machine.answered ++ newly_answered thread n first.done) =
    newly script machine.answered thread n first.done are
    (λ fixes one it.
    let unfixed = not_fixed state.fixed machine.holders state ready locking fixes in
    let finished = not_waiting script machine thread ready is unfixed one it in
    let its = await_is script rule thread n one it in
    let earlier = its.earlier in
    let all = ap (λ (l : List ℕ). length l) (places.places one.thread (omega (arith, earlier, within))) ∙ length-range_with_len 0 (so_far (thread_at machine one.thread)) in
    omega (arith, all, finished)) in
    subst (λ (m : Machine). AreAwaitsDone script [] m.answered) (sym (turn_is script machine thread ready in_machine is)) done

one_turn : (script : ScriptParts) → IsScript script → (machine : Machine) (thread : ℕ) → thread < length script.threads → ArePlaced script machine → AreAwaitsDone script [] machine.answered → AreAwaitsDone script [] (turn script machine thread).answered
one_turn script rule machine thread within places are =
    elim (ready_call script machine thread) as (λ o. ready_call script machine thread ≡ o → AreAwaitsDone script [] (turn script machine thread).answered) [
      | None ↦ λ none. subst (λ (m : Machine). AreAwaitsDone script [] m.answered) (sym (idle_turn script machine thread none)) are
      | Some ready ↦ λ is. ready_turn script rule machine thread within places are ready is
    ] refl

all_turns : (script : ScriptParts) → IsScript script → (turns : List ℕ) (machine : Machine) → AreTurns script turns → ArePlaced script machine → AreAwaitsDone script [] machine.answered → AreAwaitsDone script [] (fold (turn script) machine turns).answered
all_turns script rule [] machine below places are = are
all_turns script rule (thread ∷ turns) machine below places are =
    all_turns script rule turns (turn script machine thread) below.1 (placed_turn script machine thread below.0 places) (one_turn script rule machine thread below.0 places are)

pub awaited_calls_come_first : AwaitedCallsComeFirst
awaited_calls_come_first script rule = all_turns script rule (turns_of script) (start_machine script) (turns_below script rule) (placed_start script) tt

-- ---- entries in that order

-- what holds of each call after those before it
done_at : (script : ScriptParts) (answered seen : List (ℕ × ℕ)) → AreAwaitsDone script seen answered → (place : ℕ) (called : ℕ × ℕ) → slice_get answered place ≡ Some called → AwaitsDone script (seen ++ take place answered) called
done_at script [] seen are place called at = absurd (let none : None ≡ Some called = at in cc)
done_at script (first ∷ answered) seen are zero called at = subst (λ (l : List (ℕ × ℕ)). AwaitsDone script l called) (sym (append-nil seen)) (subst (AwaitsDone script seen) (same_Some first called at) are.0)
done_at script (first ∷ answered) seen are (suc place) called at =
    subst (λ (l : List (ℕ × ℕ)). AwaitsDone script l called) (append_assoc seen (first ∷ []) (take place answered)) (done_at script answered (seen ++ first ∷ []) are.1 place called at)

-- as many calls are those of a thread as entries, where these are of the same threads
count_mine : (thread : ℕ) (entries : List Entry) (answered : List (ℕ × ℕ)) → map (λ (e : Entry). e.thread) entries ≡ map (λ (a : ℕ × ℕ). a.0) answered → length (entries_of thread entries) ≡ length (places_of thread answered)
count_mine thread entries answered same =
    by_threads (λ (e : Entry). e.thread) entries ∙ ap (λ (ts : List ℕ). length (filter (λ t. t == thread) ts)) same
    ∙ sym (length-map (filter (λ (a : ℕ × ℕ). a.0 == thread) answered) (λ (a : ℕ × ℕ). a.1) ∙ by_threads (λ (a : ℕ × ℕ). a.0) answered)
  where
    by_threads : {X : Type 0} (of : X → ℕ) (xs : List X) → length (filter (λ x. of x == thread) xs) ≡ length (filter (λ t. t == thread) (map of xs))
    by_threads of [] = refl
    by_threads {X} of (x ∷ xs) =
        elim (of x == thread) as (λ b. length (cond b (x ∷ filter (λ y. of y == thread) xs) (filter (λ y. of y == thread) xs)) ≡ length (cond b (of x ∷ filter (λ t. t == thread) (map of xs)) (filter (λ t. t == thread) (map of xs)))) [
          | true ↦ ap suc (by_threads of xs)
          | false ↦ by_threads of xs
        ]

-- an element of a mapped list is that of an element
pub map_at : {X Y : Type 0} (f : X → Y) (xs : List X) (place : ℕ) (y : Y) → slice_get (map f xs) place ≡ Some y → (x : X) × (slice_get xs place ≡ Some x) × (y ≡ f x)
map_at f [] place y at = absurd (none-some y at)
map_at f (x ∷ xs) zero y at = (x, refl, sym (same_Some (f x) y at))
map_at f (x ∷ xs) (suc place) y at = map_at f xs place y at

module _ (script : ScriptParts) (rule : IsScript script) (entries : List Entry) (whole : IsWhole script entries) (ordered : map ordered_entry entries ≡ order_of script) where
  same_threads : map (λ (e : Entry). e.thread) entries ≡ map (λ (a : ℕ × ℕ). a.0) (last_machine script).answered
  same_threads =
      sym (map-map (λ (o : Ordered). o.thread) ordered_entry entries) ∙ ap (map (λ (o : Ordered). o.thread)) ordered
      ∙ map-map (λ (o : Ordered). o.thread) (ordered_in (last_machine script)) (last_machine script).answered

  module _ (place : ℕ) (entry : Entry) (at : slice_get entries place ≡ Some entry) where
    index_is : length (entries_of entry.thread (take place entries)) + 1 ≡ entry.index
    index_is = index_of script entries whole place entry at

    call_is : slice_get (calls_of script entry.thread) (entry.index - 1) ≡ Some entry.call
    call_is =
        let mine = λ (e : Entry). e.thread == entry.thread in
        let there : slice_get (entries_of entry.thread entries) (length (entries_of entry.thread (take place entries))) ≡ Some entry = passed_at mine entries place entry at (eq-eqb entry.thread entry.thread refl) in
        ap (slice_get (calls_of script entry.thread)) (omega (arith, index_is))
        ∙ (ap (λ (cs : List Call). slice_get cs (length (entries_of entry.thread (take place entries)))) (sym (whole.calls entry.thread))
        ∙ (slice_get-map (λ (e : Entry). e.call) (entries_of entry.thread entries) (length (entries_of entry.thread (take place entries))) ∙ ap (option_map (λ (e : Entry). e.call)) there))

    answer_is : slice_get (last_machine script).answered place ≡ Some (entry.thread, entry.index - 1)
    answer_is =
        let found = map_at (ordered_in (last_machine script)) (last_machine script).answered place (ordered_entry entry) (ap (λ (os : List Ordered). slice_get os place) (sym ordered) ∙ (slice_get-map ordered_entry entries place ∙ ap (option_map ordered_entry) at)) in
        let thread : entry.thread ≡ found.0.0 = ap (λ (o : Ordered). o.thread) found.2 in
        let index : entry.index ≡ found.0.1 + 1 = ap (λ (o : Ordered). o.index) found.2 in
        let place_is : found.0.1 ≡ entry.index - 1 = omega (arith, index) in
        found.1 ∙ ap (λ (a : ℕ × ℕ). Some a) (λ i. (sym thread i, place_is i))

    awaited_call : (called : Call) → entry.call ≡ called → IsAwaitedIn entries place called
    awaited_call (call.Await named index) is =
        let one : Awaited = record { thread = named; index = index } in
        let awaits : awaited script entry.thread (entry.index - 1) ≡ Some one = ap (λ (o : Option Call). option_map_or awaited_by o None) (call_is ∙ ap Some is) in
        let done : index ≤ length (places_of named (take place (last_machine script).answered)) = done_at script (last_machine script).answered [] (awaited_calls_come_first script rule) place (entry.thread, entry.index - 1) answer_is one awaits in
        let threads : map (λ (e : Entry). e.thread) (take place entries) ≡ map (λ (a : ℕ × ℕ). a.0) (take place (last_machine script).answered) =
        sym (take-map (λ (e : Entry). e.thread) place entries) ∙ ap (take place) same_threads ∙ take-map (λ (a : ℕ × ℕ). a.0) place (last_machine script).answered in
        let count = count_mine named (take place entries) (take place (last_machine script).answered) threads in
        omega (arith, done, count)
    awaited_call called is = tt

  -- entries in the order of the turns stand after the calls that they await
  pub awaited_in_turns : EachAt entries (IsAwaited entries)
  awaited_in_turns place entry at = awaited_call place entry at entry.call refl
