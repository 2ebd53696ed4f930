-- The locks of a section are its thread's as long as no call in it has waited: through every step of the machine.
use Rattle.std.proofs.Common.{◌≡◌, ◌≢◌, ℕ, ◌+◌, ◌-◌, ◌<◌, ◌≤◌, Bool, true, false, List, [], ◌∷◌, ◌++◌, length, take, drop, map, Option, None, Some, refl, sym, ap, subst, ◌∙◌, arith, inl, inr}
use Rattle.std.specs.Prelude.{slice_get, slice_set, slice_index_or, ◌==◌, is_some, if◌then◌else◌}
use Rattle.std.specs.List.{AllByRecursion}
use Rattle.std.proofs.lemmas.Bool.{cases_lt, cases_Bool, true≢false, false≢true}
use Rattle.std.proofs.lemmas.Option.{none-some, same_Some, slice_get_within, slice_get_cases}
use Rattle.std.proofs.lemmas.List.{length_push, get_or_push, get_or-set_same}
use Rattle.ft_model.specs.declared.call.Call.{Call}
use Rattle.ft_model.specs.declared.call.Call.TheVariants as call
use Rattle.ft_model.specs.declared.call.DictCall.{DictCall}
use Rattle.ft_model.specs.declared.call.DictCall.TheVariants as dict
use Rattle.ft_model.specs.declared.call.ListCall.{ListCall}
use Rattle.ft_model.specs.declared.call.ListCall.TheVariants as list
use Rattle.ft_model.specs.declared.call.SetCall.{SetCall}
use Rattle.ft_model.specs.declared.call.SetCall.TheVariants as set
use Rattle.ft_model.specs.declared.call.DequeCall.{DequeCall}
use Rattle.ft_model.specs.declared.call.DequeCall.TheVariants as deque
use Rattle.ft_model.specs.declared.entry.Entry.{Entry}
use Rattle.ft_model.specs.declared.script.ScriptParts.{ScriptParts}
use Rattle.ft_model.specs.Calls.{is_changing, is_changing_dict, is_changing_list, is_changing_set, is_changing_deque, is_locked_dict, is_locked_list, is_locked_set, is_locked_deque, one_or_two, containers_of, other_dict, other_list, other_set, other_deque}
use Rattle.ft_model.specs.Histories.{calls_of, Section, after_section, sections_at, IfEnds, names, is_disturbed, marks_between}
use Rattle.ft_history.proofs.HistoryPlaces.{slice_get_at}
use Rattle.ft_turns.specs.Orders.{locks_taken, lower_first, OpenSection, ThreadState, Machine, fresh_thread, start_machine, take_locks, holder_of, thread_at, without_locks, waiting_machine, sections_after, answered_machine, innermost_containers, with_taken, finished_machine}
use Rattle.ft_turns.proofs.LockLemmas.{occ, occ-append, named_occ, occ-lower_first, held, bit_of, bit_same, bit_is, take_all, take_own}
use Rattle.ft_turns.proofs.MachineSteps.{wanted, wanted_again, IsTry, IsKeptBySteps, there}
use Rattle.ft_turns.proofs.LocksOnce.{by_thread, flat, taken_mine, taken_others, IsOwned, owned_steps, start_thread}
use Rattle.ft_turns.proofs.Marks.{mark_at}
use Rattle.ft_turns.proofs.MachineFacts.{IsFollowed, followed_waits, followed_answers, followed_finishes}
use Rattle.ft_turns.proofs.PlaceSteps.{AllBelow, sections_below, sections_own, sections_other}
use Rattle.ft_turns.proofs.Secured.{AreHeld, Secured, blocked, finished, quieter, own_next, other_next, secured_after, marked_after, drop_still_marked}
use Rattle.ft_turns.proofs.NoSections.{none_ends}

-- ---- the calls that take their locks

some_named : (first : ℕ) (second : Option ℕ) → (length (one_or_two first second) == 0) ≡ false
some_named first None = refl
some_named first (Some second) = elim (first == second) as (λ b. (length (if b then first ∷ [] else first ∷ second ∷ []) == 0) ≡ false) [ true ↦ refl | false ↦ refl ]

locked_dict : (dict_call : DictCall) → is_changing_dict dict_call ≡ true → is_locked_dict dict_call ≡ true
locked_dict (dict.Get key) h = absurd (false≢true h)
locked_dict (dict.GetOr key default) h = absurd (false≢true h)
locked_dict (dict.Has key) h = absurd (false≢true h)
locked_dict dict.Len h = absurd (false≢true h)
locked_dict dict.Items h = absurd (false≢true h)
locked_dict (dict.Eq other) h = absurd (false≢true h)
locked_dict (dict.ItemsHas key value) h = absurd (false≢true h)
locked_dict other h = refl

locked_list : (list_call : ListCall) → is_changing_list list_call ≡ true → is_locked_list list_call ≡ true
locked_list (list.Get index) h = absurd (false≢true h)
locked_list (list.Has value) h = absurd (false≢true h)
locked_list list.Len h = absurd (false≢true h)
locked_list list.Items h = absurd (false≢true h)
locked_list (list.Eq other) h = absurd (false≢true h)
locked_list other h = refl

locked_set : (set_call : SetCall) → is_changing_set set_call ≡ true → is_locked_set set_call ≡ true
locked_set (set.Has key) h = absurd (false≢true h)
locked_set set.Len h = absurd (false≢true h)
locked_set set.Items h = absurd (false≢true h)
locked_set (set.Eq other) h = absurd (false≢true h)
locked_set other h = refl

locked_deque : (deque_call : DequeCall) → is_changing_deque deque_call ≡ true → is_locked_deque deque_call ≡ true
locked_deque (deque.Get index) h = absurd (false≢true h)
locked_deque deque.Len h = absurd (false≢true h)
locked_deque deque.Items h = absurd (false≢true h)
locked_deque other h = refl

all_named : (locked : Bool) (first : ℕ) (second : Option ℕ) → locked ≡ true → (if (if locked then length (one_or_two first second) else 0) == 0 then [] else one_or_two first second) ≡ one_or_two first second
all_named locked first second is =
    ap (λ b. if (if b then length (one_or_two first second) else 0) == 0 then [] else one_or_two first second) is ∙ ap (λ b. if b then [] else one_or_two first second) (some_named first second)

-- a call of a changing kind takes the locks of all that it names, and so does a `begin`
pub changing_takes : (before : List Call) (called : Call) → is_changing called ≡ true → locks_taken before called ≡ containers_of called
changing_takes before (call.Dict container dict_call) h = all_named (is_locked_dict dict_call) container (other_dict dict_call) (locked_dict dict_call h)
changing_takes before (call.List container list_call) h = all_named (is_locked_list list_call) container (other_list list_call) (locked_list list_call h)
changing_takes before (call.Set container set_call) h = all_named (is_locked_set set_call) container (other_set set_call) (locked_set set_call h)
changing_takes before (call.Deque container deque_call) h = all_named (is_locked_deque deque_call) container (other_deque deque_call) (locked_deque deque_call h)
changing_takes before (call.Next number) h = absurd (false≢true h)
changing_takes before (call.Begin first second) h = absurd (false≢true h)
changing_takes before call.End h = absurd (false≢true h)
changing_takes before call.Quiesce h = absurd (false≢true h)
changing_takes before (call.Await other index) h = absurd (false≢true h)
changing_takes before call.Dump h = absurd (false≢true h)

begin_takes : (before : List Call) (first : ℕ) (second : Option ℕ) → locks_taken before (call.Begin first second) ≡ containers_of (call.Begin first second)
begin_takes before first second = all_named true first second refl

-- ---- entries of these events

-- an entry says the call of the thread at its index, and its mark, and a write is of a changing kind
pub record IsEntryFor (script : ScriptParts) (mark_of : ℕ → ℕ → Option ℕ) (entries : List Entry) (place thread index : ℕ) : Type 0 where
  pub entry : Entry
  pub at : slice_get entries place ≡ Some entry
  pub mine : entry.thread ≡ thread
  pub waited : entry.waited ≡ mark_of thread index
  pub called : slice_get (calls_of script thread) index ≡ Some entry.call
  pub changing : entry.wrote ≡ true → is_changing entry.call ≡ true

abbrev pub AreEntriesFor : ScriptParts → (ℕ → ℕ → Option ℕ) → List (ℕ × ℕ) → List Entry → Type 0
AreEntriesFor script mark_of events entries = (place thread index : ℕ) → ◌≡◌ {A = Option (ℕ × ℕ)} (slice_get events place) (Some (thread, index)) → IsEntryFor script mark_of entries place thread index

-- ---- the invariant

-- the call in flight, whose answer is not fixed yet, has not waited
abbrev pub Quiet : ThreadState → Type 0
Quiet state = state.fixed ≡ false → state.mark ≡ None

abbrev pub CalmAtEnd : List Entry → ℕ → ℕ → Section → Type 0
CalmAtEnd entries thread place section = marks_between entries thread place section ≡ 0 → is_disturbed entries thread place section ≡ false

pub record IsSecured (script : ScriptParts) (entries : List Entry) (mark_of : ℕ → ℕ → Option ℕ) (machine : Machine) : Type 0 where
  pub secured : (thread : ℕ) → Secured entries thread (length machine.answered) (length script.containers) (Quiet (thread_at machine thread)) (sections_at entries thread (length machine.answered)) (thread_at machine thread).sections
  -- a call in flight whose answer is fixed, and that has waited or will, stands inside each open section but the one that it entered
  pub inside : (thread : ℕ) → (thread_at machine thread).fixed ≡ true → is_some (mark_of thread (length (thread_at machine thread).marks)) ≡ true
      → AllByRecursion (λ section. 1 ≤ marks_between entries thread (length machine.answered) section) (drop 1 (sections_at entries thread (length machine.answered)))
  pub kept : (place : ℕ) (entry : Entry) → place < length machine.answered → slice_get entries place ≡ Some entry → IfEnds (sections_at entries entry.thread place) entry.call (CalmAtEnd entries entry.thread place)

all_of : {X : Type 0} (P : X → Type 0) → ((x : X) → P x) → (xs : List X) → AllByRecursion P xs
all_of P each [] = tt
all_of P each (x ∷ xs) = (each x, all_of P each xs)

never_none : (mark : Option ℕ) (found : ℕ) → (if is_some mark then mark else Some found) ≡ None → ⊥
never_none None found none = none-some found (sym none)
never_none (Some who) found none = none-some who (sym none)

marked_now : (mark : Option ℕ) (found : ℕ) → (who : ℕ) × ((if is_some mark then mark else Some found) ≡ Some who)
marked_now None found = (found, refl)
marked_now (Some who) found = (who, refl)

no_zero : (entries : List Entry) (thread place : ℕ) (quiet : Type 0) (sections : List Section) → AllByRecursion (λ section. 1 ≤ marks_between entries thread place section) sections → AllByRecursion (λ section. marks_between entries thread place section ≡ 0 → quiet → ⊥) sections
no_zero entries thread place quiet [] marked = tt
no_zero entries thread place quiet (section ∷ sections) marked = (λ none is_quiet. (let m : 1 ≤ marks_between entries thread place section = marked.0 in omega arith), no_zero entries thread place quiet sections marked.1)

-- a call that takes its section up again and waits: each section has a mark
waits_again : (entries : List Entry) (thread place limit : ℕ) (quiet quiet_after : Type 0) (sections : List Section) (open_sections : List OpenSection) → quiet
    → (AreHeld limit (innermost_containers open_sections) (flat open_sections) → ⊥)
    → AllByRecursion (λ section. 1 ≤ marks_between entries thread place section) (drop 1 sections)
    → Secured entries thread place limit quiet sections open_sections → AllByRecursion (λ section. marks_between entries thread place section ≡ 0 → quiet_after → ⊥) sections
waits_again entries thread place limit quiet quiet_after [] open_sections is_quiet unheld marked secured = tt
waits_again entries thread place limit quiet quiet_after (section ∷ sections) [] is_quiet unheld marked secured = absurd secured
waits_again entries thread place limit quiet quiet_after (section ∷ sections) (open_section ∷ open_sections) is_quiet unheld marked secured =
    (λ none _. unheld (secured.1 none is_quiet).held, no_zero entries thread place quiet_after sections marked)

calm_at_end : (entries : List Entry) (thread place limit : ℕ) (quiet : Type 0) (sections : List Section) (open_sections : List OpenSection) (called : Call) → (called ≡ call.End → quiet) → Secured entries thread place limit quiet sections open_sections → IfEnds sections called (CalmAtEnd entries thread place)
calm_at_end entries thread place limit quiet [] open_sections called ends secured = none_ends called (CalmAtEnd entries thread place)
calm_at_end entries thread place limit quiet (section ∷ sections) [] called ends secured = absurd secured
calm_at_end entries thread place limit quiet (section ∷ sections) (open_section ∷ open_sections) call.End ends secured = λ none. (secured.1 none (ends refl)).calm
calm_at_end entries thread place limit quiet (section ∷ sections) (open_section ∷ open_sections) (call.Dict container dict_call) ends secured = tt
calm_at_end entries thread place limit quiet (section ∷ sections) (open_section ∷ open_sections) (call.List container list_call) ends secured = tt
calm_at_end entries thread place limit quiet (section ∷ sections) (open_section ∷ open_sections) (call.Set container set_call) ends secured = tt
calm_at_end entries thread place limit quiet (section ∷ sections) (open_section ∷ open_sections) (call.Deque container deque_call) ends secured = tt
calm_at_end entries thread place limit quiet (section ∷ sections) (open_section ∷ open_sections) (call.Next cursor) ends secured = tt
calm_at_end entries thread place limit quiet (section ∷ sections) (open_section ∷ open_sections) (call.Begin first second) ends secured = tt
calm_at_end entries thread place limit quiet (section ∷ sections) (open_section ∷ open_sections) call.Quiesce ends secured = tt
calm_at_end entries thread place limit quiet (section ∷ sections) (open_section ∷ open_sections) (call.Await other index) ends secured = tt
calm_at_end entries thread place limit quiet (section ∷ sections) (open_section ∷ open_sections) call.Dump ends secured = tt

-- each event so far has its entry
places_within : (script : ScriptParts) (mark_of : ℕ → ℕ → Option ℕ) (events : List (ℕ × ℕ)) (entries : List Entry) → AreEntriesFor script mark_of events entries → (machine : Machine) → IsFollowed events mark_of machine → length machine.answered ≤ length entries
places_within script mark_of events entries reported machine follows =
    elim (slice_get_cases machine.answered (length machine.answered - 1)).1 [
      | inl found ↦ (let e = reported (length machine.answered - 1) found.0.0 found.0.1 (follows.answered (length machine.answered - 1) found.0 found.2) in let low : length machine.answered - 1 < length entries = slice_get_within entries (length machine.answered - 1) e.entry e.at in omega arith)
      | inr past ↦ (let none : length machine.answered ≡ 0 = omega (arith, past.0) in omega arith)
    ]

-- the containers of a `begin` are the script's
abbrev pub BeginsLow : ScriptParts → Type 0
BeginsLow script = (thread index first : ℕ) (second : Option ℕ) → slice_get (calls_of script thread) index ≡ Some (call.Begin first second) → (container : ℕ) → 1 ≤ occ container (containers_of (call.Begin first second)) → container < length script.containers

module _ (script : ScriptParts) (begins_low : BeginsLow script) (mark_of : ℕ → ℕ → Option ℕ) (events : List (ℕ × ℕ)) (entries : List Entry) (reported : AreEntriesFor script mark_of events entries) where
  secured_waits : (machine : Machine) (thread : ℕ) (called : Call) (fixed : Bool) (containers : List ℕ) (found : ℕ) → IsTry script machine thread called fixed containers → (take_locks thread machine.holders containers).found ≡ Some found → IsOwned script machine → IsSecured script entries mark_of machine
      → IsFollowed events mark_of (waiting_machine machine thread (thread_at machine thread) (take_locks thread machine.holders containers) found)
      → IsSecured script entries mark_of (waiting_machine machine thread (thread_at machine thread) (take_locks thread machine.holders containers) found)
  secured_waits machine thread called fixed containers found try finds owns inv follows =
      let state = thread_at machine thread in
      let n = length machine.answered in
      let limit = length script.containers in
      let locking = take_locks thread machine.holders containers in
      let after : ThreadState = record state { sections = map without_locks state.sections; own = state.own ++ locking.taken; mark = if is_some state.mark then state.mark else Some found } in
      let low : thread < length machine.threads = omega (arith, there script thread state called try.next, owns.threads) in
      let marked : is_some (mark_of thread (length state.marks)) ≡ true =
      (let now = marked_now state.mark found in
      let is_after : slice_index_or (slice_set machine.threads thread after) thread fresh_thread ≡ after = get_or-set_same machine.threads thread after fresh_thread low in
      ap is_some (follows.marks thread (length state.marks) now.0 (ap (λ (s : ThreadState). mark_at s (length state.marks)) is_after ∙ get_or_push state.marks after.mark None (length state.marks) refl ∙ now.1))) in
      let blocks : AllByRecursion (λ section. marks_between entries thread n section ≡ 0 → Quiet after → ⊥) (sections_at entries thread n) =
      elim fixed as (λ b. fixed ≡ b → AllByRecursion (λ section. marks_between entries thread n section ≡ 0 → Quiet after → ⊥) (sections_at entries thread n)) [
        | false ↦ λ unfixed. all_of (λ (section : Section). marks_between entries thread n section ≡ 0 → Quiet after → ⊥) (λ section none is_quiet. never_none state.mark found (is_quiet (try.state ∙ unfixed))) (sections_at entries thread n)
        | true ↦ λ is_fixed.
            waits_again entries thread n limit (Quiet state) (Quiet after) (sections_at entries thread n) state.sections
            (λ unfixed. absurd (true≢false (sym (try.state ∙ is_fixed) ∙ unfixed)))
            (λ all_held. none-some found (sym (take_own thread machine.holders containers (λ container asked.
            (let asks : containers ≡ lower_first (innermost_containers state.sections) = try.asks ∙ ap (λ b. if b then wanted_again machine thread else wanted script machine thread called) is_fixed in
            let h = all_held container (omega (arith, ap (occ container) asks, occ-lower_first container (innermost_containers state.sections))) in
            bit_is thread (holder_of machine.holders container) (omega (arith, h.1, owns.owned container thread h.0, occ-append container state.own (flat state.sections)))))) ∙ finds))
            (inv.inside thread (try.state ∙ is_fixed) marked)
            (inv.secured thread)
      ] refl in
      record {
        secured = by_thread (λ u s. Secured entries u n limit (Quiet s) (sections_at entries u n) s.sections) machine.threads thread after low
            (blocked entries thread n limit (Quiet state) (Quiet after) (sections_at entries thread n) state.sections blocks (inv.secured thread)) (λ u differs. inv.secured u);
        inside = by_thread (λ u s. s.fixed ≡ true → is_some (mark_of u (length s.marks)) ≡ true → AllByRecursion (λ section. 1 ≤ marks_between entries u n section) (drop 1 (sections_at entries u n))) machine.threads thread after low
            (inv.inside thread) (λ u differs. inv.inside u);
        kept = inv.kept;
      }

  secured_finishes : (machine : Machine) (thread : ℕ) (called : Call) (containers : List ℕ) → IsTry script machine thread called true containers → IsOwned script machine → IsSecured script entries mark_of machine
      → IsSecured script entries mark_of (finished_machine machine thread (thread_at machine thread) (take_locks thread machine.holders containers))
  secured_finishes machine thread called containers try owns inv =
      let state = thread_at machine thread in
      let n = length machine.answered in
      let limit = length script.containers in
      let locking = take_locks thread machine.holders containers in
      let own = state.own ++ locking.taken in
      let after : ThreadState = record { marks = state.marks ++ state.mark ∷ []; fixed = false; sections = with_taken own state.sections; own = []; mark = None } in
      let low : thread < length machine.threads = omega (arith, there script thread state called try.next, owns.threads) in
      record {
        secured = by_thread (λ u s. Secured entries u n limit (Quiet s) (sections_at entries u n) s.sections) machine.threads thread after low
            (finished entries thread n limit (Quiet state) (Quiet after) own (sections_at entries thread n) state.sections (λ _ unfixed. absurd (true≢false (sym try.state ∙ unfixed))) (inv.secured thread)) (λ u differs. inv.secured u);
        inside = by_thread (λ u s. s.fixed ≡ true → is_some (mark_of u (length s.marks)) ≡ true → AllByRecursion (λ section. 1 ≤ marks_between entries u n section) (drop 1 (sections_at entries u n))) machine.threads thread after low
            (λ is_fixed _. absurd (false≢true is_fixed)) (λ u differs. inv.inside u);
        kept = inv.kept;
      }

  module _ (machine : Machine) (thread : ℕ) (called : Call) (containers : List ℕ) (try : IsTry script machine thread called false containers) (finds : (take_locks thread machine.holders containers).found ≡ None) (owns : IsOwned script machine) (inv : IsSecured script entries mark_of machine) (before : IsFollowed events mark_of machine) (here : IsEntryFor script mark_of entries (length machine.answered) thread (length (thread_at machine thread).marks)) where
    abbrev place : ℕ
    place = length machine.answered

    abbrev entry : Entry
    entry = here.entry

    call_is : here.entry.call ≡ called
    call_is = same_Some here.entry.call called (sym here.called ∙ try.next)

    -- the thread has the locks that the call takes
    has_taken : (container : ℕ) → container < length script.containers → 1 ≤ occ container (locks_taken (take (length (thread_at machine thread).marks) (calls_of script thread)) called) → holder_of (take_locks thread machine.holders containers).holders container ≡ Some thread
    has_taken container low there = take_all thread machine.holders containers container (omega (arith, owns.holders)) finds (omega (arith, ap (occ container) try.asks, occ-lower_first container (locks_taken (take (length (thread_at machine thread).marks) (calls_of script thread)) called)))

    -- so another thread has none of those that it writes on
    spares : (other : ℕ) → other ≢ thread → (container : ℕ) → container < length script.containers → 1 ≤ occ container (flat (thread_at machine other).sections) → here.entry.wrote ≡ true → names container here.entry.call ≡ false
    spares other differs container low there wrote =
        elim (cases_Bool (names container here.entry.call)) [
          | inl named ↦
              let takes : locks_taken (take (length (thread_at machine thread).marks) (calls_of script thread)) called ≡ containers_of here.entry.call = changing_takes (take (length (thread_at machine thread).marks) (calls_of script thread)) called (ap is_changing (sym call_is) ∙ here.changing wrote) ∙ ap containers_of (sym call_is) in
              let mine : holder_of (take_locks thread machine.holders containers).holders container ≡ Some thread = has_taken container low (omega (arith, named_occ container (containers_of here.entry.call) named, ap (occ container) takes)) in
              let has : 1 ≤ held machine.holders other container = omega (arith, owns.owned container other low, occ-append container (thread_at machine other).own (flat (thread_at machine other).sections)) in
              let theirs : holder_of (take_locks thread machine.holders containers).holders container ≡ Some other = bit_is other (holder_of (take_locks thread machine.holders containers).holders container) (omega (arith, taken_others thread machine.holders containers container (omega (arith, owns.holders)) other differs)) in
              absurd (differs (same_Some other thread (sym theirs ∙ mine)))
          | inr unnamed ↦ unnamed
        ]

    -- the thread has the locks of a section that it enters
    enters : (first : ℕ) (second : Option ℕ) → here.entry.call ≡ call.Begin first second → AreHeld (length script.containers) (containers_of here.entry.call) (((thread_at machine thread).own ++ (take_locks thread machine.holders containers).taken) ++ flat (thread_at machine thread).sections)
    enters first second begins container there =
        let state = thread_at machine thread in
        let locking = take_locks thread machine.holders containers in
        let named : 1 ≤ occ container (containers_of (call.Begin first second)) = subst (λ c. 1 ≤ occ container (containers_of c)) begins there in
        let low : container < length script.containers = begins_low thread (length state.marks) first second (here.called ∙ ap Some begins) container named in
        let takes : locks_taken (take (length state.marks) (calls_of script thread)) called ≡ containers_of (call.Begin first second) = ap (locks_taken (take (length state.marks) (calls_of script thread))) (sym call_is ∙ begins) ∙ begin_takes (take (length state.marks) (calls_of script thread)) first second in
        let mine : held locking.holders thread container ≡ 1 = ap (bit_of thread) (has_taken container low (omega (arith, ap (occ container) takes))) ∙ bit_same thread in
        (low, omega (arith, mine, taken_mine thread machine.holders containers container (omega (arith, owns.holders)), owns.owned container thread low, occ-append container state.own (flat state.sections), occ-append container (state.own ++ locking.taken) (flat state.sections), occ-append container state.own locking.taken))

    unmarked_is_quiet : here.entry.waited ≡ None → Quiet (thread_at machine thread)
    unmarked_is_quiet unmarked _ =
        let state = thread_at machine thread in
        elim state.mark as (λ m. state.mark ≡ m → m ≡ None) [
          | None ↦ λ none. refl
          | Some who ↦ λ some. absurd (none-some who (sym unmarked ∙ here.waited ∙ before.marks thread (length state.marks) who (get_or_push state.marks state.mark None (length state.marks) refl ∙ some)))
        ] refl

    below : (other : ℕ) → AllBelow (length machine.answered) (sections_at entries other (length machine.answered))
    below other = sections_below entries other (length machine.answered) (places_within script mark_of events entries reported machine before)

    after_mine : Secured entries thread (length machine.answered + 1) (length script.containers) (Unit {0}) (sections_at entries thread (length machine.answered + 1)) (sections_after called ((thread_at machine thread).own ++ (take_locks thread machine.holders containers).taken) (thread_at machine thread).sections)
    after_mine =
        let state = thread_at machine thread in
        let own = state.own ++ (take_locks thread machine.holders containers).taken in
        let sections = sections_at entries thread (length machine.answered) in
        let limit = length script.containers in
        let next = own_next entries (length machine.answered) here.entry here.at thread limit (Quiet state) (Unit {0}) sections state.sections here.mine unmarked_is_quiet (below thread) (inv.secured thread) in
        subst (λ S. Secured entries thread (length machine.answered + 1) limit (Unit {0}) S (sections_after called own state.sections)) (sym (sections_own entries (length machine.answered) here.entry here.at thread here.mine))
        (subst (λ (c : Call). Secured entries thread (length machine.answered + 1) limit (Unit {0}) (after_section (length machine.answered) here.entry.call sections) (sections_after c own state.sections)) call_is
        (secured_after entries (length machine.answered) here.entry here.at thread limit (Unit {0}) here.entry.call own sections state.sections enters next))

    after_other : (other : ℕ) → other ≢ thread → Secured entries other (length machine.answered + 1) (length script.containers) (Quiet (thread_at machine other)) (sections_at entries other (length machine.answered + 1)) (thread_at machine other).sections
    after_other other differs =
        let theirs : here.entry.thread ≢ other = λ e. differs (sym e ∙ here.mine) in
        subst (λ S. Secured entries other (length machine.answered + 1) (length script.containers) (Quiet (thread_at machine other)) S (thread_at machine other).sections) (sym (sections_other entries (length machine.answered) here.entry here.at other theirs))
        (other_next entries (length machine.answered) here.entry here.at other (length script.containers) (Quiet (thread_at machine other)) (sections_at entries other (length machine.answered)) (thread_at machine other).sections theirs (spares other differs) (below other) (inv.secured other))

    inside_mine : is_some (mark_of thread (length (thread_at machine thread).marks)) ≡ true → AllByRecursion (λ section. 1 ≤ marks_between entries thread (length machine.answered + 1) section) (drop 1 (sections_at entries thread (length machine.answered + 1)))
    inside_mine marked =
        subst (λ S. AllByRecursion (λ section. 1 ≤ marks_between entries thread (length machine.answered + 1) section) (drop 1 S)) (sym (sections_own entries (length machine.answered) here.entry here.at thread here.mine))
        (marked_after entries (length machine.answered) here.entry here.at thread (length script.containers) here.entry.call (sections_at entries thread (length machine.answered)) here.mine (ap is_some here.waited ∙ marked) (below thread))

    inside_other : (other : ℕ) → other ≢ thread → AllByRecursion (λ section. 1 ≤ marks_between entries other (length machine.answered) section) (drop 1 (sections_at entries other (length machine.answered))) → AllByRecursion (λ section. 1 ≤ marks_between entries other (length machine.answered + 1) section) (drop 1 (sections_at entries other (length machine.answered + 1)))
    inside_other other differs marked =
        subst (λ S. AllByRecursion (λ section. 1 ≤ marks_between entries other (length machine.answered + 1) section) (drop 1 S)) (sym (sections_other entries (length machine.answered) here.entry here.at other (λ e. differs (sym e ∙ here.mine))))
        (drop_still_marked entries (length machine.answered) here.entry here.at other (length script.containers) (sections_at entries other (length machine.answered)) (below other) marked)

    kept_now : IfEnds (sections_at entries here.entry.thread (length machine.answered)) here.entry.call (CalmAtEnd entries here.entry.thread (length machine.answered))
    kept_now =
        subst (λ t. IfEnds (sections_at entries t (length machine.answered)) here.entry.call (CalmAtEnd entries t (length machine.answered))) (sym here.mine)
        (calm_at_end entries thread (length machine.answered) (length script.containers) (Quiet (thread_at machine thread)) (sections_at entries thread (length machine.answered)) (thread_at machine thread).sections here.entry.call
        (λ ends unfixed. (owns.ended thread unfixed (try.next ∙ ap Some (sym call_is ∙ ends))).1) (inv.secured thread))

    secured_answers : IsSecured script entries mark_of (answered_machine machine thread (thread_at machine thread) called (take_locks thread machine.holders containers))
    secured_answers =
        let state = thread_at machine thread in
        let locking = take_locks thread machine.holders containers in
        let own = state.own ++ locking.taken in
        let limit = length script.containers in
        let after : ThreadState = record state { fixed = true; sections = sections_after called own state.sections; own = [] } in
        let low : thread < length machine.threads = omega (arith, there script thread state called try.next, owns.threads) in
        let one_more : length machine.answered + 1 ≡ length (machine.answered ++ (thread, length state.marks) ∷ []) = sym (length_push machine.answered (thread, length state.marks)) in
        record {
          secured = subst (λ n. (u : ℕ) → Secured entries u n limit (Quiet (slice_index_or (slice_set machine.threads thread after) u fresh_thread)) (sections_at entries u n) (slice_index_or (slice_set machine.threads thread after) u fresh_thread).sections) one_more
              (by_thread (λ u s. Secured entries u (length machine.answered + 1) limit (Quiet s) (sections_at entries u (length machine.answered + 1)) s.sections) machine.threads thread after low
              (quieter entries thread (length machine.answered + 1) limit (Unit {0}) (Quiet after) (sections_at entries thread (length machine.answered + 1)) after.sections (λ _. tt) after_mine) after_other);
          inside = subst (λ n. (u : ℕ) → (slice_index_or (slice_set machine.threads thread after) u fresh_thread).fixed ≡ true → is_some (mark_of u (length (slice_index_or (slice_set machine.threads thread after) u fresh_thread).marks)) ≡ true → AllByRecursion (λ section. 1 ≤ marks_between entries u n section) (drop 1 (sections_at entries u n))) one_more
              (by_thread (λ u s. s.fixed ≡ true → is_some (mark_of u (length s.marks)) ≡ true → AllByRecursion (λ section. 1 ≤ marks_between entries u (length machine.answered + 1) section) (drop 1 (sections_at entries u (length machine.answered + 1)))) machine.threads thread after low
              (λ _ marked. inside_mine marked) (λ u differs fixed marked. inside_other u differs (inv.inside u fixed marked)));
          kept = λ at_place e within at.
              elim (cases_lt at_place (length machine.answered)) [
                | inl earlier ↦ inv.kept at_place e earlier at
                | inr last ↦
                    let is : at_place ≡ length machine.answered = omega (arith, one_more) in
                    let same : here.entry ≡ e = same_Some here.entry e (sym here.at ∙ ap (slice_get entries) (sym is) ∙ at) in
                    subst (λ n. IfEnds (sections_at entries e.thread n) e.call (CalmAtEnd entries e.thread n)) (sym is)
                    (subst (λ (f : Entry). IfEnds (sections_at entries f.thread (length machine.answered)) f.call (CalmAtEnd entries f.thread (length machine.answered))) same kept_now)
              ];
        }

  -- ---- all steps

  abbrev pub Steps : Machine → Type 0
  Steps machine = IsOwned script machine × (IsFollowed events mark_of machine → IsSecured script entries mark_of machine)

  pub secured_steps : IsKeptBySteps script (λ machine. IsOwned script machine × (IsFollowed events mark_of machine → IsSecured script entries mark_of machine))
  secured_steps =
      record {
        waits = λ machine thread called fixed containers found try finds both. (
          (owned_steps script).waits machine thread called fixed containers found try finds both.0,
          λ follows. secured_waits machine thread called fixed containers found try finds both.0 (both.1 (followed_waits script events mark_of machine thread called fixed containers try both.0 found follows)) follows,
        );
        answers = λ machine thread called containers try finds both. (
          (owned_steps script).answers machine thread called containers try finds both.0,
          λ follows. (let before = followed_answers script events mark_of machine thread called false containers try both.0 follows in
              let event : ℕ × ℕ = (thread, length (thread_at machine thread).marks) in
              secured_answers machine thread called containers try finds both.0 (both.1 before) before (reported (length machine.answered) thread (length (thread_at machine thread).marks) (follows.answered (length machine.answered) event (slice_get_at machine.answered [] event)))),
        );
        finishes = λ machine thread called containers try finds both. (
          (owned_steps script).finishes machine thread called containers try finds both.0,
          λ follows. secured_finishes machine thread called containers try both.0 (both.1 (followed_finishes script events mark_of machine thread called true containers try both.0 follows)),
        );
      }

  pub secured_start : IsSecured script entries mark_of (start_machine script)
  secured_start =
      record {
        secured = λ thread. subst (λ (s : ThreadState). Secured entries thread 0 (length script.containers) (Quiet s) [] s.sections) (sym (start_thread script thread)) tt;
        inside = λ thread fixed marked. absurd (false≢true (ap (λ (s : ThreadState). s.fixed) (sym (start_thread script thread)) ∙ fixed));
        kept = λ place entry within at. absurd (omega arith);
      }
