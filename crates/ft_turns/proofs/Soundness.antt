-- What holds of a thread between two turns, and that both parts of a turn keep it.
use Rattle.std.proofs.Common.{◌≡◌, ◌≢◌, ℕ, suc, ◌+◌, ◌-◌, ◌<◌, ◌≤◌, true, false, List, [], ◌∷◌, ◌++◌, length, take, drop, map, Option, Some, refl, sym, ap, ◌∙◌, arith, add-one, add-zero, inl, ⊎_elim}
use Rattle.std.specs.Prelude.{if◌then◌else◌, is_some}
use Rattle.std.specs.Option.{option_map_or}
use Rattle.std.proofs.lemmas.List.{append-nil, length-map, length-append, drop_more}
use Rattle.std.proofs.lemmas.Option.{slice_get_within, get_or_from_slice_get}
use Rattle.ft_model.specs.declared.call.Call.{Call}
use Rattle.ft_model.specs.declared.call.Call.TheVariants as call
use Rattle.ft_model.specs.declared.script.ScriptParts.{ScriptParts}
use Rattle.ft_model.specs.Histories.{calls_of}
use Rattle.ft_model.specs.Scripts.{AreNested}
use Rattle.ft_model.specs.Calls.{containers_of}
use Rattle.ft_turns.specs.Orders.{OpenSection, ThreadState, Locking, lower_first, locks_taken, take_locks, let_go, holder_of, next_call, without_locks, section_locks, with_locking, waiting_thread, answered_thread, finished_thread, sections_after, lets_go, innermost_containers, with_taken}
use Rattle.ft_turns.specs.Wants.{so_far}
use Rattle.ft_turns.proofs.LockCounts.{times, times-append, by, by_some, same_self, Takes, takes_all, lets_all_go}
use Rattle.ft_turns.proofs.Wanting.{AreTwo, AreRising}
use Rattle.ft_turns.proofs.Blocking.{IsOwn, blocked, rising_below}

-- what the thread tries to take in its next turn
abbrev pub wanted : ScriptParts → ℕ → ThreadState → List ℕ
wanted script thread state =
    if state.fixed
    then lower_first (innermost_containers state.sections)
    else option_map_or (λ called. lower_first (locks_taken (take (length state.marks) (calls_of script thread)) called)) (next_call script thread state) []

abbrev pub AreSections : ℕ → List OpenSection → Type 0
AreSections n [] = Unit {0}
AreSections n (section ∷ sections) = AreTwo n section.containers × AreSections n sections

abbrev pub locks_had : ThreadState → List ℕ
locks_had state = state.own ++ section_locks state.sections

-- a thread between two tries: it has the locks that it notes, each once
pub record IsSound (script : ScriptParts) (thread : ℕ) (holders : List (Option ℕ)) (state : ThreadState) : Type 0 where
  pub size : length holders ≡ length script.containers
  pub held : (container : ℕ) → times container (locks_had state) ≡ by (holder_of holders container) thread
  pub own_is : IsOwn state.own (section_locks state.sections) (wanted script thread state)
  pub sections_are : AreSections (length script.containers) state.sections
  pub nested : AreNested (length state.sections) (drop (so_far state) (calls_of script thread))
  pub made : so_far state ≤ length (calls_of script thread)

-- other threads have what they had
pub record IsApart (thread : ℕ) (before after : List (Option ℕ)) : Type 0 where
  pub size : length after ≡ length before
  pub others : (container other : ℕ) → thread ≢ other → by (holder_of after container) other ≡ by (holder_of before container) other

-- what waiting comes to
pub record Waits (before after : List (Option ℕ)) (state_before state_after : ThreadState) : Type 0 where
  pub settled : section_locks state_after.sections ≡ []
  pub grows : section_locks state_before.sections ≡ [] → (container : ℕ) → is_some (holder_of before container) ≡ true → is_some (holder_of after container) ≡ true
  pub container : ℕ
  pub is_held : is_some (holder_of after container) ≡ true
  pub above : (one : ℕ) → 1 ≤ times one state_after.own → one < container

-- ---- sections without locks

innermost_without : (sections : List OpenSection) → innermost_containers (map without_locks sections) ≡ innermost_containers sections
innermost_without [] = refl
innermost_without (section ∷ sections) = refl

locks_without : (sections : List OpenSection) → section_locks (map without_locks sections) ≡ []
locks_without [] = refl
locks_without (section ∷ sections) = locks_without sections

sections_without : (n : ℕ) (sections : List OpenSection) → AreSections n sections → AreSections n (map without_locks sections)
sections_without n [] are = tt
sections_without n (section ∷ sections) are = (are.0, sections_without n sections are.1)

-- ---- locks that are let go after a taking

-- what is let go and what is kept are what the thread has
keeps : (script : ScriptParts) (thread : ℕ) (holders : List (Option ℕ)) (had : List ℕ) (locking : Locking) (gone kept : List ℕ)
    → ((container : ℕ) → times container had ≡ by (holder_of holders container) thread)
    → Takes thread holders locking
    → ((container : ℕ) → times container gone + times container kept ≡ times container had + times container locking.taken)
    → ((container : ℕ) → times container kept ≡ by (holder_of (let_go locking.holders gone) container) thread) × IsApart thread holders (let_go locking.holders gone)
keeps script thread holders had locking gone kept held takes split =
    let gone_held : (container : ℕ) → times container gone ≤ by (holder_of locking.holders container) thread = λ container. omega (arith, held container, takes.mine container, split container) in
    let lets = lets_all_go thread gone locking.holders gone_held in (
      (λ container. omega (arith, lets.mine container, held container, takes.mine container, split container)),
      record {
        size = lets.size ∙ takes.size;
        others = λ container other differ. lets.others container other differ ∙ takes.others container other differ;
      },
    )

-- ---- waiting

pub wait_sound : (script : ScriptParts) (thread : ℕ) (holders : List (Option ℕ)) (state : ThreadState) (other : ℕ)
    → AreRising (length script.containers) (wanted script thread state)
    → IsSound script thread holders state
    → (take_locks thread holders (wanted script thread state)).found ≡ Some other
    → IsSound script thread (let_go (take_locks thread holders (wanted script thread state)).holders (section_locks state.sections)) (waiting_thread (with_locking state (take_locks thread holders (wanted script thread state))) other)
    × IsApart thread holders (let_go (take_locks thread holders (wanted script thread state)).holders (section_locks state.sections))
    × Waits holders (let_go (take_locks thread holders (wanted script thread state)).holders (section_locks state.sections)) state (waiting_thread (with_locking state (take_locks thread holders (wanted script thread state))) other)
wait_sound script thread holders state other in_order sound found =
    let locking = take_locks thread holders (wanted script thread state) in
    let after = waiting_thread (with_locking state locking) other in
    let left = let_go locking.holders (section_locks state.sections) in
    let takes = takes_all thread (wanted script thread state) holders (rw sound.size (rising_below (length script.containers) (wanted script thread state) in_order)) in
    let blocks = blocked (length script.containers) thread holders state.own (section_locks state.sections) (wanted script thread state) other in_order sound.own_is sound.held found in
    let had_after : locks_had after ≡ state.own ++ locking.taken = rw (locks_without state.sections, append-nil (state.own ++ locking.taken)) refl in
    let split : (container : ℕ) → times container (section_locks state.sections) + times container (locks_had after) ≡ times container (locks_had state) + times container locking.taken = λ container.
    rw had_after (omega (arith, times-append container state.own locking.taken, times-append container state.own (section_locks state.sections))) in
    let kept = keeps script thread holders (locks_had state) locking (section_locks state.sections) (locks_had after) sound.held takes split in
    let wanted_same : wanted script thread after ≡ wanted script thread state = ap (λ containers. if state.fixed then lower_first containers else option_map_or (λ called. lower_first (locks_taken (take (length state.marks) (calls_of script thread)) called)) (next_call script thread state) []) (innermost_without state.sections) in
    let its : by (holder_of left blocks.container) other ≡ by (holder_of locking.holders blocks.container) other = kept.1.others blocks.container other (λ e. blocks.differ (sym e)) ∙ sym (takes.others blocks.container other (λ e. blocks.differ (sym e))) in
    let one : by (holder_of locking.holders blocks.container) other ≡ 1 = rw blocks.holder (same_self other) in (
      record {
        size = kept.1.size ∙ sound.size;
        held = kept.0;
        own_is = rw (wanted_same, locks_without state.sections) blocks.own;
        sections_are = sections_without (length script.containers) state.sections sound.sections_are;
        nested = rw length-map sound.nested;
        made = sound.made;
      },
      kept.1,
      record {
        settled = locks_without state.sections;
        grows = λ none container held. rw none (takes.grows container held);
        container = blocks.container;
        is_held = by_some (holder_of left blocks.container) other (omega (arith, its, one));
        above = blocks.above;
      },
    )

-- ---- an answer that is fixed

-- what is let go and what is kept when an answer is fixed
answer_split : (called : Call) (own taken : List ℕ) (sections : List OpenSection) → (called ≡ call.End → (own ≡ []) × (taken ≡ [])) → (container : ℕ) → times container (lets_go called (own ++ taken) sections) + times container (section_locks (sections_after called (own ++ taken) sections)) ≡ times container (own ++ section_locks sections) + times container taken
answer_split (call.Begin first second) own taken sections ended container = omega (arith, times-append container own taken, times-append container (own ++ taken) (section_locks sections), times-append container own (section_locks sections))
answer_split call.End own taken [] ended container = let none = ended refl in rw (none.0, none.1) refl
answer_split call.End own taken (section ∷ sections) ended container = let none = ended refl in rw (none.0, none.1) (omega (arith, times-append container section.taken (section_locks sections)))
answer_split (call.Dict place dict_call) own taken sections ended container = omega (arith, times-append container own taken, times-append container own (section_locks sections))
answer_split (call.List place list_call) own taken sections ended container = omega (arith, times-append container own taken, times-append container own (section_locks sections))
answer_split (call.Set place set_call) own taken sections ended container = omega (arith, times-append container own taken, times-append container own (section_locks sections))
answer_split (call.Deque place deque_call) own taken sections ended container = omega (arith, times-append container own taken, times-append container own (section_locks sections))
answer_split (call.Next number) own taken sections ended container = omega (arith, times-append container own taken, times-append container own (section_locks sections))
answer_split call.Quiesce own taken sections ended container = omega (arith, times-append container own taken, times-append container own (section_locks sections))
answer_split (call.Await other index) own taken sections ended container = omega (arith, times-append container own taken, times-append container own (section_locks sections))
answer_split call.Dump own taken sections ended container = omega (arith, times-append container own taken, times-append container own (section_locks sections))

answer_nested : (called : Call) (own : List ℕ) (sections : List OpenSection) (calls : List Call) → AreNested (length sections) (called ∷ calls) → AreNested (length (sections_after called own sections)) calls
answer_nested (call.Begin first second) own sections calls nested = rw (← add-one (length sections)) nested.1
answer_nested call.End own [] calls nested = absurd (omega (arith, nested.0))
answer_nested call.End own (section ∷ sections) calls nested = let less : suc (length sections) - 1 ≡ length sections = omega arith in rw less at nested.1
answer_nested (call.Dict place dict_call) own sections calls nested = nested
answer_nested (call.List place list_call) own sections calls nested = nested
answer_nested (call.Set place set_call) own sections calls nested = nested
answer_nested (call.Deque place deque_call) own sections calls nested = nested
answer_nested (call.Next number) own sections calls nested = nested
answer_nested call.Quiesce own sections calls nested = nested
answer_nested (call.Await other index) own sections calls nested = nested.1
answer_nested call.Dump own sections calls nested = nested

answer_sections : (n : ℕ) (called : Call) (own : List ℕ) (sections : List OpenSection) → AreTwo n (containers_of called) → AreSections n sections → AreSections n (sections_after called own sections)
answer_sections n (call.Begin first second) own sections two are = (two, are)
answer_sections n call.End own [] two are = tt
answer_sections n call.End own (section ∷ sections) two are = are.1
answer_sections n (call.Dict place dict_call) own sections two are = are
answer_sections n (call.List place list_call) own sections two are = are
answer_sections n (call.Set place set_call) own sections two are = are
answer_sections n (call.Deque place deque_call) own sections two are = are
answer_sections n (call.Next number) own sections two are = are
answer_sections n call.Quiesce own sections two are = are
answer_sections n (call.Await other index) own sections two are = are
answer_sections n call.Dump own sections two are = are

-- who wants nothing has nothing of its own, and takes nothing
pub own_none : (own locks wants : List ℕ) → wants ≡ [] → IsOwn own locks wants → own ≡ []
own_none own locks wants none is =
    ⊎_elim (λ (e : own ≡ []). e)
    (λ (low : (low : ℕ) × (high : ℕ) × (own ≡ low ∷ []) × (locks ≡ []) × (wants ≡ low ∷ high ∷ [])). absurd (let e = sym none ∙ low.4 in cc))
    is

pub answer_sound : (script : ScriptParts) (thread : ℕ) (holders : List (Option ℕ)) (state : ThreadState) (called : Call)
    → state.fixed ≡ false
    → next_call script thread state ≡ Some called
    → AreTwo (length script.containers) (containers_of called)
    → AreRising (length script.containers) (wanted script thread state)
    → IsSound script thread holders state
    → IsSound script thread (let_go (take_locks thread holders (wanted script thread state)).holders (lets_go called (state.own ++ (take_locks thread holders (wanted script thread state)).taken) state.sections)) (answered_thread (with_locking state (take_locks thread holders (wanted script thread state))) called)
    × IsApart thread holders (let_go (take_locks thread holders (wanted script thread state)).holders (lets_go called (state.own ++ (take_locks thread holders (wanted script thread state)).taken) state.sections))
answer_sound script thread holders state called unfixed next two in_order sound =
    let calls = calls_of script thread in
    let n = length state.marks in
    let locking = take_locks thread holders (wanted script thread state) in
    let after = answered_thread (with_locking state locking) called in
    let takes = takes_all thread (wanted script thread state) holders (rw sound.size (rising_below (length script.containers) (wanted script thread state) in_order)) in
    let within : n < length calls = slice_get_within calls n called next in
    let wants : wanted script thread state ≡ lower_first (locks_taken (take n calls) called) = rw (unfixed, next) refl in
    let ended : called ≡ call.End → (state.own ≡ []) × (locking.taken ≡ []) = λ is.
    let none : wanted script thread state ≡ [] = wants ∙ ap (λ c. lower_first (locks_taken (take n calls) c)) is in
    (own_none state.own (section_locks state.sections) (wanted script thread state) none sound.own_is, ap (λ w. (take_locks thread holders w).taken) none) in
    let kept = keeps script thread holders (locks_had state) locking (lets_go called (state.own ++ locking.taken) state.sections) (locks_had after) sound.held takes (answer_split called state.own locking.taken state.sections ended) in
    let was : so_far state ≡ n = ap (λ b. n + (if b then 1 else 0)) unfixed ∙ add-zero n in
    let cut : drop n calls ≡ called ∷ drop (n + 1) calls = drop_more calls n called within ∙ ap (λ c. c ∷ drop (n + 1) calls) (get_or_from_slice_get calls n called called next) in
    let nested : AreNested (length state.sections) (called ∷ drop (n + 1) calls) = rw (was, cut) at sound.nested in (
      record {
        size = kept.1.size ∙ sound.size;
        held = kept.0;
        own_is = inl refl;
        sections_are = answer_sections (length script.containers) called (state.own ++ locking.taken) state.sections two sound.sections_are;
        nested = answer_nested called (state.own ++ locking.taken) state.sections (drop (n + 1) calls) nested;
        made = omega (arith, within);
      },
      kept.1,
    )

-- ---- a call that finishes

finish_split : (own taken : List ℕ) (sections : List OpenSection) → (sections ≡ [] → (own ≡ []) × (taken ≡ [])) → (container : ℕ) → times container (section_locks (with_taken (own ++ taken) sections)) ≡ times container (own ++ section_locks sections) + times container taken
finish_split own taken [] ended container = let none = ended refl in rw (none.0, none.1) refl
finish_split own taken (section ∷ sections) ended container = omega (arith, times-append container (section.taken ++ (own ++ taken)) (section_locks sections), times-append container section.taken (own ++ taken), times-append container own taken, times-append container own (section.taken ++ section_locks sections), times-append container section.taken (section_locks sections))

finish_count : (own : List ℕ) (sections : List OpenSection) → length (with_taken own sections) ≡ length sections
finish_count own [] = refl
finish_count own (section ∷ sections) = refl

finish_sections : (n : ℕ) (own : List ℕ) (sections : List OpenSection) → AreSections n sections → AreSections n (with_taken own sections)
finish_sections n own [] are = tt
finish_sections n own (section ∷ sections) are = are

pub finish_sound : (script : ScriptParts) (thread : ℕ) (holders : List (Option ℕ)) (state : ThreadState)
    → state.fixed ≡ true
    → AreRising (length script.containers) (wanted script thread state)
    → IsSound script thread holders state
    → IsSound script thread (take_locks thread holders (wanted script thread state)).holders (finished_thread (with_locking state (take_locks thread holders (wanted script thread state))))
    × IsApart thread holders (take_locks thread holders (wanted script thread state)).holders
finish_sound script thread holders state fixed in_order sound =
    let calls = calls_of script thread in
    let n = length state.marks in
    let locking = take_locks thread holders (wanted script thread state) in
    let after = finished_thread (with_locking state locking) in
    let takes = takes_all thread (wanted script thread state) holders (rw sound.size (rising_below (length script.containers) (wanted script thread state) in_order)) in
    let wants : wanted script thread state ≡ lower_first (innermost_containers state.sections) = rw fixed refl in
    let ended : state.sections ≡ [] → (state.own ≡ []) × (locking.taken ≡ []) = λ is.
    let none : wanted script thread state ≡ [] = wants ∙ ap (λ ss. lower_first (innermost_containers ss)) is in
    (own_none state.own (section_locks state.sections) (wanted script thread state) none sound.own_is, ap (λ w. (take_locks thread holders w).taken) none) in
    let split : (container : ℕ) → times container [] + times container (locks_had after) ≡ times container (locks_had state) + times container locking.taken = λ container. omega (arith, finish_split state.own locking.taken state.sections ended container) in
    let kept = keeps script thread holders (locks_had state) locking [] (locks_had after) sound.held takes split in
    let was : so_far state ≡ n + 1 = ap (λ b. n + (if b then 1 else 0)) fixed in
    let now : so_far after ≡ so_far state = omega (arith, length-append state.marks (state.mark ∷ []), was) in (
      record {
        size = kept.1.size ∙ sound.size;
        held = kept.0;
        own_is = inl refl;
        sections_are = finish_sections (length script.containers) (state.own ++ locking.taken) state.sections sound.sections_are;
        nested = rw (finish_count (state.own ++ locking.taken) state.sections, now) sound.nested;
        made = rw now sound.made;
      },
      kept.1,
    )
