-- A turn keeps what holds of a thread, and where it brings nothing forward its thread waits.
use Rattle.std.proofs.Common.{◌≡◌, ℕ, Bool, true, false, List, [], ◌∷◌, ◌++◌, length, take, Option, None, Some, refl, sym, ap, ◌∙◌, subst}
use Rattle.std.specs.Prelude.{if◌then◌else◌}
use Rattle.std.specs.Option.{option_map_or}
use Rattle.ft_model.specs.declared.call.Call.{Call}
use Rattle.ft_model.specs.declared.script.ScriptParts.{ScriptParts}
use Rattle.ft_model.specs.Histories.{calls_of}
use Rattle.ft_model.specs.Calls.{containers_of}
use Rattle.ft_turns.specs.Orders.{OpenSection, ThreadState, lower_first, locks_taken, take_locks, let_go, next_call, with_locking, answered_thread, finished_thread, lets_go, innermost_containers}
use Rattle.ft_turns.specs.Internal.TurnParts.{TryOutcome, not_tried, tried_in_vain, answer_tried, finish_tried, answer_part, finish_part}
use Rattle.ft_turns.proofs.Wanting.{AreTwo, AreRising, rising}
use Rattle.ft_turns.proofs.Soundness.{wanted, AreSections, IsSound, IsApart, Waits, wait_sound, answer_sound, finish_sound}

-- what a turn of a thread comes to
pub record IsTurned (script : ScriptParts) (thread : ℕ) (holders : List (Option ℕ)) (state : ThreadState) (answered : Bool) (tried : TryOutcome) : Type 0 where
  pub sound : IsSound script thread tried.holders tried.state
  pub apart : IsApart thread holders tried.holders
  pub quiet : answered ≡ false → tried.done ≡ false → Waits holders tried.holders state tried.state

apart_self : (thread : ℕ) (holders : List (Option ℕ)) → IsApart thread holders holders
apart_self thread holders = record { size = refl; others = λ container other differ. refl }

apart_twice : (thread : ℕ) (a b c : List (Option ℕ)) → IsApart thread a b → IsApart thread b c → IsApart thread a c
apart_twice thread a b c one two = record { size = two.size ∙ one.size; others = λ container other differ. two.others container other differ ∙ one.others container other differ }

innermost_two : (n : ℕ) (sections : List OpenSection) → AreSections n sections → AreTwo n (innermost_containers sections)
innermost_two n [] are = tt
innermost_two n (section ∷ sections) are = are.0

-- ---- the second part

finish_at : (script : ScriptParts) (thread : ℕ) (holders : List (Option ℕ)) (state : ThreadState) (found : Option ℕ)
    → state.fixed ≡ true
    → AreRising (length script.containers) (wanted script thread state)
    → IsSound script thread holders state
    → (take_locks thread holders (wanted script thread state)).found ≡ found
    → IsTurned script thread holders state false (option_map_or (tried_in_vain state (take_locks thread holders (wanted script thread state))) found (record { holders = (take_locks thread holders (wanted script thread state)).holders; state = finished_thread (with_locking state (take_locks thread holders (wanted script thread state))); done = true }))
finish_at script thread holders state None fixed in_order sound is =
    let done = finish_sound script thread holders state fixed in_order sound in
    record { sound = done.0; apart = done.1; quiet = λ a b. absurd (let e : true ≡ false = b in cc) }
finish_at script thread holders state (Some other) fixed in_order sound is =
    let waits = wait_sound script thread holders state other in_order sound is in
    record { sound = waits.0; apart = waits.1; quiet = λ a b. waits.2 }

finish_stage : (script : ScriptParts) (thread : ℕ) (holders : List (Option ℕ)) (state : ThreadState)
    → state.fixed ≡ true
    → IsSound script thread holders state
    → IsTurned script thread holders state false (finish_tried state (take_locks thread holders (lower_first (innermost_containers state.sections))))
finish_stage script thread holders state fixed sound =
    let wants : wanted script thread state ≡ lower_first (innermost_containers state.sections) = ap (λ b. if b then lower_first (innermost_containers state.sections) else option_map_or (λ called. lower_first (locks_taken (take (length state.marks) (calls_of script thread)) called)) (next_call script thread state) []) fixed in
    let in_order : AreRising (length script.containers) (wanted script thread state) = rw wants (rising (length script.containers) (innermost_containers state.sections) (innermost_two (length script.containers) state.sections sound.sections_are)) in
    subst (λ w. IsTurned script thread holders state false (finish_tried state (take_locks thread holders w))) wants
    (finish_at script thread holders state (take_locks thread holders (wanted script thread state)).found fixed in_order sound refl)

-- ---- both parts

answer_at : (script : ScriptParts) (thread : ℕ) (holders : List (Option ℕ)) (state : ThreadState) (called : Call) (found : Option ℕ)
    → state.fixed ≡ false
    → next_call script thread state ≡ Some called
    → AreTwo (length script.containers) (containers_of called)
    → AreRising (length script.containers) (wanted script thread state)
    → IsSound script thread holders state
    → (take_locks thread holders (wanted script thread state)).found ≡ found
    → (first : TryOutcome)
    → first ≡ option_map_or (tried_in_vain state (take_locks thread holders (wanted script thread state))) found (record { holders = let_go (take_locks thread holders (wanted script thread state)).holders (lets_go called (state.own ++ (take_locks thread holders (wanted script thread state)).taken) state.sections); state = answered_thread (with_locking state (take_locks thread holders (wanted script thread state))) called; done = true })
    → IsTurned script thread holders state first.done (finish_part thread first)
answer_at script thread holders state called None unfixed next two in_order sound is first first_is =
    let locking = take_locks thread holders (wanted script thread state) in
    let after = answered_thread (with_locking state locking) called in
    let left = let_go locking.holders (lets_go called (state.own ++ locking.taken) state.sections) in
    let done = answer_sound script thread holders state called unfixed next two in_order sound in
    let last = finish_stage script thread left after refl done.0 in
    let both : IsTurned script thread holders state true (finish_tried after (take_locks thread left (lower_first (innermost_containers after.sections)))) =
    record { sound = last.sound; apart = apart_twice thread holders left _ done.1 last.apart; quiet = λ a b. absurd (let e : true ≡ false = a in cc) } in
    rw first_is both
answer_at script thread holders state called (Some other) unfixed next two in_order sound is first first_is =
    let locking = take_locks thread holders (wanted script thread state) in
    let waits = wait_sound script thread holders state other in_order sound is in
    let vain = tried_in_vain state locking other in
    let kept : finish_part thread vain ≡ not_tried vain.holders vain.state = ap (λ b. if b then finish_tried vain.state (take_locks thread vain.holders (lower_first (innermost_containers vain.state.sections))) else not_tried vain.holders vain.state) unfixed in
    let both : IsTurned script thread holders state false (not_tried vain.holders vain.state) = record { sound = waits.0; apart = waits.1; quiet = λ a b. waits.2 } in
    rw (first_is, kept) both

-- where the answer is fixed or not
turned_at : (fixed : Bool) (script : ScriptParts) (thread : ℕ) (holders : List (Option ℕ)) (state : ThreadState) (called : Call)
    → state.fixed ≡ fixed
    → next_call script thread state ≡ Some called
    → AreTwo (length script.containers) (containers_of called)
    → AreTwo (length script.containers) (locks_taken (take (length state.marks) (calls_of script thread)) called)
    → IsSound script thread holders state
    → (first : TryOutcome)
    → first ≡ (if fixed then not_tried holders state else answer_tried state called (take_locks thread holders (lower_first (locks_taken (take (length state.marks) (calls_of script thread)) called))))
    → IsTurned script thread holders state first.done (finish_part thread first)
turned_at true script thread holders state called fixed next two taken_two sound first first_is =
    let last = finish_stage script thread holders state fixed sound in
    let kept : finish_part thread (not_tried holders state) ≡ finish_tried state (take_locks thread holders (lower_first (innermost_containers state.sections))) = ap (λ b. if b then finish_tried state (take_locks thread holders (lower_first (innermost_containers state.sections))) else not_tried holders state) fixed in
    rw (first_is, kept) last
turned_at false script thread holders state called unfixed next two taken_two sound first first_is =
    let takes = lower_first (locks_taken (take (length state.marks) (calls_of script thread)) called) in
    let wants : wanted script thread state ≡ takes =
    ap (λ b. if b then lower_first (innermost_containers state.sections) else option_map_or (λ called. lower_first (locks_taken (take (length state.marks) (calls_of script thread)) called)) (next_call script thread state) []) unfixed
    ∙ ap (λ o. option_map_or (λ called. lower_first (locks_taken (take (length state.marks) (calls_of script thread)) called)) o []) next in
    let in_order : AreRising (length script.containers) (wanted script thread state) = rw wants (rising (length script.containers) (locks_taken (take (length state.marks) (calls_of script thread)) called) taken_two) in
    answer_at script thread holders state called (take_locks thread holders (wanted script thread state)).found unfixed next two in_order sound refl first (first_is ∙ ap (λ w. answer_tried state called (take_locks thread holders w)) (sym wants))

pub turned_sound : (script : ScriptParts) (thread : ℕ) (holders : List (Option ℕ)) (state : ThreadState) (called : Call)
    → next_call script thread state ≡ Some called
    → AreTwo (length script.containers) (containers_of called)
    → AreTwo (length script.containers) (locks_taken (take (length state.marks) (calls_of script thread)) called)
    → IsSound script thread holders state
    → IsTurned script thread holders state (answer_part thread (take (length state.marks) (calls_of script thread)) called holders state).done (finish_part thread (answer_part thread (take (length state.marks) (calls_of script thread)) called holders state))
turned_sound script thread holders state called next two taken_two sound = turned_at state.fixed script thread holders state called refl next two taken_two sound (answer_part thread (take (length state.marks) (calls_of script thread)) called holders state) refl
