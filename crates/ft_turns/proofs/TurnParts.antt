-- A turn is a try to fix an answer and then a try to finish.
use Rattle.std.proofs.Common.{◌≡◌, ℕ, ◌<◌, Bool, true, false, List, [], ◌++◌, length, set, take, Option, None, Some, refl, sym, ap, ◌∙◌}
use Rattle.std.specs.Prelude.{if◌then◌else◌}
use Rattle.std.specs.Option.{option_map_or}
use Rattle.std.proofs.lemmas.List.{append-nil, set-get_or, set-set, get_or-set_same}
use Rattle.ft_model.specs.declared.call.Call.{Call}
use Rattle.ft_model.specs.declared.script.ScriptParts.{ScriptParts}
use Rattle.ft_model.specs.Histories.{calls_of}
use Rattle.ft_turns.specs.Orders.{ThreadState, Machine, Locking, fresh_thread, lower_first, locks_taken, take_locks, thread_at, next_call, waiting_machine, answered_machine, finished_machine, answer_step, finish_step, answer_try, finish_try, innermost_containers, is_awaiting, ready_call, turn}
use Rattle.ft_turns.specs.Internal.TurnParts.{TryOutcome, not_tried, tried_in_vain, answer_tried, finish_tried, answer_part, finish_part, newly_answered, placed}

same_answered : (machine : Machine) (thread : ℕ) (tried : TryOutcome) → record machine { holders = tried.holders; threads = set machine.threads thread tried.state } ≡ placed machine thread tried []
same_answered machine thread tried =
    let m : List (ℕ × ℕ) → Machine = λ l. record { holders = tried.holders; threads = set machine.threads thread tried.state; answered = l } in
    ap m (sym (append-nil machine.answered))

answer_step_is : (machine : Machine) (thread : ℕ) (state : ThreadState) (called : Call) (locking : Locking) → answer_step machine thread state called locking ≡ placed machine thread (answer_tried state called locking) (newly_answered thread (length state.marks) (answer_tried state called locking).done)
answer_step_is machine thread state called locking =
    elim locking.found as (λ found. option_map_or (waiting_machine machine thread state locking) found (answered_machine machine thread state called locking) ≡ placed machine thread (answer_tried state called (record locking { found = found })) (newly_answered thread (length state.marks) (answer_tried state called (record locking { found = found })).done)) [
      | None ↦ refl
      | Some found ↦ same_answered machine thread (tried_in_vain state locking found)
    ]

first_at : (fixed : Bool) (machine : Machine) (thread : ℕ) (state : ThreadState) (called : Call) (locking : Locking) → state ≡ thread_at machine thread
    → (if fixed then machine else answer_step machine thread state called locking)
    ≡ placed machine thread (if fixed then not_tried machine.holders state else answer_tried state called locking) (newly_answered thread (length state.marks) (if fixed then not_tried machine.holders state else answer_tried state called locking).done)
first_at true machine thread state called locking is =
    let m : List ThreadState → Machine = λ l. record machine { threads = l } in
    let kept : set machine.threads thread state ≡ machine.threads = ap (set machine.threads thread) is ∙ set-get_or machine.threads thread fresh_thread in
    ap m (sym kept) ∙ same_answered machine thread (not_tried machine.holders state)
first_at false machine thread state called locking is = answer_step_is machine thread state called locking

first_part : (script : ScriptParts) (machine : Machine) (thread : ℕ) (state : ThreadState) (called : Call) → state ≡ thread_at machine thread
    → (if state.fixed then machine else answer_try script machine thread state called)
    ≡ placed machine thread (answer_part thread (take (length state.marks) (calls_of script thread)) called machine.holders state) (newly_answered thread (length state.marks) (answer_part thread (take (length state.marks) (calls_of script thread)) called machine.holders state).done)
first_part script machine thread state called is = first_at state.fixed machine thread state called (take_locks thread machine.holders (lower_first (locks_taken (take (length state.marks) (calls_of script thread)) called))) is

finish_step_is : (machine : Machine) (thread : ℕ) (tried : TryOutcome) (more : List (ℕ × ℕ)) (state : ThreadState) (locking : Locking) → finish_step (placed machine thread tried more) thread state locking ≡ placed machine thread (finish_tried state locking) more
finish_step_is machine thread tried more state locking =
    let m : List (Option ℕ) → List ThreadState → Machine = λ h l. record { holders = h; threads = l; answered = machine.answered ++ more } in
    elim locking.found as (λ found. option_map_or (waiting_machine (placed machine thread tried more) thread state locking) found (finished_machine (placed machine thread tried more) thread state locking) ≡ placed machine thread (finish_tried state (record locking { found = found })) more) [
      | None ↦ ap (m _) (set-set machine.threads thread tried.state _)
      | Some found ↦ ap (m _) (set-set machine.threads thread tried.state _)
    ]

second_at : (fixed : Bool) (machine : Machine) (thread : ℕ) (tried : TryOutcome) (more : List (ℕ × ℕ)) (locking : Locking)
    → (if fixed then finish_step (placed machine thread tried more) thread tried.state locking else placed machine thread tried more)
    ≡ placed machine thread (if fixed then finish_tried tried.state locking else not_tried tried.holders tried.state) more
second_at true machine thread tried more locking = finish_step_is machine thread tried more tried.state locking
second_at false machine thread tried more locking = refl

-- a step of a thread that is this one
finish_of : Machine → ℕ → ThreadState → Machine
finish_of machine thread state = if state.fixed then finish_step machine thread state (take_locks thread machine.holders (lower_first (innermost_containers state.sections))) else machine

second_part : (machine : Machine) (thread : ℕ) (tried : TryOutcome) (more : List (ℕ × ℕ)) → thread < length machine.threads → finish_try (placed machine thread tried more) thread ≡ placed machine thread (finish_part thread tried) more
unfolding finish_of
second_part machine thread tried more within =
    ap (finish_of (placed machine thread tried more) thread) (get_or-set_same machine.threads thread tried.state fresh_thread within)
    ∙ second_at tried.state.fixed machine thread tried more (take_locks thread tried.holders (lower_first (innermost_containers tried.state.sections)))

-- the next call, where it is ready
pub ready_next : (script : ScriptParts) (machine : Machine) (thread : ℕ) (called : Call) → ready_call script machine thread ≡ Some called → next_call script thread (thread_at machine thread) ≡ Some called
ready_next script machine thread called ready =
    elim (is_awaiting script machine thread) as (λ b. (if b then None else next_call script thread (thread_at machine thread)) ≡ Some called → next_call script thread (thread_at machine thread) ≡ Some called) [
      | true ↦ λ e. absurd (cc)
      | false ↦ λ e. e
    ] ready

pub ready_none : (script : ScriptParts) (machine : Machine) (thread : ℕ) → next_call script thread (thread_at machine thread) ≡ None → ready_call script machine thread ≡ None
ready_none script machine thread none =
    elim (is_awaiting script machine thread) as (λ b. ◌≡◌ {A = Option Call} (if b then None else next_call script thread (thread_at machine thread)) None) [
      | true ↦ refl
      | false ↦ none
    ]

-- a turn of a thread that is this one, and whose next call is this
turn_of : ScriptParts → Machine → ℕ → ThreadState → Option Call → Machine
turn_of script machine thread state next = option_map_or (λ called. finish_try (if state.fixed then machine else answer_try script machine thread state called) thread) next machine

pub turn_is : (script : ScriptParts) (machine : Machine) (thread : ℕ) (called : Call) → thread < length machine.threads → ready_call script machine thread ≡ Some called
    → turn script machine thread
    ≡ placed machine thread (finish_part thread (answer_part thread (take (length (thread_at machine thread).marks) (calls_of script thread)) called machine.holders (thread_at machine thread))) (newly_answered thread (length (thread_at machine thread).marks) (answer_part thread (take (length (thread_at machine thread).marks) (calls_of script thread)) called machine.holders (thread_at machine thread)).done)
unfolding turn_of
turn_is script machine thread called within next =
    let state = thread_at machine thread in
    ap (turn_of script machine thread state) next
    ∙ (ap (λ m. finish_try m thread) (first_part script machine thread state called refl)
    ∙ second_part machine thread (answer_part thread (take (length state.marks) (calls_of script thread)) called machine.holders state) (newly_answered thread (length state.marks) (answer_part thread (take (length state.marks) (calls_of script thread)) called machine.holders state).done) within)

pub idle_turn : (script : ScriptParts) (machine : Machine) (thread : ℕ) → ready_call script machine thread ≡ None → turn script machine thread ≡ machine
unfolding turn_of
idle_turn script machine thread next = ap (turn_of script machine thread (thread_at machine thread)) next
