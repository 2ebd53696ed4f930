-- A turn is at most two steps of the machine: a call waits, its answer is fixed, or it finishes.
use Rattle.std.proofs.Common.{◌≡◌, ℕ, ◌<◌, Bool, true, false, List, [], ◌∷◌, ◌++◌, length, take, get_or, Option, None, Some, refl, sym, ap, ◌∙◌, inl, inr}
use Rattle.std.specs.Prelude.{fold, slice_get, slice_set, slice_index_or, is_some, map, if◌then◌else◌}
use Rattle.std.specs.Option.{option_map_or}
use Rattle.std.proofs.lemmas.Bool.{cases_lt}
use Rattle.std.proofs.lemmas.List.{get_or-set_same, set_past}
use Rattle.std.proofs.lemmas.Option.{none-some, slice_get_past}
use Rattle.ft_model.specs.declared.script.Thread.{Thread}
use Rattle.ft_model.specs.declared.call.Call.{Call}
use Rattle.ft_model.specs.declared.script.ScriptParts.{ScriptParts}
use Rattle.ft_model.specs.Histories.{calls_of}
use Rattle.ft_turns.specs.Orders.{locks_taken, sections_after, without_locks, lower_first, ThreadState, Machine, fresh_thread, take_locks, thread_at, next_call, waiting_machine, answered_machine, innermost_containers, finished_machine, answer_try, finish_step, finish_try, ready_call, turn}
use Rattle.ft_turns.proofs.TurnParts.{ready_next}

-- the containers whose locks the next call of a thread takes, and those that it takes up again
abbrev pub wanted : ScriptParts → Machine → ℕ → Call → List ℕ
wanted script machine thread called = lower_first (locks_taken (take (length (thread_at machine thread).marks) (calls_of script thread)) called)

abbrev pub wanted_again : Machine → ℕ → List ℕ
wanted_again machine thread = lower_first (innermost_containers (thread_at machine thread).sections)

-- the next call of the thread tries for these locks, before its answer is fixed or after it
pub record IsTry (script : ScriptParts) (machine : Machine) (thread : ℕ) (called : Call) (fixed : Bool) (containers : List ℕ) : Type 0 where
  pub next : next_call script thread (thread_at machine thread) ≡ Some called
  pub state : (thread_at machine thread).fixed ≡ fixed
  pub asks : containers ≡ (if fixed then wanted_again machine thread else wanted script machine thread called)

-- what the three steps keep
pub record IsKeptBySteps (script : ScriptParts) (P : Machine → Type 0) : Type 0 where
  pub waits : (machine : Machine) (thread : ℕ) (called : Call) (fixed : Bool) (containers : List ℕ) (found : ℕ)
      → IsTry script machine thread called fixed containers → (take_locks thread machine.holders containers).found ≡ Some found
      → P machine → P (waiting_machine machine thread (thread_at machine thread) (take_locks thread machine.holders containers) found)
  pub answers : (machine : Machine) (thread : ℕ) (called : Call) (containers : List ℕ)
      → IsTry script machine thread called false containers → (take_locks thread machine.holders containers).found ≡ None
      → P machine → P (answered_machine machine thread (thread_at machine thread) called (take_locks thread machine.holders containers))
  pub finishes : (machine : Machine) (thread : ℕ) (called : Call) (containers : List ℕ)
      → IsTry script machine thread called true containers → (take_locks thread machine.holders containers).found ≡ None
      → P machine → P (finished_machine machine thread (thread_at machine thread) (take_locks thread machine.holders containers))

module _ (script : ScriptParts) (P : Machine → Type 0) (keeps : IsKeptBySteps script P) where
  tries : (machine : Machine) (thread : ℕ) (called : Call) → next_call script thread (thread_at machine thread) ≡ Some called → (thread_at machine thread).fixed ≡ false → P machine → P (answer_try script machine thread (thread_at machine thread) called)
  tries machine thread called next unfixed holds =
      let locking = take_locks thread machine.holders (wanted script machine thread called) in
      elim locking.found as (λ f. locking.found ≡ f → P (option_map_or (waiting_machine machine thread (thread_at machine thread) locking) f (answered_machine machine thread (thread_at machine thread) called locking))) [
        | None ↦ λ none. keeps.answers machine thread called (wanted script machine thread called) (record { next = next; state = unfixed; asks = refl }) none holds
        | Some found ↦ λ some. keeps.waits machine thread called false (wanted script machine thread called) found (record { next = next; state = unfixed; asks = refl }) some holds
      ] refl

  finish : (machine : Machine) (thread : ℕ) (called : Call) → next_call script thread (thread_at machine thread) ≡ Some called → P machine → P (finish_try machine thread)
  finish machine thread called next holds =
      let locking = take_locks thread machine.holders (wanted_again machine thread) in
      elim (thread_at machine thread).fixed as (λ b. (thread_at machine thread).fixed ≡ b → P (if b then finish_step machine thread (thread_at machine thread) locking else machine)) [
        | false ↦ λ unfixed. holds
        | true ↦ λ fixed. elim locking.found as (λ f. locking.found ≡ f → P (option_map_or (waiting_machine machine thread (thread_at machine thread) locking) f (finished_machine machine thread (thread_at machine thread) locking))) [
          | None ↦ λ none. keeps.finishes machine thread called (wanted_again machine thread) (record { next = next; state = fixed; asks = refl }) none holds
          | Some found ↦ λ some. keeps.waits machine thread called true (wanted_again machine thread) found (record { next = next; state = fixed; asks = refl }) some holds
        ] refl
      ] refl

-- a thread that has a next call is one of the script's
pub there : (script : ScriptParts) (thread : ℕ) (state : ThreadState) (called : Call) → next_call script thread state ≡ Some called → thread < length script.threads
there script thread state called next =
    elim (cases_lt thread (length script.threads)) [
      | inl low ↦ low
      | inr high ↦ absurd (none-some called (sym (ap (λ (o : Option Thread). slice_get (option_map_or (λ (found : Thread). found.calls) o []) (length state.marks)) (slice_get_past script.threads thread high)) ∙ next))
    ]

-- a thread that keeps its marks keeps its next call
pub same_marks : (threads : List ThreadState) (thread : ℕ) (state : ThreadState) → state.marks ≡ (slice_index_or threads thread fresh_thread).marks → (slice_index_or (slice_set threads thread state) thread fresh_thread).marks ≡ (slice_index_or threads thread fresh_thread).marks
same_marks threads thread state same =
    elim (cases_lt thread (length threads)) [
      | inl low ↦ ap (λ (s : ThreadState). s.marks) (get_or-set_same threads thread state fresh_thread low) ∙ same
      | inr high ↦ ap (λ (ts : List ThreadState). (get_or ts thread fresh_thread).marks) (set_past threads thread state high)
    ]

module _ (script : ScriptParts) (P : Machine → Type 0) (keeps : IsKeptBySteps script P) where
  abbrev Same : Machine → ℕ → Machine → Type 0
  Same machine thread after = (thread_at after thread).marks ≡ (thread_at machine thread).marks

  pub try_same : (machine : Machine) (thread : ℕ) (called : Call) → Same machine thread (answer_try script machine thread (thread_at machine thread) called)
  try_same machine thread called =
      let state = thread_at machine thread in
      let locking = take_locks thread machine.holders (wanted script machine thread called) in
      elim locking.found as (λ f. Same machine thread (option_map_or (waiting_machine machine thread state locking) f (answered_machine machine thread state called locking))) [
        | None ↦ same_marks machine.threads thread (record state { fixed = true; sections = sections_after called (state.own ++ locking.taken) state.sections; own = [] }) refl
        | Some found ↦ same_marks machine.threads thread (record state { sections = map without_locks state.sections; own = state.own ++ locking.taken; mark = if is_some state.mark then state.mark else Some found }) refl
      ]

  pub turn_keeps : (machine : Machine) (thread : ℕ) → P machine → P (turn script machine thread)
  turn_keeps machine thread holds =
      let state = thread_at machine thread in
      elim (ready_call script machine thread) as (λ o. ready_call script machine thread ≡ o → P (option_map_or (λ called. finish_try (if state.fixed then machine else answer_try script machine thread state called) thread) o machine)) [
        | None ↦ λ none. holds
        | Some called ↦ λ ready.
            let next = ready_next script machine thread called ready in
            elim state.fixed as (λ b. state.fixed ≡ b → P (finish_try (if b then machine else answer_try script machine thread state called) thread)) [
              | true ↦ λ fixed. finish script P keeps machine thread called next holds
              | false ↦ λ unfixed.
                  finish script P keeps (answer_try script machine thread state called) thread called
                  (ap (λ (ms : List (Option ℕ)). slice_get (calls_of script thread) (length ms)) (try_same machine thread called) ∙ next)
                  (tries script P keeps machine thread called next unfixed holds)
            ] refl
      ] refl

  pub turns_keep : (machine : Machine) (turns : List ℕ) → P machine → P (fold (turn script) machine turns)
  turns_keep machine [] holds = holds
  turns_keep machine (thread ∷ turns) holds = turns_keep (turn script machine thread) turns (turn_keeps machine thread holds)
