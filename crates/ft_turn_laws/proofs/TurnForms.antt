-- A turn of the machine, by what it comes to.
use Rattle.std.proofs.Common.{◌≡◌, ℕ, ◌<◌, Bool, true, false, length, Option, None, Some, ap, ◌∙◌}
use Rattle.std.specs.Prelude.{if◌then◌else◌}
use Rattle.std.specs.Option.{option_map_or}
use Rattle.std.proofs.lemmas.List.{get_or-set_same}
use Rattle.ft_model.specs.declared.call.Call.{Call}
use Rattle.ft_model.specs.declared.script.ScriptParts.{ScriptParts}
use Rattle.ft_turns.specs.Orders.{Awaited, Locking, Machine, ThreadState, answer_try, answered_machine, answered_thread, finish_step, finish_try, finished_machine, fresh_thread, awaited, awaited_by, is_unfinished, next_call, ready_call, take_locks, thread_at, turn, waiting_machine, waiting_thread, with_locking}
use Rattle.ft_turns.proofs.MachineSteps.{wanted, wanted_again}

-- a call whose answer is fixed awaits nothing
pub ready_fixed : (script : ScriptParts) (machine : Machine) (thread : ℕ) (called : Call) → (thread_at machine thread).fixed ≡ true → next_call script thread (thread_at machine thread) ≡ Some called → ready_call script machine thread ≡ Some called
ready_fixed script machine thread called fixed next =
    ap (λ (b : Bool). if (if b then false else option_map_or (is_unfinished machine) (awaited script thread (length (thread_at machine thread).marks)) false) then None else next_call script thread (thread_at machine thread)) fixed ∙ next

-- and so does one that is no `await`
pub ready_other : (script : ScriptParts) (machine : Machine) (thread : ℕ) (called : Call) → awaited_by called ≡ None → next_call script thread (thread_at machine thread) ≡ Some called → ready_call script machine thread ≡ Some called
ready_other script machine thread called other next =
    let none : awaited script thread (length (thread_at machine thread).marks) ≡ None = ap (λ (o : Option Call). option_map_or awaited_by o None) next ∙ other in
    elim (thread_at machine thread).fixed as (λ b. (if (if b then false else option_map_or (is_unfinished machine) (awaited script thread (length (thread_at machine thread).marks)) false) then None else next_call script thread (thread_at machine thread)) ≡ Some called) [
      | true ↦ next
      | false ↦ ap (λ (o : Option Awaited). if option_map_or (is_unfinished machine) o false then None else next_call script thread (thread_at machine thread)) none ∙ next
    ]

module _ (script : ScriptParts) (machine : Machine) (thread : ℕ) (called : Call) (ready : ready_call script machine thread ≡ Some called) (low : thread < length machine.threads) where
  abbrev state : ThreadState
  state = thread_at machine thread

  abbrev asked : Locking
  asked = take_locks thread machine.holders (wanted script machine thread called)

  abbrev again : Locking
  again = take_locks thread machine.holders (wanted_again machine thread)

  -- the turn of a thread with a call left
  turn_is : (fixed : Bool) → state.fixed ≡ fixed → turn script machine thread ≡ finish_try (if fixed then machine else answer_try script machine thread state called) thread
  turn_is fixed is =
      ap (λ o. option_map_or (λ c. finish_try (if state.fixed then machine else answer_try script machine thread state c) thread) o machine) ready
      ∙ ap (λ b. finish_try (if b then machine else answer_try script machine thread state called) thread) is

  unfinished : (after : Machine) → (thread_at after thread).fixed ≡ false → finish_try after thread ≡ after
  unfinished after is = ap (λ b. if b then finish_step after thread (thread_at after thread) (take_locks thread after.holders (wanted_again after thread)) else after) is

  -- the answer isn't fixed, since another thread has a lock
  pub waits_first : (found : ℕ) → state.fixed ≡ false → asked.found ≡ Some found → turn script machine thread ≡ waiting_machine machine thread state asked found
  waits_first found unfixed finds =
      let after : ThreadState = waiting_thread (with_locking state asked) found in
      turn_is false unfixed
      ∙ (ap (λ f. finish_try (option_map_or (waiting_machine machine thread state asked) f (answered_machine machine thread state called asked)) thread) finds
      ∙ unfinished (waiting_machine machine thread state asked found) (ap (λ (s : ThreadState). s.fixed) (get_or-set_same machine.threads thread after fresh_thread low) ∙ unfixed))

  -- the answer is fixed, and the innermost section is taken up again
  pub answers_first : state.fixed ≡ false → asked.found ≡ None → turn script machine thread ≡ finish_try (answered_machine machine thread state called asked) thread
  answers_first unfixed finds =
      turn_is false unfixed
      ∙ ap (λ f. finish_try (option_map_or (waiting_machine machine thread state asked) f (answered_machine machine thread state called asked)) thread) finds

  -- the thread then
  pub answered_state : thread_at (answered_machine machine thread state called asked) thread ≡ answered_thread (with_locking state asked) called
  answered_state = get_or-set_same machine.threads thread (answered_thread (with_locking state asked) called) fresh_thread low

  pub again_first : state.fixed ≡ true → turn script machine thread ≡ finish_try machine thread
  again_first fixed = turn_is true fixed

module _ (machine : Machine) (thread : ℕ) (fixed : (thread_at machine thread).fixed ≡ true) where
  abbrev taken_up : Locking
  taken_up = take_locks thread machine.holders (wanted_again machine thread)

  tried : finish_try machine thread ≡ finish_step machine thread (thread_at machine thread) taken_up
  tried = ap (λ b. if b then finish_step machine thread (thread_at machine thread) taken_up else machine) fixed

  pub finishes_second : taken_up.found ≡ None → finish_try machine thread ≡ finished_machine machine thread (thread_at machine thread) taken_up
  finishes_second finds =
      tried ∙ ap (λ f. option_map_or (waiting_machine machine thread (thread_at machine thread) taken_up) f (finished_machine machine thread (thread_at machine thread) taken_up)) finds

  pub waits_second : (found : ℕ) → taken_up.found ≡ Some found → finish_try machine thread ≡ waiting_machine machine thread (thread_at machine thread) taken_up found
  waits_second found finds =
      tried ∙ ap (λ f. option_map_or (waiting_machine machine thread (thread_at machine thread) taken_up) f (finished_machine machine thread (thread_at machine thread) taken_up)) finds
