-- A turn whose calls are answered is at most two steps: a call waits, its answer is fixed, or it finishes.
use Rattle.std.proofs.Common.{◌≡◌, ℕ, ◌<◌, Bool, true, false, List, [], ◌∷◌, ◌++◌, length, map, Option, None, Some, refl, sym, ap, subst, ◌∙◌, arith}
use Rattle.std.specs.Prelude.{fold, slice_get, slice_index_or, is_some, if◌then◌else◌, nat_lt}
use Rattle.std.specs.Option.{option_map_or}
use Rattle.std.proofs.lemmas.Bool.{lt-ltb, le-ltb}
use Rattle.std.proofs.lemmas.List.{get_or-set_same, get_or_push, length_push}
use Rattle.ft_model.specs.declared.call.Call.{Call}
use Rattle.ft_model.specs.declared.script.ScriptParts.{ScriptParts}
use Rattle.ft_model.specs.Histories.{calls_of}
use Rattle.ft_turns.specs.Orders.{ThreadState, Machine, Locking, fresh_thread, take_locks, thread_at, next_call, without_locks, waiting_machine, sections_after, answered_machine, with_taken, finished_machine, answer_try, finish_step, finish_try, ready_call}
use Rattle.ft_turns.proofs.TurnParts.{ready_next}
use Rattle.ft_turns.specs.AnsweredTurns.{Progress, has_answered, has_finished, mark_given, with_turn, answered_turn}
use Rattle.ft_turns.proofs.ProgressWords.{with_answer, with_mark}
use Rattle.ft_turns.proofs.MachineSteps.{wanted, wanted_again, IsTry, there, same_marks}

-- what the three steps keep, where a call is answered
pub record IsKeptByAnswers (script : ScriptParts) (Q : Progress → Type 0) : Type 0 where
  pub threads : (progress : Progress) → Q progress → length progress.machine.threads ≡ length script.threads
  pub waits : (progress : Progress) (thread : ℕ) (called : Call) (fixed : Bool) (containers : List ℕ) (found : ℕ)
      → IsTry script progress.machine thread called fixed containers → (take_locks thread progress.machine.holders containers).found ≡ Some found
      → Q progress → Q (record progress { machine = waiting_machine progress.machine thread (thread_at progress.machine thread) (take_locks thread progress.machine.holders containers) found })
  pub answers : (progress : Progress) (thread : ℕ) (called : Call) (containers : List ℕ)
      → IsTry script progress.machine thread called false containers → (take_locks thread progress.machine.holders containers).found ≡ None
      → Q progress → Q (record (with_answer progress thread called) { machine = answered_machine progress.machine thread (thread_at progress.machine thread) called (take_locks thread progress.machine.holders containers) })
  pub finishes : (progress : Progress) (thread : ℕ) (called : Call) (containers : List ℕ)
      → IsTry script progress.machine thread called true containers → (take_locks thread progress.machine.holders containers).found ≡ None
      → Q progress → Q (record (with_mark progress thread called (thread_at progress.machine thread).mark) { machine = finished_machine progress.machine thread (thread_at progress.machine thread) (take_locks thread progress.machine.holders containers) })

same_length : {X : Type 0} (xs ys : List X) → xs ≡ ys → nat_lt (length ys) (length xs) ≡ false
same_length xs ys same = le-ltb (length ys) (length xs) (let e : length xs ≡ length ys = ap length same in omega arith)

longer : {X : Type 0} (xs ys : List X) (x : X) → xs ≡ ys ++ x ∷ [] → nat_lt (length ys) (length xs) ≡ true
longer xs ys x more = lt-ltb (length ys) (length xs) (let e : length xs ≡ length (ys ++ x ∷ []) = ap length more in omega (arith, length_push ys x))

module _ (script : ScriptParts) (Q : Progress → Type 0) (keeps : IsKeptByAnswers script Q) (progress : Progress) (thread : ℕ) (called : Call) (next : next_call script thread (thread_at progress.machine thread) ≡ Some called) (holds : Q progress) where
  abbrev Shown : Machine → Type 0
  Shown after = Q (with_turn progress thread called (has_answered progress.machine after) (has_finished progress.machine after thread) (mark_given progress.machine after thread) after)

  shown : (answered finished : Bool) (waited : Option ℕ) (after : Machine) → has_answered progress.machine after ≡ answered → has_finished progress.machine after thread ≡ finished → mark_given progress.machine after thread ≡ waited → Q (with_turn progress thread called answered finished waited after) → Shown after
  shown answered finished waited after a f w q =
      subst (λ b. Q (with_turn progress thread called b (has_finished progress.machine after thread) (mark_given progress.machine after thread) after)) (sym a)
      (subst (λ b. Q (with_turn progress thread called answered b (mark_given progress.machine after thread) after)) (sym f)
      (subst (λ o. Q (with_turn progress thread called answered finished o after)) (sym w) q))

  low : thread < length progress.machine.threads
  low = omega (arith, there script thread (thread_at progress.machine thread) called next, keeps.threads progress holds)

  -- it waits, before its answer is fixed or after it
  shown_waits : (fixed : Bool) (containers : List ℕ) (found : ℕ) → IsTry script progress.machine thread called fixed containers → (take_locks thread progress.machine.holders containers).found ≡ Some found → Shown (waiting_machine progress.machine thread (thread_at progress.machine thread) (take_locks thread progress.machine.holders containers) found)
  shown_waits fixed containers found try finds =
      let state = thread_at progress.machine thread in
      let locking = take_locks thread progress.machine.holders containers in
      let after : Machine = waiting_machine progress.machine thread state locking found in
      let marks : (thread_at after thread).marks ≡ state.marks = same_marks progress.machine.threads thread (record state { sections = map without_locks state.sections; own = state.own ++ locking.taken; mark = if is_some state.mark then state.mark else Some found }) refl in
      shown false false (mark_given progress.machine after thread) after (same_length progress.machine.answered progress.machine.answered refl) (same_length (thread_at after thread).marks state.marks marks) refl
      (keeps.waits progress thread called fixed containers found try finds holds)

  -- its answer was fixed, and it finishes
  shown_finishes : (thread_at progress.machine thread).fixed ≡ true → (take_locks thread progress.machine.holders (wanted_again progress.machine thread)).found ≡ None → Shown (finished_machine progress.machine thread (thread_at progress.machine thread) (take_locks thread progress.machine.holders (wanted_again progress.machine thread)))
  shown_finishes fixed finds =
      let state = thread_at progress.machine thread in
      let locking = take_locks thread progress.machine.holders (wanted_again progress.machine thread) in
      let after : Machine = finished_machine progress.machine thread state locking in
      let finished : ThreadState = record { marks = state.marks ++ state.mark ∷ []; fixed = false; sections = with_taken (state.own ++ locking.taken) state.sections; own = []; mark = None } in
      let is : thread_at after thread ≡ finished = get_or-set_same progress.machine.threads thread finished fresh_thread low in
      let marks : (thread_at after thread).marks ≡ state.marks ++ state.mark ∷ [] = ap (λ (s : ThreadState). s.marks) is in
      shown false true state.mark after (same_length progress.machine.answered progress.machine.answered refl) (longer (thread_at after thread).marks state.marks state.mark marks)
      (ap (λ ms. slice_index_or ms (length state.marks) None) marks ∙ get_or_push state.marks state.mark None (length state.marks) refl)
      (keeps.finishes progress thread called (wanted_again progress.machine thread) (record { next = next; state = fixed; asks = refl }) finds holds)

  shown_second : (thread_at progress.machine thread).fixed ≡ true → Shown (finish_try progress.machine thread)
  shown_second fixed =
      let state = thread_at progress.machine thread in
      let locking = take_locks thread progress.machine.holders (wanted_again progress.machine thread) in
      subst (λ b. Shown (if b then finish_step progress.machine thread state locking else progress.machine)) (sym fixed)
      (elim locking.found as (λ f. locking.found ≡ f → Shown (option_map_or (waiting_machine progress.machine thread state locking) f (finished_machine progress.machine thread state locking))) [
        | None ↦ λ none. shown_finishes fixed none
        | Some found ↦ λ some. shown_waits true (wanted_again progress.machine thread) found (record { next = next; state = fixed; asks = refl }) some
      ] refl)

  -- its answer is fixed now
  module _ (unfixed : (thread_at progress.machine thread).fixed ≡ false) (finds : (take_locks thread progress.machine.holders (wanted script progress.machine thread called)).found ≡ None) where
    abbrev taken_now : Locking
    taken_now = take_locks thread progress.machine.holders (wanted script progress.machine thread called)

    abbrev answered_state : ThreadState
    answered_state = record (thread_at progress.machine thread) { fixed = true; sections = sections_after called ((thread_at progress.machine thread).own ++ taken_now.taken) (thread_at progress.machine thread).sections; own = [] }

    abbrev machine_answered : Machine
    machine_answered = answered_machine progress.machine thread (thread_at progress.machine thread) called taken_now

    abbrev progress_answered : Progress
    progress_answered = record (with_answer progress thread called) { machine = machine_answered }

    is_answered : thread_at machine_answered thread ≡ answered_state
    is_answered = get_or-set_same progress.machine.threads thread answered_state fresh_thread low

    answered_holds : Q progress_answered
    answered_holds = keeps.answers progress thread called (wanted script progress.machine thread called) (record { next = next; state = unfixed; asks = refl }) finds holds

    fixed_now : (thread_at machine_answered thread).fixed ≡ true
    fixed_now = ap (λ (s : ThreadState). s.fixed) is_answered

    same_now : (thread_at machine_answered thread).marks ≡ (thread_at progress.machine thread).marks
    same_now = ap (λ (s : ThreadState). s.marks) is_answered

    next_now : next_call script thread (thread_at machine_answered thread) ≡ Some called
    next_now = ap (λ (ms : List (Option ℕ)). slice_get (calls_of script thread) (length ms)) same_now ∙ next

    low_now : thread < length machine_answered.threads
    low_now = omega (arith, there script thread (thread_at machine_answered thread) called next_now, keeps.threads progress_answered answered_holds)

    abbrev taken_again : Locking
    taken_again = take_locks thread machine_answered.holders (wanted_again machine_answered thread)

    more_answered : nat_lt (length progress.machine.answered) (length machine_answered.answered) ≡ true
    more_answered = longer machine_answered.answered progress.machine.answered (thread, length (thread_at progress.machine thread).marks) refl

    then_waits : (found : ℕ) → taken_again.found ≡ Some found → Shown (waiting_machine machine_answered thread (thread_at machine_answered thread) taken_again found)
    then_waits found again =
        let state = thread_at machine_answered thread in
        let after : Machine = waiting_machine machine_answered thread state taken_again found in
        let marks : (thread_at after thread).marks ≡ state.marks = same_marks machine_answered.threads thread (record state { sections = map without_locks state.sections; own = state.own ++ taken_again.taken; mark = if is_some state.mark then state.mark else Some found }) refl in
        shown true false (mark_given progress.machine after thread) after more_answered (same_length (thread_at after thread).marks (thread_at progress.machine thread).marks (marks ∙ same_now)) refl
        (keeps.waits progress_answered thread called true (wanted_again machine_answered thread) found (record { next = next_now; state = fixed_now; asks = refl }) again answered_holds)

    then_finishes : taken_again.found ≡ None → Shown (finished_machine machine_answered thread (thread_at machine_answered thread) taken_again)
    then_finishes again =
        let state = thread_at machine_answered thread in
        let after : Machine = finished_machine machine_answered thread state taken_again in
        let finished : ThreadState = record { marks = state.marks ++ state.mark ∷ []; fixed = false; sections = with_taken (state.own ++ taken_again.taken) state.sections; own = []; mark = None } in
        let is : thread_at after thread ≡ finished = get_or-set_same machine_answered.threads thread finished fresh_thread low_now in
        let before = (thread_at progress.machine thread).marks in
        let marks : (thread_at after thread).marks ≡ before ++ state.mark ∷ [] = ap (λ (s : ThreadState). s.marks) is ∙ ap (λ (ms : List (Option ℕ)). ms ++ state.mark ∷ []) same_now in
        shown true true state.mark after more_answered (longer (thread_at after thread).marks before state.mark marks)
        (ap (λ ms. slice_index_or ms (length before) None) marks ∙ get_or_push before state.mark None (length before) refl)
        (keeps.finishes progress_answered thread called (wanted_again machine_answered thread) (record { next = next_now; state = fixed_now; asks = refl }) again answered_holds)

    shown_answers : Shown (finish_try machine_answered thread)
    shown_answers =
        let state = thread_at machine_answered thread in
        subst (λ b. Shown (if b then finish_step machine_answered thread state taken_again else machine_answered)) (sym fixed_now)
        (elim taken_again.found as (λ f. taken_again.found ≡ f → Shown (option_map_or (waiting_machine machine_answered thread state taken_again) f (finished_machine machine_answered thread state taken_again))) [
          | None ↦ λ none. then_finishes none
          | Some found ↦ λ some. then_waits found some
        ] refl)

  shown_first : (thread_at progress.machine thread).fixed ≡ false → Shown (finish_try (answer_try script progress.machine thread (thread_at progress.machine thread) called) thread)
  shown_first unfixed =
      let state = thread_at progress.machine thread in
      let locking = take_locks thread progress.machine.holders (wanted script progress.machine thread called) in
      elim locking.found as (λ f. locking.found ≡ f → Shown (finish_try (option_map_or (waiting_machine progress.machine thread state locking) f (answered_machine progress.machine thread state called locking)) thread)) [
        | None ↦ λ none. shown_answers unfixed none
        | Some found ↦ λ some.
            (let after : Machine = waiting_machine progress.machine thread state locking found in
            let waited : ThreadState = record state { sections = map without_locks state.sections; own = state.own ++ locking.taken; mark = if is_some state.mark then state.mark else Some found } in
            let still : (thread_at after thread).fixed ≡ false = ap (λ (s : ThreadState). s.fixed) (get_or-set_same progress.machine.threads thread waited fresh_thread low) ∙ unfixed in
            subst (λ b. Shown (if b then finish_step after thread (thread_at after thread) (take_locks thread after.holders (wanted_again after thread)) else after)) (sym still)
            (shown_waits false (wanted script progress.machine thread called) found (record { next = next; state = unfixed; asks = refl }) some))
      ] refl

module _ (script : ScriptParts) (Q : Progress → Type 0) (keeps : IsKeptByAnswers script Q) where
  pub answered_turn_keeps : (progress : Progress) (thread : ℕ) → Q progress → Q (answered_turn script progress thread)
  answered_turn_keeps progress thread holds =
      let machine = progress.machine in
      let state = thread_at machine thread in
      let turned : Option Call → Machine = λ o. option_map_or (λ called. finish_try (if state.fixed then machine else answer_try script machine thread state called) thread) o machine in
      elim (ready_call script machine thread) as (λ o. ready_call script machine thread ≡ o → Q (option_map_or (λ called. with_turn progress thread called (has_answered machine (turned o)) (has_finished machine (turned o) thread) (mark_given machine (turned o) thread) (turned o)) o progress)) [
        | None ↦ λ none. holds
        | Some called ↦ λ ready.
            let next = ready_next script machine thread called ready in
            elim state.fixed as (λ b. state.fixed ≡ b → Shown script Q keeps progress thread called next holds (finish_try (if b then machine else answer_try script machine thread state called) thread)) [
              | true ↦ λ fixed. shown_second script Q keeps progress thread called next holds fixed
              | false ↦ λ unfixed. shown_first script Q keeps progress thread called next holds unfixed
            ] refl
      ] refl

  pub answered_turns_keep : (progress : Progress) (turns : List ℕ) → Q progress → Q (fold (answered_turn script) progress turns)
  answered_turns_keep progress [] holds = holds
  answered_turns_keep progress (thread ∷ turns) holds = answered_turns_keep (answered_turn script progress thread) turns (answered_turn_keeps progress thread holds)
