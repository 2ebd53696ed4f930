-- What a machine says stays so in the machines that come of it: the calls whose answers are fixed, and the marks.
use Rattle.std.proofs.Common.{◌≡◌, ℕ, ◌<◌, Bool, true, false, List, [], ◌∷◌, ◌++◌, length, map, get_or, Option, None, Some, refl, sym, subst, ◌∙◌, arith, inl, inr}
use Rattle.std.specs.Prelude.{slice_get, slice_set, slice_index_or, is_some, if◌then◌else◌}
use Rattle.std.proofs.lemmas.Bool.{cases_eq}
use Rattle.std.proofs.lemmas.Option.{none-some, slice_get_within}
use Rattle.std.proofs.lemmas.List.{get_or-set_same, get_or-set_other, get_or_append_left, get_or_push, length_push}
use Rattle.ft_model.specs.declared.call.Call.{Call}
use Rattle.ft_model.specs.declared.script.ScriptParts.{ScriptParts}
use Rattle.ft_history.proofs.HistoryPlaces.{slice_get_left}
use Rattle.ft_turns.specs.Orders.{ThreadState, Machine, fresh_thread, take_locks, thread_at, without_locks, waiting_machine, sections_after, answered_machine, with_taken, finished_machine}
use Rattle.ft_turns.proofs.MachineSteps.{IsTry, there}
use Rattle.ft_turns.proofs.LocksOnce.{IsOwned}
use Rattle.ft_turns.proofs.Marks.{mark_at, push_none, mark_cases}

-- these are the calls in the order in which their answers are fixed, and their marks, as far as the machine has come
pub record IsFollowed (events : List (ℕ × ℕ)) (mark_of : ℕ → ℕ → Option ℕ) (machine : Machine) : Type 0 where
  pub answered : (place : ℕ) (event : ℕ × ℕ) → slice_get machine.answered place ≡ Some event → slice_get events place ≡ Some event
  pub marks : (thread index who : ℕ) → mark_at (thread_at machine thread) index ≡ Some who → mark_of thread index ≡ Some who
  pub finished : (thread index : ℕ) → index < length (thread_at machine thread).marks → mark_at (thread_at machine thread) index ≡ mark_of thread index

-- what holds of each thread held before one got its new state
back : (Q : ℕ → ThreadState → Type 0) (threads : List ThreadState) (thread : ℕ) (state : ThreadState) → thread < length threads → (Q thread state → Q thread (slice_index_or threads thread fresh_thread)) → ((other : ℕ) → Q other (slice_index_or (slice_set threads thread state) other fresh_thread)) → (other : ℕ) → Q other (slice_index_or threads other fresh_thread)
back Q threads thread state low mine all other =
    elim (cases_eq other thread) [
      | inl same ↦ subst (λ u. Q u (get_or threads u fresh_thread)) (sym same) (mine (subst (Q thread) (get_or-set_same threads thread state fresh_thread low) (all thread)))
      | inr differs ↦ subst (Q other) (get_or-set_other threads thread other state fresh_thread differs) (all other)
    ]

below_push : (marks : List (Option ℕ)) (mark other : Option ℕ) (index : ℕ) → index < length marks → slice_index_or (marks ++ mark ∷ []) index None ≡ slice_index_or (marks ++ other ∷ []) index None
below_push marks mark other index low = get_or_append_left marks (mark ∷ []) None index low ∙ sym (get_or_append_left marks (other ∷ []) None index low)

module _ (script : ScriptParts) (events : List (ℕ × ℕ)) (mark_of : ℕ → ℕ → Option ℕ) (machine : Machine) (thread : ℕ) (called : Call) (fixed : Bool) (containers : List ℕ) (try : IsTry script machine thread called fixed containers) (inv : IsOwned script machine) where
  abbrev state : ThreadState
  state = thread_at machine thread

  low : thread < length machine.threads
  low = omega (arith, there script thread (thread_at machine thread) called try.next, inv.threads)

  pub followed_waits : (found : ℕ) → IsFollowed events mark_of (waiting_machine machine thread (thread_at machine thread) (take_locks thread machine.holders containers) found) → IsFollowed events mark_of machine
  followed_waits found follows =
      let locking = take_locks thread machine.holders containers in
      let now = thread_at machine thread in
      let mark : Option ℕ = if is_some now.mark then now.mark else Some found in
      let after : ThreadState = record now { sections = map without_locks now.sections; own = now.own ++ locking.taken; mark = if is_some now.mark then now.mark else Some found } in
      record {
        answered = follows.answered;
        marks = back (λ u s. (index who : ℕ) → mark_at s index ≡ Some who → mark_of u index ≡ Some who) machine.threads thread after low
            (λ all index who marked. all index who (elim (mark_cases now.marks now.mark index) [
              | inl last ↦
                  get_or_push now.marks mark None index (sym last.0) ∙ elim now.mark as (λ m. m ≡ Some who → (if is_some m then m else Some found) ≡ Some who) [
                    | None ↦ λ none. absurd (none-some who none)
                    | Some first ↦ λ some. some
                  ] (sym last.1 ∙ marked)
              | inr before ↦ before mark ∙ marked
            ])) follows.marks;
        finished = back (λ u s. (index : ℕ) → index < length s.marks → mark_at s index ≡ mark_of u index) machine.threads thread after low
            (λ all index below. below_push now.marks now.mark mark index below ∙ all index below) follows.finished;
      }

  pub followed_answers : IsFollowed events mark_of (answered_machine machine thread (thread_at machine thread) called (take_locks thread machine.holders containers)) → IsFollowed events mark_of machine
  followed_answers follows =
      let locking = take_locks thread machine.holders containers in
      let now = thread_at machine thread in
      let after : ThreadState = record now { fixed = true; sections = sections_after called (now.own ++ locking.taken) now.sections; own = [] } in
      record {
        answered = λ place event at. follows.answered place event (slice_get_left machine.answered ((thread, length now.marks) ∷ []) place (slice_get_within machine.answered place event at) ∙ at);
        marks = back (λ u s. (index who : ℕ) → mark_at s index ≡ Some who → mark_of u index ≡ Some who) machine.threads thread after low (λ all. all) follows.marks;
        finished = back (λ u s. (index : ℕ) → index < length s.marks → mark_at s index ≡ mark_of u index) machine.threads thread after low (λ all. all) follows.finished;
      }

  pub followed_finishes : IsFollowed events mark_of (finished_machine machine thread (thread_at machine thread) (take_locks thread machine.holders containers)) → IsFollowed events mark_of machine
  followed_finishes follows =
      let locking = take_locks thread machine.holders containers in
      let now = thread_at machine thread in
      let after : ThreadState = record { marks = now.marks ++ now.mark ∷ []; fixed = false; sections = with_taken (now.own ++ locking.taken) now.sections; own = []; mark = None } in
      record {
        answered = follows.answered;
        marks = back (λ u s. (index who : ℕ) → mark_at s index ≡ Some who → mark_of u index ≡ Some who) machine.threads thread after low
            (λ all index who marked. all index who (push_none (now.marks ++ now.mark ∷ []) index ∙ marked)) follows.marks;
        finished = back (λ u s. (index : ℕ) → index < length s.marks → mark_at s index ≡ mark_of u index) machine.threads thread after low
            (λ all index below. sym (push_none (now.marks ++ now.mark ∷ []) index) ∙ all index (omega (arith, length_push now.marks now.mark))) follows.finished;
      }

  -- and of the call that finishes its mark is the one that it has now
  pub followed_mark : IsFollowed events mark_of (finished_machine machine thread (thread_at machine thread) (take_locks thread machine.holders containers)) → mark_of thread (length (thread_at machine thread).marks) ≡ (thread_at machine thread).mark
  followed_mark follows =
      let locking = take_locks thread machine.holders containers in
      let now = thread_at machine thread in
      let after : ThreadState = record { marks = now.marks ++ now.mark ∷ []; fixed = false; sections = with_taken (now.own ++ locking.taken) now.sections; own = []; mark = None } in
      let is : slice_index_or (slice_set machine.threads thread after) thread fresh_thread ≡ after = get_or-set_same machine.threads thread after fresh_thread low in
      let all : (index : ℕ) → index < length after.marks → mark_at after index ≡ mark_of thread index = subst (λ (s : ThreadState). (index : ℕ) → index < length s.marks → mark_at s index ≡ mark_of thread index) is (follows.finished thread) in
      sym (all (length now.marks) (omega (arith, length_push now.marks now.mark))) ∙ push_none (now.marks ++ now.mark ∷ []) (length now.marks) ∙ get_or_push now.marks now.mark None (length now.marks) refl
