-- Each thread's entries are its calls in order, so far as their answers are fixed.
use Rattle.std.proofs.Common.{◌≡◌, ℕ, ◌+◌, ◌<◌, ◌≤◌, Bool, true, false, List, [], ◌∷◌, ◌++◌, length, take, map, None, Some, refl, sym, ap, subst, ◌∙◌, arith, cond, inl, inr}
use Rattle.std.specs.Prelude.{slice_get, ◌==◌, is_some, if◌then◌else◌}
use Rattle.std.proofs.lemmas.Bool.{eq-eqb, ne_eqb}
use Rattle.std.proofs.lemmas.Option.{none-some, slice_get_within}
use Rattle.std.proofs.lemmas.List.{length_push, length-append, take-append-le, take_at}
use Rattle.std.proofs.lemmas.List.Elements.{filter-append}
use Rattle.ft_model.specs.declared.call.Call.{Call}
use Rattle.ft_model.specs.declared.entry.Entry.{Entry}
use Rattle.ft_model.specs.declared.script.ScriptParts.{ScriptParts}
use Rattle.ft_model.specs.Histories.{entries_of, calls_of}
use Rattle.ft_turns.specs.Orders.{ThreadState, take_locks, thread_at, without_locks, waiting_machine, sections_after, answered_machine, with_taken, finished_machine}
use Rattle.ft_turns.specs.AnsweredTurns.{Progress, start_progress}
use Rattle.ft_turns.proofs.ProgressWords.{next_entry, with_answer, with_mark}
use Rattle.ft_turns.proofs.MachineSteps.{IsTry, there}
use Rattle.ft_turns.proofs.LocksOnce.{by_thread, start_thread}
use Rattle.ft_turns.proofs.Marks.{count_fixed}
use Rattle.ft_turns.proofs.AnsweringSteps.{IsKeptByAnswers}
use Rattle.ft_turns.proofs.Going.{IsGoing, CallsOf, going_waits, going_answers, going_finishes, slice_get_push}

pub record IsIndexed (script : ScriptParts) (progress : Progress) : Type 0 where
  pub own : (thread : ℕ) → length (entries_of thread progress.entries) ≡ count_fixed (thread_at progress.machine thread)
  pub bound : (thread : ℕ) → count_fixed (thread_at progress.machine thread) ≤ length (calls_of script thread)
  pub index : (place : ℕ) (entry : Entry) → slice_get progress.entries place ≡ Some entry → entry.index ≡ length (entries_of entry.thread (take place progress.entries)) + 1

own_more : (thread : ℕ) (entries : List Entry) (entry : Entry) → length (entries_of thread (entries ++ entry ∷ [])) ≡ length (entries_of thread entries) + (if entry.thread == thread then 1 else 0)
own_more thread entries entry =
    ap length (filter-append (λ (e : Entry). e.thread == thread) entries (entry ∷ []))
    ∙ length-append (entries_of thread entries) (entries_of thread (entry ∷ []))
    ∙ ap (λ k. length (entries_of thread entries) + k) (elim (entry.thread == thread) as (λ b. length (cond b (entry ∷ []) []) ≡ (if b then 1 else 0)) [ true ↦ refl | false ↦ refl ])

module _ (script : ScriptParts) (calls_ok : CallsOf script) where
  indexed_waits : (progress : Progress) (thread : ℕ) (called : Call) (fixed : Bool) (containers : List ℕ) (found : ℕ) → IsTry script progress.machine thread called fixed containers → IsGoing script progress → IsIndexed script progress
      → IsIndexed script (record progress { machine = waiting_machine progress.machine thread (thread_at progress.machine thread) (take_locks thread progress.machine.holders containers) found })
  indexed_waits progress thread called fixed containers found try going inv =
      let machine = progress.machine in
      let state = thread_at machine thread in
      let locking = take_locks thread machine.holders containers in
      let after : ThreadState = record state { sections = map without_locks state.sections; own = state.own ++ locking.taken; mark = if is_some state.mark then state.mark else Some found } in
      let low : thread < length machine.threads = omega (arith, there script thread state called try.next, going.owned.threads) in
      record {
        own = by_thread (λ u s. length (entries_of u progress.entries) ≡ count_fixed s) machine.threads thread after low (inv.own thread) (λ u differs. inv.own u);
        bound = by_thread (λ u s. count_fixed s ≤ length (calls_of script u)) machine.threads thread after low (inv.bound thread) (λ u differs. inv.bound u);
        index = inv.index;
      }

  indexed_finishes : (progress : Progress) (thread : ℕ) (called : Call) (containers : List ℕ) → IsTry script progress.machine thread called true containers → IsGoing script progress → IsIndexed script progress
      → IsIndexed script (record (with_mark progress thread called (thread_at progress.machine thread).mark) { machine = finished_machine progress.machine thread (thread_at progress.machine thread) (take_locks thread progress.machine.holders containers) })
  indexed_finishes progress thread called containers try going inv =
      let machine = progress.machine in
      let state = thread_at machine thread in
      let locking = take_locks thread machine.holders containers in
      let after : ThreadState = record { marks = state.marks ++ state.mark ∷ []; fixed = false; sections = with_taken (state.own ++ locking.taken) state.sections; own = []; mark = None } in
      let low : thread < length machine.threads = omega (arith, there script thread state called try.next, going.owned.threads) in
      let same : count_fixed state ≡ length (state.marks ++ state.mark ∷ []) + 0 = ap (λ b. length state.marks + (if b then 1 else 0)) try.state ∙ (let e : length state.marks + 1 ≡ length (state.marks ++ state.mark ∷ []) + 0 = omega (arith, length_push state.marks state.mark) in e) in
      record {
        own = by_thread (λ u s. length (entries_of u progress.entries) ≡ count_fixed s) machine.threads thread after low (inv.own thread ∙ same) (λ u differs. inv.own u);
        bound = by_thread (λ u s. count_fixed s ≤ length (calls_of script u)) machine.threads thread after low (subst (λ k. k ≤ length (calls_of script thread)) same (inv.bound thread)) (λ u differs. inv.bound u);
        index = inv.index;
      }

  indexed_answers : (progress : Progress) (thread : ℕ) (called : Call) (containers : List ℕ) → IsTry script progress.machine thread called false containers → IsGoing script progress → IsIndexed script progress
      → IsIndexed script (record (with_answer progress thread called) { machine = answered_machine progress.machine thread (thread_at progress.machine thread) called (take_locks thread progress.machine.holders containers) })
  indexed_answers progress thread called containers try going inv =
      let machine = progress.machine in
      let state = thread_at machine thread in
      let locking = take_locks thread machine.holders containers in
      let entry = next_entry progress thread called in
      let after : ThreadState = record state { fixed = true; sections = sections_after called (state.own ++ locking.taken) state.sections; own = [] } in
      let low : thread < length machine.threads = omega (arith, there script thread state called try.next, going.owned.threads) in
      let so_far : length (entries_of thread progress.entries) ≡ length state.marks + 0 = inv.own thread ∙ ap (λ b. length state.marks + (if b then 1 else 0)) try.state in
      record {
        own = by_thread (λ u s. length (entries_of u (progress.entries ++ entry ∷ [])) ≡ count_fixed s) machine.threads thread after low
            (own_more thread progress.entries entry ∙ ap (λ b. length (entries_of thread progress.entries) + (if b then 1 else 0)) (eq-eqb thread thread refl) ∙ (let e : length (entries_of thread progress.entries) + 1 ≡ length state.marks + 1 = omega arith in e))
            (λ u differs. own_more u progress.entries entry ∙ ap (λ b. length (entries_of u progress.entries) + (if b then 1 else 0)) (ne_eqb thread u (λ e. differs (sym e))) ∙ (let e : length (entries_of u progress.entries) + 0 ≡ length (entries_of u progress.entries) = omega arith in e) ∙ inv.own u);
        bound = by_thread (λ u s. count_fixed s ≤ length (calls_of script u)) machine.threads thread after low
            (let w : length state.marks < length (calls_of script thread) = slice_get_within (calls_of script thread) (length state.marks) called try.next in let e : length state.marks + 1 ≤ length (calls_of script thread) = omega arith in e) (λ u differs. inv.bound u);
        index = λ place e at. elim (slice_get_push progress.entries entry e place at) [
          | inl earlier ↦
              inv.index place e earlier ∙ ap (λ es. length (entries_of e.thread es) + 1) (sym (take-append-le place progress.entries (entry ∷ []) (let w = slice_get_within progress.entries place e earlier in omega arith)))
          | inr last ↦
              subst (λ (f : Entry). f.index ≡ length (entries_of f.thread (take place (progress.entries ++ entry ∷ []))) + 1) last.1
              ((let e : length state.marks + 1 ≡ length (entries_of thread progress.entries) + 1 = omega arith in e)
              ∙ ap (λ es. length (entries_of thread es) + 1) (sym (take_at progress.entries (entry ∷ []) place (sym last.0))))
        ];
      }

  pub indexed_steps : IsKeptByAnswers script (λ progress. IsGoing script progress × IsIndexed script progress)
  indexed_steps =
      record {
        threads = λ progress both. both.0.owned.threads;
        waits = λ progress thread called fixed containers found try finds both. (going_waits script calls_ok progress thread called fixed containers found try finds both.0, indexed_waits progress thread called fixed containers found try both.0 both.1);
        answers = λ progress thread called containers try finds both. (going_answers script calls_ok progress thread called containers try finds both.0, indexed_answers progress thread called containers try both.0 both.1);
        finishes = λ progress thread called containers try finds both. (going_finishes script calls_ok progress thread called containers try finds both.0, indexed_finishes progress thread called containers try both.0 both.1);
      }

  pub indexed_start : IsIndexed script (start_progress script)
  indexed_start =
      record {
        own = λ thread. ap (λ (s : ThreadState). count_fixed s) (sym (start_thread script thread));
        bound = λ thread. subst (λ (s : ThreadState). count_fixed s ≤ length (calls_of script thread)) (sym (start_thread script thread)) (omega arith);
        index = λ place entry at. absurd (none-some entry at);
      }
