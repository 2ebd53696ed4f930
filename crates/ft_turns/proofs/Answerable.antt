-- What the answers to a script's turns are asked with: each thread has its hands and its tally, which counts no more than its calls.
use Rattle.std.proofs.Common.{◌≡◌, ℕ, ◌+◌, ◌<◌, ◌≤◌, true, false, zero, suc, List, [], ◌∷◌, ◌++◌, length, map, sum, Option, None, Some, refl, sym, subst, arith}
use Rattle.std.specs.Prelude.{fold, slice_get, slice_set, slice_index_or, is_some, if◌then◌else◌}
use Rattle.std.specs.Option.{option_map_or}
use Rattle.std.proofs.lemmas.Option.{slice_get_within}
use Rattle.std.proofs.lemmas.List.{length_push, get_or-set_same, get_or-set_other}
use Rattle.std.proofs.lemmas.List.Sums.{sum_by_from}
use Rattle.ft_model.specs.declared.call.Call.{Call}
use Rattle.ft_model.specs.declared.call.Call.TheVariants as call
use Rattle.ft_model.specs.declared.script.ScriptParts.{ScriptParts}
use Rattle.ft_model.specs.declared.script.Thread.{Thread}
use Rattle.ft_model.specs.Scripts.{IsScript}
use Rattle.ft_model.specs.Histories.{calls_of}
use Rattle.ft_turns.specs.Orders.{ThreadState, take_locks, thread_at, next_call, without_locks, sections_after, with_taken}
use Rattle.ft_turns.specs.Chronicling.{IsAnswerable}
use Rattle.ft_turns.specs.AnsweredTurns.{Tally, hands_in, no_tally, noted_after, tally_after, Progress, start_progress, answered_turn}
use Rattle.ft_turns.proofs.ProgressWords.{tally_of}
use Rattle.ft_turns.proofs.MachineSteps.{there}
use Rattle.ft_turns.proofs.LocksOnce.{by_thread}
use Rattle.ft_turns.proofs.AnsweringSteps.{IsKeptByAnswers, answered_turns_keep}
use Rattle.ft_turns.proofs.Going.{IsGoing, CallsOf, thread_low, going_waits, going_answers, going_finishes, going_start, tally_at_start}
use Rattle.ft_turns.proofs.Chronicled.{calls_of_script}
use Rattle.ft_turns.proofs.Askable.{made_of_script, next_declared}
use Rattle.ft_turns.proofs.SerialRoom.{room_now}

-- a tally counts no more than the calls that have finished
abbrev pub AreCounted : Progress → Type 0
AreCounted progress = (thread : ℕ) → (tally_of progress thread).count ≤ length (thread_at progress.machine thread).marks

noted_count : (called : Call) (noted : List ℕ) (count : ℕ) → (noted_after called noted count).count ≡ count
noted_count (call.Begin first second) noted count = refl
noted_count call.End noted count = refl
noted_count (call.Dict container dict_call) noted count = refl
noted_count (call.List container list_call) noted count = refl
noted_count (call.Set container set_call) noted count = refl
noted_count (call.Deque container deque_call) noted count = refl
noted_count (call.Next cursor) noted count = refl
noted_count call.Quiesce noted count = refl
noted_count (call.Await other index) noted count = refl
noted_count call.Dump noted count = refl

mark_counts : (mark : Option ℕ) → (if is_some mark then 1 else 0) ≤ 1
mark_counts None = omega arith
mark_counts (Some who) = omega arith

counted_steps : (script : ScriptParts) → CallsOf script → IsKeptByAnswers script (λ progress. IsGoing script progress × AreCounted progress)
counted_steps script calls_ok =
    record {
      threads = λ progress both. both.0.owned.threads;
      waits = λ progress thread called fixed containers found try finds both.
          (let state = thread_at progress.machine thread in
          let locking = take_locks thread progress.machine.holders containers in
          let after : ThreadState = record state { sections = map without_locks state.sections; own = state.own ++ locking.taken; mark = if is_some state.mark then state.mark else Some found } in (
            going_waits script calls_ok progress thread called fixed containers found try finds both.0,
            by_thread (λ u s. (tally_of progress u).count ≤ length s.marks) progress.machine.threads thread after (omega (arith, there script thread state called try.next, both.0.owned.threads)) (both.1 thread) (λ u differs. both.1 u),
          ));
      answers = λ progress thread called containers try finds both.
          (let state = thread_at progress.machine thread in
          let locking = take_locks thread progress.machine.holders containers in
          let after : ThreadState = record state { fixed = true; sections = sections_after called (state.own ++ locking.taken) state.sections; own = [] } in (
            going_answers script calls_ok progress thread called containers try finds both.0,
            by_thread (λ u s. (tally_of progress u).count ≤ length s.marks) progress.machine.threads thread after (omega (arith, there script thread state called try.next, both.0.owned.threads)) (both.1 thread) (λ u differs. both.1 u),
          ));
      finishes = λ progress thread called containers try finds both.
          (let state = thread_at progress.machine thread in
          let locking = take_locks thread progress.machine.holders containers in
          let after : ThreadState = record { marks = state.marks ++ state.mark ∷ []; fixed = false; sections = with_taken (state.own ++ locking.taken) state.sections; own = []; mark = None } in
          let tally = tally_of progress thread in
          let new : Tally = tally_after tally called state.mark in
          let before : tally.count ≤ length state.marks = both.1 thread in (
            going_finishes script calls_ok progress thread called containers try finds both.0,
            by_thread (λ u s. (slice_index_or (slice_set progress.tallies thread new) u no_tally).count ≤ length s.marks) progress.machine.threads thread after (omega (arith, there script thread state called try.next, both.0.owned.threads))
                (subst (λ (t : Tally). t.count ≤ length (state.marks ++ state.mark ∷ [])) (sym (get_or-set_same progress.tallies thread new no_tally (omega (arith, there script thread state called try.next, both.0.tallies))))
                (omega (arith, noted_count called tally.noted (tally.count + (if is_some state.mark then 1 else 0)), mark_counts state.mark, length_push state.marks state.mark)))
                (λ u differs. subst (λ (t : Tally). t.count ≤ length (thread_at progress.machine u).marks) (sym (get_or-set_other progress.tallies thread u new no_tally differs)) (both.1 u)),
          ));
    }

counted_start : (script : ScriptParts) → AreCounted (start_progress script)
counted_start script thread = subst (λ (t : Tally). t.count ≤ length (thread_at (start_progress script).machine thread).marks) (sym (tally_at_start script thread)) (omega arith)

-- a thread has no more calls than the script
some_calls : (threads : List Thread) (thread : ℕ) → length (option_map_or (λ (found : Thread). found.calls) (slice_get threads thread) []) ≤ sum (map (λ (one : Thread). length one.calls) threads)
some_calls [] thread = omega arith
some_calls (first ∷ threads) zero = omega (arith, sum_by_from (λ n. n) (0 + length first.calls) (map (λ (one : Thread). length one.calls) threads))
some_calls (first ∷ threads) (suc thread) = omega (arith, sum_by_from (λ n. n) (0 + length first.calls) (map (λ (one : Thread). length one.calls) threads), some_calls threads thread)

pub answerable : (script : ScriptParts) → IsScript script → (turns : List ℕ) (thread : ℕ) (called : Call) → next_call script thread (thread_at (fold (answered_turn script) (start_progress script) turns).machine thread) ≡ Some called → IsAnswerable (fold (answered_turn script) (start_progress script) turns) thread called
answerable script rule turns thread called next =
    let progress = fold (answered_turn script) (start_progress script) turns in
    let calls_ok = calls_of_script script rule in
    let both : IsGoing script progress × AreCounted progress = answered_turns_keep script (λ p. IsGoing script p × AreCounted p) (counted_steps script calls_ok) (start_progress script) turns (going_start script, counted_start script) in
    let low : thread < length script.threads = thread_low script calls_ok progress thread called next both.0 in
    let few : length (calls_of script thread) ≤ 500000 = omega (arith, some_calls script.threads thread, rule.few_calls) in
    let left : length (thread_at progress.machine thread).marks < length (calls_of script thread) = slice_get_within (calls_of script thread) (length (thread_at progress.machine thread).marks) called next in
    record {
      hands = omega (arith, low, both.0.hands);
      tally = omega (arith, low, both.0.tallies);
      few = omega (arith, both.1 thread, left, few);
      index = omega (arith, left, few);
      declared = λ unfixed asks. next_declared script calls_ok (made_of_script script rule) progress thread called next unfixed both.0 asks;
      room = λ unfixed asks. room_now script rule calls_ok turns (hands_in progress.answers thread) called (next_declared script calls_ok (made_of_script script rule) progress thread called next unfixed both.0 asks);
    }
