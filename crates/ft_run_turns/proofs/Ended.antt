-- Threads that have made all their calls, and callers that are taken in.
use Rattle.std.proofs.Common.{◌≡◌, ℕ, suc, ◌+◌, ◌<◌, ◌≤◌, true, List, [], ◌∷◌, ◌++◌, length, map, Option, Some, refl, sym, ap, subst, ◌∙◌, arith}
use Rattle.std.specs.Prelude.{fold, slice_get}
use Rattle.std.proofs.lemmas.List.{take_all}
use Rattle.ft_model.specs.declared.entry.Entry.{Entry}
use Rattle.ft_model.specs.declared.script.ScriptParts.{ScriptParts}
use Rattle.ft_model.specs.Histories.{calls_of}
use Rattle.ft_model.specs.Scripts.{IsScript}
use Rattle.ft_trace.specs.Boxes.{HasMergedBoxes}
use Rattle.ft_trace.specs.declared.View.{View}
use Rattle.ft_trace.specs.Acts.{announces}
use Rattle.ft_bank.specs.Passes.{view}
use Rattle.ft_bank.specs.PassSections.{Stack, stack_of}
use Rattle.ft_engine.specs.declared.caller.Caller.{Caller}
use Rattle.ft_engine.specs.declared.engine.Engine.{Engine}
use Rattle.ft_engine.specs.Callers.{IsCallerOf, IsIdle, pass_of, thread_of, taken_of}
use Rattle.ft_engine.specs.DoneCallers.{WereAnswered}
use Rattle.ft_engine.specs.Flights.{IsFlightAnswered}
use Rattle.ft_engine.specs.Resting.{IsAsBefore, IsRestDone, RestsAs, rests_in}
use Rattle.ft_run_threads.specs.declared.workers.Worker.{Worker}
use Rattle.ft_run_threads.specs.Workers.{HasTakenIn, HasWorked}
use Rattle.ft_run_threads.proofs.ScriptFacts.{ends_level}
use Rattle.ft_run_threads.proofs.Between.{no_sections}
use Rattle.ft_run_threads.proofs.ThreadDepths.{depth_unanswered, step_depth}
use Rattle.ft_run_threads.proofs.WholeLists.{first_taken, next_taken}
use Rattle.ft_run_threads.proofs.WorkerLemmas.{last_next}
use Rattle.ft_run_turns.specs.declared.seats.Seat.{Seat}
use Rattle.ft_run_turns.specs.Internal.CallerSeats.{AreEndSeats, AreSeats, SeatsHaveMadeAll, IsBetweenTurns, IsEndSeat, IsSeatOf}
use Rattle.ft_run_turns.proofs.Seated.{woken_between}
use Rattle.ft_engine.specs.Presences.{WereOnline}

-- a thread with no call left is a worker that is done
abbrev pub worker_of : Caller → Seat → Worker
worker_of c s = record { caller = c; entries = s.entries; done = true }

pub end_worked : (e : Engine) (script : ScriptParts) (i : ℕ) (c : Caller) (s : Seat) → IsScript script → IsBetweenTurns e script i c s.entries.items → length (calls_of script i) ≤ length s.entries.items → HasWorked e script i (worker_of c s)
end_worked e script i c s rule is all =
    let mine = s.entries.items in
    let made : map (λ (entry : Entry). entry.call) mine ≡ calls_of script i = is.made ∙ take_all (length mine) (calls_of script i) all in
    let idle = (is.done all).0 in
    let unanswered : IsFlightAnswered c.flight → ⊥ = λ answered. subst IsFlightAnswered idle answered in
    let depth : length (stack_of (pass_of c)).sections ≡ 0 = depth_unanswered c mine unanswered is.kept ∙ (ap (fold step_depth 0) made ∙ ends_level script i rule) in
    record {
      member = is.member;
      done = λ _. record { idle = idle; sections = no_sections (stack_of (pass_of c)).sections depth; offline = (is.done all).1; merged = (is.done all).3 };
      kept = λ _. is.kept;
      made = λ _. made;
      online = λ _. (is.done all).2;
    }

ends_from : (e : Engine) (script : ScriptParts) (from : ℕ) (seats : List (Option Seat)) → ((thread : ℕ) → thread < length seats → (s : Seat) × (slice_get seats thread ≡ Some (Some s)) × IsEndSeat e script (from + thread) (Some s))
    → AreEndSeats e script from seats
ends_from e script from [] each = tt
ends_from e script from (seat ∷ seats) each = (
  (let first = each 0 (omega arith) in
      let same : seat ≡ Some first.0 = let at : Some seat ≡ Some (Some first.0) = first.1 in cc in
      subst (IsEndSeat e script from) (sym same) (subst (λ n. IsEndSeat e script n (Some first.0)) (let n : from + 0 ≡ from = omega arith in n) first.2)),
  ends_from e script (suc from) seats
      (λ thread low.
      let one = each (suc thread) (omega (arith, low)) in
      (one.0, one.1, subst (λ n. IsEndSeat e script n (Some one.0)) (let n : from + suc thread ≡ suc from + thread = omega arith in n) one.2)),
)

pub ends : (e : Engine) (script : ScriptParts) (seats : List (Option Seat)) → AreSeats e script seats → SeatsHaveMadeAll script seats → AreEndSeats e script 0 seats
ends e script seats are all =
    ends_from e script 0 seats
    (λ thread low.
    let one = are thread low in
    (one.0, one.1, subst (λ n. IsEndSeat e script n (Some one.0)) (let same : thread ≡ 0 + thread = omega arith in same) (one.2, all thread one.0 one.1)))

-- ---- the first thread

pub first_in : (e : Engine) (script : ScriptParts) (d : Caller) (s : Seat) → IsScript script → (is : IsSeatOf e script 0 s) → length (calls_of script 0) ≤ length s.entries.items → IsAsBefore is.caller d → IsCallerOf e d → HasTakenIn e script d (s.entries.items ∷ [])
first_in e script d s rule is all before caller = first_taken e script (worker_of d s) (end_worked e script 0 d s rule (woken_between e script 0 is.caller d s.entries.items is.between before caller) all) refl

-- ---- a thread is taken in

pub end_rest : (e : Engine) (script : ScriptParts) (i : ℕ) (s : Seat) → IsScript script → IsSeatOf e script i s → length (calls_of script i) ≤ length s.entries.items → IsRestDone s.caller
end_rest e script i s rule is all =
    let done = (end_worked e script i is.caller s rule is.between all).done refl in
    record {
      idle = is.rests.flight ∙ done.idle;
      sections = ap (λ (z : Stack). z.sections) is.rests.sections ∙ done.sections;
      offline = ap (λ (z : View). announces z.log) is.rests.pass ∙ done.offline;
      merged = subst (λ (z : View). HasMergedBoxes z.log) (sym is.rests.pass) (is.between.done all).3;
    }

pub end_next : (e : Engine) (script : ScriptParts) (c : Caller) (lists : List (List Entry)) (s : Seat) → HasTakenIn e script c lists → IsSeatOf e script (length lists) s → (rests_in s.caller).next ≡ 0
end_next e script c lists s taken is = ap (λ (z : View). z.next) is.rests.pass ∙ last_next e script c is.caller lists taken is.between.member

pub end_taken : (e : Engine) (script : ScriptParts) (c d : Caller) (s : Seat) (lists : List (List Entry)) → IsScript script → HasTakenIn e script c lists → IsSeatOf e script (length lists) s → length (calls_of script (length lists)) ≤ length s.entries.items
    → IsCallerOf e d → thread_of d ≡ thread_of c → IsIdle d → announces (view (pass_of d)).log ≡ announces (view (pass_of c)).log → (HasMergedBoxes (view (pass_of c)).log → HasMergedBoxes (view (pass_of d)).log) → stack_of (pass_of d) ≡ stack_of (pass_of c)
    → (view (pass_of d)).parts ≡ (view (pass_of c)).parts + (rests_in s.caller).parts
    → ((mine theirs : List (List Entry)) (w : Caller) → RestsAs w s.caller → WereAnswered c mine → WereAnswered w theirs → thread_of w ≡ thread_of c + length mine → WereAnswered d (mine ++ theirs))
    → ((w : Caller) → RestsAs w s.caller → WereOnline c → WereOnline w → thread_of w ≡ suc (thread_of c + length (taken_of c)) → WereOnline d) → HasTakenIn e script d (lists ++ s.entries.items ∷ [])
end_taken e script c d s lists rule taken is all caller thread idle announced merged sections parts kept online =
    let w = is.caller in
    next_taken e script c d (worker_of w s) lists taken (end_worked e script (length lists) w s rule is.between all) refl caller thread idle announced merged sections
    (parts ∙ ap (λ (z : View). (view (pass_of c)).parts + z.parts) is.rests.pass)
    (λ mine theirs. kept mine theirs w is.rests)
    (online w is.rests)
