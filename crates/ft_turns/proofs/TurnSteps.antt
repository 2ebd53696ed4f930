-- The marks of a thread after a turn of it, and its next call.
use Rattle.std.proofs.Common.{◌≡◌, ℕ, ◌+◌, ◌<◌, ◌≤◌, Bool, true, false, List, [], ◌∷◌, length, get_or, Option, None, Some, refl, sym, ap, arith}
use Rattle.std.specs.Prelude.{if◌then◌else◌, slice_get}
use Rattle.std.specs.Option.{option_map_or}
use Rattle.std.proofs.lemmas.List.{length-append}
use Rattle.std.proofs.lemmas.Option.{slice_get_read, slice_get_past}
use Rattle.ft_model.specs.declared.script.Thread.{Thread}
use Rattle.ft_model.specs.declared.call.Call.{Call}
use Rattle.ft_model.specs.declared.script.ScriptParts.{ScriptParts}
use Rattle.ft_model.specs.Histories.{calls_of}
use Rattle.ft_turns.specs.Orders.{ThreadState, Locking, take_locks, lower_first, locks_taken, innermost_containers}
use Rattle.ft_turns.specs.Internal.TurnParts.{TryOutcome, not_tried, answer_tried, finish_tried, answer_part, finish_part}

-- ---- marks

answer_marks : (fixed : Bool) (found : Option ℕ) (holders : List (Option ℕ)) (state : ThreadState) (called : Call) (locking : Locking) → (if fixed then not_tried holders state else answer_tried state called (record locking { found = found })).state.marks ≡ state.marks
answer_marks true found holders state called locking = refl
answer_marks false None holders state called locking = refl
answer_marks false (Some other) holders state called locking = refl

pub answer_keeps_marks : (thread : ℕ) (before : List Call) (called : Call) (holders : List (Option ℕ)) (state : ThreadState) → (answer_part thread before called holders state).state.marks ≡ state.marks
answer_keeps_marks thread before called holders state = let locking = take_locks thread holders (lower_first (locks_taken before called)) in answer_marks state.fixed locking.found holders state called locking

finish_marks : (fixed : Bool) (found : Option ℕ) (tried : TryOutcome) (locking : Locking) → length (if fixed then finish_tried tried.state (record locking { found = found }) else not_tried tried.holders tried.state).state.marks ≡ length tried.state.marks + (if (if fixed then finish_tried tried.state (record locking { found = found }) else not_tried tried.holders tried.state).done then 1 else 0)
finish_marks false found tried locking = omega arith
finish_marks true None tried locking = length-append tried.state.marks (tried.state.mark ∷ [])
finish_marks true (Some other) tried locking = omega arith

pub finish_adds_mark : (thread : ℕ) (tried : TryOutcome) → length (finish_part thread tried).state.marks ≡ length tried.state.marks + (if (finish_part thread tried).done then 1 else 0)
finish_adds_mark thread tried = let locking = take_locks thread tried.holders (lower_first (innermost_containers tried.state.sections)) in finish_marks tried.state.fixed locking.found tried locking

-- ---- the next call

pub calls_at : (script : ScriptParts) (thread : ℕ) (t : Thread) → thread < length script.threads → t ≡ get_or script.threads thread t → t.calls ≡ calls_of script thread
calls_at script thread t within read = sym (ap (λ found. option_map_or (λ one. one.calls) found []) (slice_get_read script.threads (length script.threads) thread t refl within read))

pub call_left : (script : ScriptParts) (thread : ℕ) (t : Thread) (n : ℕ) (called : Call) → thread < length script.threads → t ≡ get_or script.threads thread t → n < length t.calls → called ≡ get_or t.calls n called → slice_get (calls_of script thread) n ≡ Some called
call_left script thread t n called within read below is = rw (← calls_at script thread t within read) (slice_get_read t.calls (length t.calls) n called refl below is)

pub no_call_left : (script : ScriptParts) (thread : ℕ) (t : Thread) (n : ℕ) → thread < length script.threads → t ≡ get_or script.threads thread t → length t.calls ≤ n → slice_get (calls_of script thread) n ≡ None
no_call_left script thread t n within read past = rw (← calls_at script thread t within read) (slice_get_past t.calls n past)
