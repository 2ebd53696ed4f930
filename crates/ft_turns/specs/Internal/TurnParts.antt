-- The two parts of a turn: a try to fix the answer of a call, and a try to finish it.
use Rattle.std.specs.Prelude.{ℕ, Bool, true, false, List, [], ◌∷◌, ◌++◌, slice_set, Option, if◌then◌else◌}
use Rattle.std.specs.Option.{option_map_or}
use Rattle.ft_model.specs.declared.call.Call.{Call}
use Rattle.ft_turns.specs.Orders.{ThreadState, Machine, Locking, lower_first, locks_taken, take_locks, let_go, with_locking, section_locks, waiting_thread, answered_thread, finished_thread, lets_go, innermost_containers}

-- ---- the two tries

-- what a try comes to: who has each lock, the thread, and whether the thread has all that it tried to take
pub record TryOutcome : Type 0 where
  pub holders : List (Option ℕ)
  pub state : ThreadState
  pub done : Bool

abbrev pub not_tried : List (Option ℕ) → ThreadState → TryOutcome
not_tried holders state = record { holders = holders; state = state; done = false }

-- a thread whose call has to wait
abbrev pub tried_in_vain : ThreadState → Locking → ℕ → TryOutcome
tried_in_vain state locking found =
    record {
      holders = let_go locking.holders (section_locks state.sections);
      state = waiting_thread (with_locking state locking) found;
      done = false;
    }

-- a try to fix the answer of a call
abbrev pub answer_tried : ThreadState → Call → Locking → TryOutcome
answer_tried state called locking =
    option_map_or (tried_in_vain state locking) locking.found
    (record {
      holders = let_go locking.holders (lets_go called (state.own ++ locking.taken) state.sections);
      state = answered_thread (with_locking state locking) called;
      done = true;
    })

-- a try to finish a call whose answer is fixed
abbrev pub finish_tried : ThreadState → Locking → TryOutcome
finish_tried state locking =
    option_map_or (tried_in_vain state locking) locking.found
    (record { holders = locking.holders; state = finished_thread (with_locking state locking); done = true })

-- the first part of a turn, after these calls of the thread
abbrev pub answer_part : ℕ → List Call → Call → List (Option ℕ) → ThreadState → TryOutcome
answer_part thread before called holders state =
    if state.fixed
    then not_tried holders state
    else answer_tried state called (take_locks thread holders (lower_first (locks_taken before called)))

-- the second part of a turn
abbrev pub finish_part : ℕ → TryOutcome → TryOutcome
finish_part thread answer =
    if answer.state.fixed
    then finish_tried answer.state
    (take_locks thread answer.holders (lower_first (innermost_containers answer.state.sections)))
    else not_tried answer.holders answer.state

-- the calls whose answers became fixed in a turn: the one at this place among the calls of the thread, if any
abbrev pub newly_answered : ℕ → ℕ → Bool → List (ℕ × ℕ)
newly_answered thread place done = if done then (thread, place) ∷ [] else []

-- the machine where the thread has come to this, and these calls more are answered
abbrev pub placed : Machine → ℕ → TryOutcome → List (ℕ × ℕ) → Machine
placed machine thread tried more =
    record {
      holders = tried.holders;
      threads = slice_set machine.threads thread tried.state;
      answered = machine.answered ++ more;
    }
