-- How far a machine of turns has come.
use Rattle.std.specs.Prelude.{◌≡◌, ℕ, ◌+◌, ◌<◌, ◌++◌, List, length, map, filter, fold, ◌==◌}
use Rattle.std.specs.List.{sum_by, range_with_len}
use Rattle.ft_model.specs.declared.script.ScriptParts.{ScriptParts}
use Rattle.ft_model.specs.Histories.{calls_of}
use Rattle.ft_turns.specs.Orders.{Machine, thread_at, turn, start_machine, last_machine, round_of}
use Rattle.ft_turns.specs.Wants.{so_far, AreBelow}

-- how many answers are fixed, and how many calls have finished
abbrev pub steps_made : Machine → ℕ
steps_made machine = sum_by (λ state. so_far state + length state.marks) machine.threads

-- every call has finished
abbrev pub AreFinished : ScriptParts → Machine → Type 0
AreFinished script machine =
    (thread : ℕ) → thread < length script.threads
    → length (thread_at machine thread).marks ≡ length (calls_of script thread)

-- the machine after these turns
abbrev pub after_turns : ScriptParts → List ℕ → Machine
after_turns script turns = fold (turn script) (start_machine script) turns

-- these turns are of threads of the script
abbrev pub AreTurns : ScriptParts → List ℕ → Type 0
AreTurns script turns = AreBelow (length script.threads) turns

-- the places of a thread's calls among these, in order
abbrev pub places_of : ℕ → List (ℕ × ℕ) → List ℕ
places_of thread answered = map (λ one. one.1) (filter (λ one. one.0 == thread) answered)

-- in any two rounds that follow each other an answer is fixed or a call finishes, unless no call is left (profile)
pub record TurnsGoOn (script : ScriptParts) : Type 0 where
  pub two_rounds : (turns : List ℕ) (thread : ℕ) → AreTurns script turns → thread < length script.threads
      → length (thread_at (after_turns script turns) thread).marks < length (calls_of script thread)
      → steps_made (after_turns script turns) < steps_made
      (after_turns script (turns ++ (round_of script ++ round_of script)))
  -- so all calls finish
  pub finished : AreFinished script (last_machine script)
  -- and the answer of each is fixed once, each thread's in the order of its calls
  pub answered : (thread : ℕ) → thread < length script.threads
      → places_of thread (last_machine script).answered ≡ range_with_len 0 (length (calls_of script thread))
