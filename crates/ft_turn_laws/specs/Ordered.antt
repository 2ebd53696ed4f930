-- The order in which answers are made, by callers that take turns, and how far their numbers have come.
use Rattle.std.specs.Prelude.{◌≡◌, ℕ, ◌+◌, ◌<◌, ◌≤◌, false, List, [], ◌∷◌, ◌++◌, length, map, Some, if◌then◌else◌, slice_get, slice_index_or}
use Rattle.ft_model.specs.declared.entry.Entry.{Entry}
use Rattle.ft_bank.specs.PassSections.{no_sections}
use Rattle.ft_section.specs.declared.answers.Stamp.{Stamp}
use Rattle.ft_engine.specs.declared.caller.Flight.{Flight}
use Rattle.ft_engine.specs.declared.caller.Flight.TheVariants as flight
use Rattle.ft_turn_laws.specs.Standing.{Standing}

-- how many writes there are at least once the answer is made: a write counts itself
abbrev pub reached : Stamp → ℕ
reached stamp = if stamp.wrote then stamp.number + 1 else stamp.number

abbrev pub entry_stamp : Entry → Stamp
entry_stamp entry = record { number = entry.stamp; wrote = entry.wrote }

-- the answer of the call in flight, where it has one
abbrev pub due : Flight → List Stamp
due flight.Idle = []
due (flight.Tried called) = []
due (flight.Answered called said stamp) = stamp ∷ []
due (flight.Refused called) = []

-- the answers of a caller's calls, in their order
abbrev pub stamps_of : Standing → List Stamp
stamps_of standing = map entry_stamp standing.entries ++ due standing.flight

-- a caller and an answer that stand where there is none
abbrev pub nobody : Standing
nobody = record { flight = flight.Idle; stack = no_sections; entries = [] }

abbrev pub no_stamp : Stamp
no_stamp = record { number = 0; wrote = false }

-- the answer to the call of a thread at a place among the thread's own
abbrev pub answer_at : List Standing → ℕ × ℕ → Stamp
answer_at standings answered =
    slice_index_or (stamps_of (slice_index_or standings answered.0 nobody)) answered.1 no_stamp

-- Each answer of this order is one of its caller. In this order each knows of all writes that there were after each
-- earlier one, and whoever has the floor has seen all of them.
pub record AreAnswersInOrder (answered : List (ℕ × ℕ)) (standings : List Standing) (seen : ℕ) : Type 0 where
  pub made : (place : ℕ) (one : ℕ × ℕ) → slice_get answered place ≡ Some one
      → one.1 < length (stamps_of (slice_index_or standings one.0 nobody))
  pub rising : (earlier later : ℕ) (one other : ℕ × ℕ) → earlier < later → slice_get answered earlier ≡ Some one
      → slice_get answered later ≡ Some other
      → reached (answer_at standings one) ≤ (answer_at standings other).number
  pub known : (place : ℕ) (one : ℕ × ℕ) → slice_get answered place ≡ Some one
      → reached (answer_at standings one) ≤ seen
