-- Who was found with locks, and which locks a pass has had, beside the entries that its caller was answered.
use Rattle.std.specs.Prelude.{◌≡◌, ◌≢◌, ◌⊎◌, ◌+◌, ◌-◌, ◌≤◌, ℕ, true, List, [], ◌∷◌, length, map, reverse, Option, IfSome, option_map}
use Rattle.ft_model.specs.declared.call.Call.{Call}
use Rattle.ft_model.specs.declared.entry.Entry.{Entry as NamedEntry}
use Rattle.ft_model.specs.Histories.{names, open_sections_after}
use Rattle.ft_model.specs.Numbers.{begins_of}
use Rattle.ft_model.specs.Worlds.{container_of}
use Rattle.ft_trace.specs.declared.Owner.{Owner}
use Rattle.ft_trace.specs.declared.View.{View}
use Rattle.ft_trace.specs.Hands.{cursor_in}
use Rattle.ft_trace.specs.Owners.{found_owners, had_locks, is_owner_in}
use Rattle.ft_bank.specs.PassSections.{Stack}
use Rattle.ft_bank_history.specs.Marks.{AreMarksFound, IsFoundFor, IsNamedIn, walked_after, walked_by}
use Rattle.ft_engine.specs.declared.caller.Flight.{Flight}
use Rattle.ft_engine.specs.declared.caller.Flight.TheVariants as flight

-- ---- open sections

-- the containers of each open section, innermost first
abbrev pub locked_in : Stack → List (ℕ × ℕ)
locked_in s = reverse (map (λ section. (section.locks.lower, section.locks.upper)) s.sections)

-- each section has the containers that its `begin` names (C API, critical sections)
abbrev pub AreBegunBy : List (ℕ × ℕ) → List Call → Type 0
AreBegunBy [] [] = Unit {0}
AreBegunBy [] (called ∷ calls) = ⊥
AreBegunBy (pair ∷ pairs) [] = ⊥
AreBegunBy (pair ∷ pairs) (called ∷ calls) =
    ((o : ℕ) → (o ≡ pair.0) ⊎ (o ≡ pair.1) → names o called ≡ true) × AreBegunBy pairs calls

-- the `begin`s of the sections that are open after a call
abbrev pub begun_after : Call → List Call → List Call
begun_after called calls = open_sections_after called called calls

-- those of the sections that these entries leave open
abbrev pub begin_calls : List NamedEntry → List Call
begin_calls mine = map (λ begun. begun.call) (begins_of mine)

-- ---- the call in flight

-- with the call in flight where it has its answer
abbrev pub begun_due : Flight → List Call → List Call
begun_due (flight.Answered called said stamp) calls = begun_after called calls
begun_due flight.Idle calls = calls
begun_due (flight.Tried called) calls = calls
begun_due (flight.Refused called) calls = calls

abbrev pub walked_due : Flight → ℕ → Option ℕ → Option ℕ
walked_due (flight.Answered called said stamp) number over = walked_after number called over
walked_due flight.Idle number over = over
walked_due (flight.Tried called) number over = over
walked_due (flight.Refused called) number over = over

-- the call in flight names the container
abbrev pub FlightNames : ℕ → Flight → Type 0
FlightNames o flight.Idle = ⊥
FlightNames o (flight.Tried called) = names o called ≡ true
FlightNames o (flight.Answered called said stamp) = names o called ≡ true
FlightNames o (flight.Refused called) = names o called ≡ true

-- where the call in flight has waited, its mark is another thread, which was found with a lock that the call needs
abbrev pub IsFlightFound : ℕ → List Owner → List NamedEntry → Flight → Option ℕ → Type 0
IsFlightFound thread found mine flight.Idle mark = Unit {0}
IsFlightFound thread found mine (flight.Tried called) mark =
    IfSome mark (λ other. (other ≢ thread) × IsFoundFor found mine called other)
IsFlightFound thread found mine (flight.Answered called said stamp) mark =
    IfSome mark (λ other. (other ≢ thread) × IsFoundFor found mine called other)
IsFlightFound thread found mine (flight.Refused called) mark = Unit {0}

-- ---- what is kept true

-- Each mark is a thread that was found with a lock that the marked call needs. Each container whose lock the pass has
-- had is named by an entry or by the call in flight; the other owners are passes that it took in. Cursors go over the
-- containers of the last `iter`s, and the open sections have those of their `begin`s. (profile)
pub record AreOwnedBy (v : View) (s : Stack) (f : Flight) (mine : List NamedEntry) : Type 0 where
  pub marked : AreMarksFound (found_owners v.log) mine
  pub waits : IsFlightFound (v.number - 1) (found_owners v.log) mine f s.mark
  pub named : (o : ℕ) → is_owner_in o v.number (had_locks v.number v.log) ≡ true
      → IsNamedIn o mine ⊎ FlightNames o f
  pub within : (o q : ℕ) → is_owner_in o q (had_locks v.number v.log) ≡ true
      → (v.number ≤ q) × (q ≤ v.number + length v.lists)
  pub walked : (number : ℕ) → option_map container_of (cursor_in number v.log)
      ≡ walked_due f number (walked_by number mine)
  pub begun : AreBegunBy (locked_in s) (begun_due f (begin_calls mine))
