-- The seats of all threads, when one of them is put back.
use Rattle.std.proofs.Common.{◌≡◌, ◌≢◌, ℕ, ◌+◌, ◌<◌, false, List, [], ◌∷◌, ◌++◌, length, get_or, Option, Some, sym, ap, subst, ◌∙◌, arith, inl, inr}
use Rattle.std.specs.Prelude.{slice_get, slice_set}
use Rattle.std.specs.Option.{option_map}
use Rattle.std.proofs.lemmas.Bool.{cases_eq}
use Rattle.std.proofs.lemmas.List.{get_or-set_other, get_or-set_same, length-set, map-set}
use Rattle.std.proofs.lemmas.List.Sums.{sum_by-set}
use Rattle.std.proofs.lemmas.Option.{get_or_from_slice_get, same_Some, slice_get-get_or, slice_get-map}
use Rattle.ft_model.specs.declared.script.ScriptParts.{ScriptParts}
use Rattle.ft_trace.specs.declared.Shape.{Shape}
use Rattle.ft_bank.specs.declared.tokens.Tokens.{Tokens}
use Rattle.ft_bank.specs.Passes.{view}
use Rattle.ft_engine.specs.declared.engine.Engine.{Engine}
use Rattle.ft_engine.specs.Callers.{pass_of}
use Rattle.ft_turns.specs.Ends.{after_turns}
use Rattle.ft_turns.specs.Orders.{is_awaiting}
use Rattle.ft_turn_laws.specs.Turns.{AreInStep}
use Rattle.ft_run_threads.specs.Workers.{IsBankFor}
use Rattle.ft_run_threads.proofs.WholeLists.{max_some}
use Rattle.ft_run_turns.specs.declared.seats.Seat.{Seat}
use Rattle.ft_run_turns.specs.Internal.CallerSeats.{AreSeats, HaveTurned, IsSeatOf, TokensStayInStep, seat_entries, entries_made, standing_at, standing_in, standings_of}

module _ {X : Type 0} (xs : List X) (i : ℕ) (x : X) (low : i < length xs) where
  pub set_there : slice_get (slice_set xs i x) i ≡ Some x
  set_there =
      let long : length (slice_set xs i x) ≡ length xs = length-set xs i x in
      slice_get-get_or (slice_set xs i x) i x (omega (arith, low, long)) ∙ ap (λ (y : X). Some y) (get_or-set_same xs i x x low)

  pub set_elsewhere : (j : ℕ) → j < length xs → j ≢ i → slice_get (slice_set xs i x) j ≡ slice_get xs j
  set_elsewhere j within apart =
      let long : length (slice_set xs i x) ≡ length xs = length-set xs i x in
      slice_get-get_or (slice_set xs i x) j x (omega (arith, within, long))
      ∙ (ap (λ (y : X). Some y) (get_or-set_other xs i j x x apart) ∙ sym (slice_get-get_or xs j x within))

module _ (e : Engine) (script : ScriptParts) (seats : List (Option Seat)) (thread : ℕ) (s r : Seat) (at : slice_get seats thread ≡ Some (Some s)) (low : thread < length seats) where
  abbrev put : List (Option Seat)
  put = slice_set seats thread (Some r)

  pub seats_put : AreSeats e script seats → IsSeatOf e script thread r → AreSeats e script put
  seats_put are is i within =
      let long : length put ≡ length seats = length-set seats thread (Some r) in
      elim (cases_eq i thread) [
        | inl same ↦ (r, ap (slice_get put) same ∙ set_there seats thread (Some r) low, subst (λ n. IsSeatOf e script n r) (sym same) is)
        | inr apart ↦
            let here : i < length seats = omega (arith, within, long) in
            let old = are i here in
            (old.0, set_elsewhere seats thread (Some r) low i here apart ∙ old.1, old.2)
      ]

  pub made_put : (more : ℕ) → length r.entries.items ≡ length s.entries.items + more → entries_made put ≡ entries_made seats + more
  made_put more longer =
      let own : Option Seat → ℕ = λ seat. length (seat_entries seat) in
      let sums = sum_by-set own seats thread (Some r) (Some s) low in
      let old : own (get_or seats thread (Some s)) ≡ length s.entries.items = ap own (get_or_from_slice_get seats thread (Some s) (Some s) at) in
      omega (arith, sums, old, longer)

  pub standings_put : standings_of put ≡ slice_set (standings_of seats) thread (standing_in r)
  standings_put = map-set standing_at seats thread (Some r)

  pub standing_there : slice_get (standings_of seats) thread ≡ Some (standing_in s)
  standing_there = slice_get-map standing_at seats thread ∙ ap (option_map standing_at) at

-- each thread has its seat
pub seat_low : (script : ScriptParts) (k : Shape) (seats : List (Option Seat)) (thread : ℕ) → IsBankFor script k → length seats ≡ k.passes → thread < length script.threads → thread < length seats
seat_low script k seats thread bank count low =
    let same : length seats ≡ length script.threads = count ∙ (bank.passes ∙ max_some (length script.threads) (λ none. omega (arith, low, none))) in
    omega (arith, low, same)

-- a seat that is taken up is the thread's
pub taken_seat : (e : Engine) (script : ScriptParts) (seats : List (Option Seat)) (thread : ℕ) (seat : Option Seat) (s : Seat) → AreSeats e script seats → thread < length seats → seat ≡ get_or seats thread seat → seat ≡ Some s
    → (slice_get seats thread ≡ Some (Some s)) × IsSeatOf e script thread s
taken_seat e script seats thread seat s are low read is =
    let one = are thread low in
    let same : one.0 ≡ s = same_Some one.0 s (sym (get_or_from_slice_get seats thread (Some one.0) seat one.1) ∙ (sym read ∙ is)) in
    (one.1 ∙ ap (λ (x : Seat). Some (Some x)) same, subst (IsSeatOf e script thread) same one.2)

pub some_seat : (e : Engine) (script : ScriptParts) (seats : List (Option Seat)) (thread : ℕ) (seat : Option Seat) → AreSeats e script seats → thread < length seats → seat ≡ get_or seats thread seat → ((s : Seat) → seat ≡ Some s → ⊥) → ⊥
some_seat e script seats thread seat are low read none = let one = are thread low in none one.0 (read ∙ get_or_from_slice_get seats thread (Some one.0) seat one.1)

-- the turn of a thread is one of all
pub turn_of_all : (e : Engine) (script : ScriptParts) (turns : List ℕ) (seats : List (Option Seat)) (thread : ℕ) (s r : Seat) (t u : Tokens) → slice_get seats thread ≡ Some (Some s) → thread < length seats → TokensStayInStep e script thread s t r u
    → is_awaiting script (after_turns script turns) thread ≡ false → HaveTurned e script turns seats t → HaveTurned e script (turns ++ thread ∷ []) (slice_set seats thread (Some r)) u
turn_of_all e script turns seats thread s r t u at low goes awake turned some =
    let now = turned some in
    let next = goes turns (standings_of seats) now.0 awake now.1 (standing_there e script seats thread s r at low) now.2 in
    (next.0, next.1, subst (AreInStep script (turns ++ thread ∷ []) (view (pass_of next.0))) (sym (standings_put e script seats thread s r at low)) next.2)
