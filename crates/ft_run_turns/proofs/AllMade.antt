-- When no call is left, or no turn.
use Rattle.std.proofs.Common.{◌≡◌, ℕ, ◌+◌, ◌<◌, ◌≤◌, List, [], ◌∷◌, ◌++◌, length, map, get_or, sum, Option, None, Some, refl, sym, ap, subst, ◌∙◌, append_assoc, arith, inl, inr, ◌⊎◌}
use Rattle.std.specs.Prelude.{fold, slice_get}
use Rattle.std.specs.Option.{option_map}
use Rattle.std.proofs.lemmas.Bool.{cases_lt}
use Rattle.std.proofs.lemmas.List.{append-nil, get_or-map, length-map}
use Rattle.std.proofs.lemmas.List.Sums.{fold-append, sum-map}
use Rattle.std.proofs.lemmas.Option.{get_or_from_slice_get, slice_get-map, slice_get_past, slice_get_within}
use Rattle.ft_model.specs.declared.entry.Entry.{Entry}
use Rattle.ft_model.specs.declared.call.Call.{Call}
use Rattle.ft_model.specs.declared.script.ScriptParts.{ScriptParts}
use Rattle.ft_model.specs.declared.script.Thread.{Thread}
use Rattle.ft_model.specs.Histories.{calls_of}
use Rattle.ft_model.specs.Scripts.{IsScript}
use Rattle.ft_trace.specs.declared.View.{View}
use Rattle.ft_trace.specs.Acts.{seen_writes}
use Rattle.ft_bank.specs.Passes.{shape_of, view}
use Rattle.ft_engine.specs.declared.engine.Engine.{Engine}
use Rattle.ft_engine.specs.Callers.{bank_of, pass_of}
use Rattle.ft_turns.specs.Ends.{after_turns}
use Rattle.ft_turns.specs.Orders.{Machine, count_of_calls, next_call, start_machine, thread_at, turn, turns_of}
use Rattle.ft_turns.specs.declared.schedule.Schedule.{Schedule}
use Rattle.ft_turns.specs.Schedules.{IsInRound, scheduled}
use Rattle.ft_turns.proofs.NothingLeft.{calls_at, same_parts}
use Rattle.ft_turns.proofs.TurnParts.{idle_turn, ready_none}
use Rattle.ft_turn_laws.specs.Endings.{entry_lists}
use Rattle.ft_turn_laws.specs.Ordered.{AreAnswersInOrder}
use Rattle.ft_turn_laws.specs.LockOwners.{owners_in}
use Rattle.ft_turn_laws.specs.Standing.{AreAsMachine, Standing}
use Rattle.ft_turn_laws.specs.Turns.{AreInStep}
use Rattle.ft_turn_laws.proofs.LastTurn.{finished}
use Rattle.ft_bank.specs.declared.tokens.Tokens.{Tokens}
use Rattle.ft_run_threads.specs.Workers.{IsBankFor}
use Rattle.ft_run_threads.proofs.ScriptFacts.{calls_past}
use Rattle.ft_run_threads.proofs.WholeLists.{max_some}
use Rattle.ft_run_turns.specs.declared.seats.Seat.{Seat}
use Rattle.ft_run_turns.specs.Internal.CallerSeats.{AreSeats, SeatsHaveMadeAll, HaveTurned, IsHeld, seat_entries, entries_made, standing_at, standing_in, standings_of}
use Rattle.ft_run_turns.proofs.Seated.{few_made, next_is}

-- ---- turns in which no thread has a call left

still_turns : (script : ScriptParts) (machine : Machine) → ((thread : ℕ) → next_call script thread (thread_at machine thread) ≡ None) → (turns : List ℕ) → fold (turn script) machine turns ≡ machine
still_turns script machine none [] = refl
still_turns script machine none (thread ∷ turns) =
    let still : turn script machine thread ≡ machine = idle_turn script machine thread (ready_none script machine thread (none thread)) in
    ap (λ m. fold (turn script) m turns) still ∙ still_turns script machine none turns

module _ (script : ScriptParts) (seats : List (Option Seat)) (all : SeatsHaveMadeAll script seats) where
  -- a thread of the machine has no call left either
  none_left : (turns : List ℕ) (v : View) → AreInStep script turns v (standings_of seats) → ((thread : ℕ) → thread < length seats → (s : Seat) × (slice_get seats thread ≡ Some (Some s))) → (thread : ℕ)
      → next_call script thread (thread_at (after_turns script turns) thread) ≡ None
  none_left turns v was there thread =
      elim (cases_lt thread (length seats)) [
        | inl low ↦
            let found = there thread low in
            let s = found.0 in
            let at : slice_get (standings_of seats) thread ≡ Some (standing_in s) = slice_get-map standing_at seats thread ∙ ap (option_map standing_at) found.1 in
            next_is script thread turns v (standings_of seats) (standing_in s) at was None (slice_get_past (calls_of script thread) (length s.entries.items) (all thread s found.1))
        | inr past ↦
            let count : length seats ≡ length script.threads = sym (length-map seats standing_at) ∙ was.machine.count in
            let none : calls_of script thread ≡ [] = calls_past script thread (omega (arith, past, count)) in
            ap (λ (calls : List Call). slice_get calls (length (thread_at (after_turns script turns) thread).marks)) none
      ]

  -- so they are in step after all turns
  pub rest_in_step : (turns rest : List ℕ) (v : View) → turns ++ rest ≡ turns_of script → ((thread : ℕ) → thread < length seats → (s : Seat) × (slice_get seats thread ≡ Some (Some s))) → AreInStep script turns v (standings_of seats)
      → AreInStep script (turns_of script) v (standings_of seats)
  rest_in_step turns rest v whole there was =
      let same : after_turns script turns ≡ after_turns script (turns_of script) =
      sym (still_turns script (after_turns script turns) (none_left turns v was there) rest)
      ∙ (sym (fold-append (turn script) (start_machine script) turns rest) ∙ ap (after_turns script) whole) in
      record {
        machine = subst (λ (m : Machine). AreAsMachine script m (owners_in v) (standings_of seats)) same was.machine;
        order = subst (λ (m : Machine). AreAnswersInOrder m.answered (standings_of seats) (seen_writes v)) same was.order;
      }

-- ---- no call is left

module _ (e : Engine) (script : ScriptParts) (seats : List (Option Seat)) (bank : IsBankFor script (shape_of (bank_of e))) (are : AreSeats e script seats) (count : length seats ≡ (shape_of (bank_of e)).passes) where
  abbrev own : Option Seat → ℕ
  own seat = length (seat_entries seat)

  abbrev asked : Thread → ℕ
  asked t = length t.calls

  by_threads : 0 < length script.threads → length seats ≡ length script.threads
  by_threads some = count ∙ (bank.passes ∙ max_some (length script.threads) (λ none. omega (arith, some, none)))

  own_at : (i : ℕ) (s : Seat) → slice_get seats i ≡ Some (Some s) → i < length seats → get_or (map own seats) i 0 ≡ length s.entries.items
  own_at i s at low = get_or-map own seats i (Some s) 0 low ∙ ap own (get_or_from_slice_get seats i (Some s) (Some s) at)

  pub all_by_count : entries_made seats ≡ count_of_calls script → SeatsHaveMadeAll script seats
  all_by_count sums thread s at =
      elim (cases_lt thread (length script.threads)) [
        | inr past ↦ let none = ap length (calls_past script thread past) in omega (arith, none)
        | inl low ↦
            let same : length seats ≡ length script.threads = by_threads (omega (arith, low)) in
            let here : thread < length seats = slice_get_within seats thread (Some s) at in
            let lengths : length (map own seats) ≡ length (map asked script.threads) = length-map seats own ∙ (same ∙ sym (length-map script.threads asked)) in
            let below : (i : ℕ) → i < length (map own seats) → get_or (map own seats) i 0 ≤ get_or (map asked script.threads) i 0 = λ i in_map.
            let inside : i < length seats = let l = length-map seats own in omega (arith, in_map, l) in
            let in_script : i < length script.threads = omega (arith, inside, same) in
            let seat = are i inside in
            let is = own_at i seat.0 seat.1 inside in
            let few = few_made e script i seat.2.caller seat.0.entries.items seat.2.between in
            let calls = calls_at script i in_script in
            omega (arith, is, few, calls) in
            let whole : sum (map own seats) ≡ sum (map asked script.threads) = sum-map own seats ∙ sums in
            let in_map : thread < length (map own seats) = let l = length-map seats own in omega (arith, here, l) in
            let equal = same_parts (map own seats) (map asked script.threads) lengths below whole thread in_map in
            let is = own_at thread s at here in
            let calls = calls_at script thread low in
            omega (arith, equal, is, calls)
      ]

  -- ---- no turn is left
  pub all_by_turns : IsScript script → (t : Tokens) → HaveTurned e script (turns_of script) seats t → SeatsHaveMadeAll script seats
  all_by_turns rule t turned thread s at =
      elim (cases_lt thread (length script.threads)) [
        | inr past ↦ let none = ap length (calls_past script thread past) in omega (arith, none)
        | inl low ↦
            let step = (turned (omega (arith, low))).2 in
            let done = finished script (view (pass_of (turned (omega (arith, low))).0)) (standings_of seats) rule step in
            let there : slice_get (entry_lists (standings_of seats)) thread ≡ Some s.entries.items =
            slice_get-map (λ (x : Standing). x.entries) (standings_of seats) thread
            ∙ (ap (option_map (λ (x : Standing). x.entries)) (slice_get-map standing_at seats thread ∙ ap (option_map standing_at) at)) in
            let long = sym (ap length (done.made thread s.entries.items there)) ∙ length-map s.entries.items (λ (x : Entry). x.call) in
            omega (arith, long)
      ]

-- ---- between two turns

-- the turns so far and those that are left are the script's, and that many calls are left
pub record AreTaking (e : Engine) (script : ScriptParts) (schedule : Schedule) (left : ℕ) (seats : List (Option Seat)) (t : Tokens) : Type 0 where
  pub seated : AreSeats e script seats
  pub count : length seats ≡ (shape_of (bank_of e)).passes
  pub held : IsHeld e t
  pub round : IsInRound (length script.threads) schedule
  pub calls : left + entries_made seats ≡ count_of_calls script
  pub turns : List ℕ
  pub whole : turns ++ scheduled schedule script.order (length script.threads) ≡ turns_of script
  pub turned : HaveTurned e script turns seats t

-- one more
pub taking_on : (e : Engine) (script : ScriptParts) (before after : Schedule) (left less thread : ℕ) (seats put : List (Option Seat)) (t u : Tokens) (is : AreTaking e script before left seats t) → AreSeats e script put → length put ≡ length seats
    → IsHeld e u → IsInRound (length script.threads) after → less + entries_made put ≡ count_of_calls script
    → scheduled before script.order (length script.threads) ≡ thread ∷ scheduled after script.order (length script.threads)
    → HaveTurned e script (is.turns ++ thread ∷ []) put u → AreTaking e script after less put u
taking_on e script before after left less thread seats put t u is seated count held round calls next turned =
    record {
      seated = seated;
      count = count ∙ is.count;
      held = held;
      round = round;
      calls = calls;
      turns = is.turns ++ thread ∷ [];
      whole =
          let rest = scheduled after script.order (length script.threads) in
          append_assoc is.turns (thread ∷ []) rest ∙ (ap (λ l. is.turns ++ l) (sym next) ∙ is.whole);
      turned = turned;
    }

-- the last one
module _ (e : Engine) (script : ScriptParts) (schedule : Schedule) (left : ℕ) (seats : List (Option Seat)) (t : Tokens) (rule : IsScript script) (bank : IsBankFor script (shape_of (bank_of e))) (is : AreTaking e script schedule left seats t)
    (over : (left ≡ 0) ⊎ (scheduled schedule script.order (length script.threads) ≡ [])) where
  there : (thread : ℕ) → thread < length seats → (s : Seat) × (slice_get seats thread ≡ Some (Some s))
  there thread low = let one = is.seated thread low in (one.0, one.1)

  pub end_turned : HaveTurned e script (turns_of script) seats t
  end_turned some =
      let now = is.turned some in
      elim over [
        | inl none ↦
            let all : SeatsHaveMadeAll script seats = all_by_count e script seats bank is.seated is.count (let c = is.calls in omega (arith, none, c)) in
            (now.0, now.1, rest_in_step script seats all is.turns (scheduled schedule script.order (length script.threads)) (view (pass_of now.0)) is.whole there now.2)
        | inr ended ↦
            let whole : is.turns ≡ turns_of script = sym (append-nil is.turns) ∙ (ap (λ l. is.turns ++ l) (sym ended) ∙ is.whole) in
            (now.0, now.1, subst (λ turns. AreInStep script turns (view (pass_of now.0)) (standings_of seats)) whole now.2)
      ]

  pub end_made : SeatsHaveMadeAll script seats
  end_made = all_by_turns e script seats bank is.seated is.count rule t end_turned

-- where a call is left there is a thread
pub some_threads : (script : ScriptParts) (left made : ℕ) → left + made ≡ count_of_calls script → 0 < left → 0 < length script.threads
some_threads script left made calls some = either script.threads refl
  where
    either : (threads : List Thread) → script.threads ≡ threads → 0 < length script.threads
    either [] is = absurd (let none : count_of_calls script ≡ 0 = ap (λ ts. sum (map (λ (t : Thread). length t.calls) ts)) is in omega (arith, none, calls, some))
    either (t ∷ threads) is = let long = ap length is in omega (arith, long)
