-- Where the threads are in step with the machine, it says which of them awaits what.
use Rattle.std.proofs.Common.{◌≡◌, ℕ, suc, ◌+◌, ◌-◌, ◌<◌, ◌≤◌, Bool, true, false, List, [], ◌∷◌, ◌++◌, length, map, reverse, cond, Option, None, Some, refl, sym, ap, subst, ◌∙◌, arith}
use Rattle.std.specs.Prelude.{if◌then◌else◌, slice_get}
use Rattle.std.specs.Option.{option_map, option_map_or}
use Rattle.std.proofs.lemmas.Bool.{ne_eqb}
use Rattle.std.proofs.lemmas.Bool.Decides.{nat_tests}
use Rattle.std.proofs.lemmas.List.{length-append, length-map, length-reverse}
use Rattle.std.proofs.lemmas.Option.{get_or_from_slice_get, slice_get-map}
use Rattle.ft_model.specs.declared.call.Call.{Call}
use Rattle.ft_model.specs.declared.call.Call.TheVariants as call
use Rattle.ft_model.specs.declared.entry.Entry.{Entry as NamedEntry}
use Rattle.ft_model.specs.declared.script.ScriptParts.{ScriptParts}
use Rattle.ft_model.specs.Histories.{calls_of}
use Rattle.ft_trace.specs.declared.Told.{Told}
use Rattle.ft_trace.specs.declared.View.{View}
use Rattle.ft_trace.specs.Acts.{own_told, presence_of, seen_writes, sender}
use Rattle.ft_trace.specs.OwnCursors.{plain_entry}
use Rattle.ft_bank.specs.declared.note.Note.{Note}
use Rattle.ft_bank.specs.Notes.{TellsOf, told_by}
use Rattle.ft_bank.specs.Passes.{view}
use Rattle.ft_engine.specs.declared.caller.Caller.{Caller}
use Rattle.ft_engine.specs.declared.caller.Flight.TheVariants as flight
use Rattle.ft_engine.specs.Callers.{pass_of, thread_of}
use Rattle.ft_engine.specs.Keeping.{WasAnswered, pending}
use Rattle.ft_engine.proofs.Callers.{some_number}
use Rattle.ft_turns.specs.Ends.{after_turns}
use Rattle.ft_turns.specs.Orders.{Awaited, Machine, awaited_by, is_awaiting, is_unfinished, next_call, ready_call, thread_at}
use Rattle.ft_turn_laws.specs.Standing.{IsAsFlight}
use Rattle.ft_turn_laws.specs.Turns.{AreInStep}
use Rattle.ft_turn_laws.proofs.LearnedTurns.{spent_turns}
use Rattle.ft_run_turns.specs.declared.seats.Seat.{Seat}
use Rattle.ft_run_turns.specs.Internal.CallerSeats.{AwaitsNone, made_in, next_in, seat_entries, standing_at, standing_in, standings_of}
use Rattle.ft_run_turns.proofs.Seated.{marks_count}

-- whichever it is, it is false
no_either : (b : Bool) → (if b then false else false) ≡ false
no_either true = refl
no_either false = refl

-- how many calls of a thread have ended is what its seat says
pub made_there : (seats : List (Option Seat)) (thread : ℕ) (s : Seat) → slice_get seats thread ≡ Some (Some s) → made_in seats thread ≡ length s.entries.items
made_there seats thread s at = ap (λ (o : Option Seat). length (seat_entries o)) (get_or_from_slice_get seats thread (Some s) None at)

module _ (script : ScriptParts) (turns : List ℕ) (v : View) (seats : List (Option Seat)) (was : AreInStep script turns v (standings_of seats)) where
  abbrev machine : Machine
  machine = after_turns script turns

  standing_is : (thread : ℕ) (s : Seat) → slice_get seats thread ≡ Some (Some s) → slice_get (standings_of seats) thread ≡ Some (standing_in s)
  standing_is thread s at = slice_get-map standing_at seats thread ∙ ap (option_map standing_at) at

  -- as many calls of a thread have ended as the machine says
  pub ended : (thread : ℕ) (s : Seat) → slice_get seats thread ≡ Some (Some s) → length (thread_at (after_turns script turns) thread).marks ≡ made_in seats thread
  ended thread s at =
      marks_count script thread turns v (standings_of seats) (standing_in s) (standing_is thread s at) was
      ∙ sym (made_there seats thread s at)

  module _ (thread : ℕ) (s : Seat) (at : slice_get seats thread ≡ Some (Some s)) where
    awaiting_is : is_awaiting script (after_turns script turns) thread ≡ (if (thread_at (after_turns script turns) thread).fixed then false else option_map_or (is_unfinished (after_turns script turns)) (option_map_or awaited_by (next_in script seats thread) None) false)
    awaiting_is =
        ap (λ n. if (thread_at machine thread).fixed then false else option_map_or (is_unfinished machine) (option_map_or awaited_by (slice_get (calls_of script thread) n) None) false)
        (ended thread s at)

    -- a thread whose next call is no `await` awaits nothing
    pub awake : AwaitsNone (next_in script seats thread) → is_awaiting script (after_turns script turns) thread ≡ false
    awake none =
        awaiting_is
        ∙ elim (next_in script seats thread) as (λ o. AwaitsNone o → (if (thread_at machine thread).fixed then false else option_map_or (is_unfinished machine) (option_map_or awaited_by o None) false) ≡ false) [
          | None ↦ λ _. no_either (thread_at machine thread).fixed
          | Some called ↦ λ other. ap (λ (o : Option Awaited). if (thread_at machine thread).fixed then false else option_map_or (is_unfinished machine) o false) other ∙ no_either (thread_at machine thread).fixed
        ] none

    module _ (one : Awaited) (next : next_in script seats thread ≡ Some (call.Await one.thread one.index)) (named : Seat) (there : slice_get seats one.thread ≡ Some (Some named)) where
      by_one : is_awaiting script (after_turns script turns) thread ≡ (if (thread_at (after_turns script turns) thread).fixed then false else is_unfinished (after_turns script turns) one)
      by_one = awaiting_is ∙ ap (λ (o : Option Call). if (thread_at machine thread).fixed then false else option_map_or (is_unfinished machine) (option_map_or awaited_by o None) false) next

      -- nor one that awaits a call that has finished
      pub finished : one.index ≤ made_in seats one.thread → is_awaiting script (after_turns script turns) thread ≡ false
      finished low =
          let marks = ended one.thread named there in
          let done : is_unfinished machine one ≡ false = grind (arith, nat_tests, marks, low) in
          by_one ∙ (ap (λ b. if (thread_at machine thread).fixed then false else b) done ∙ no_either (thread_at machine thread).fixed)

      -- one that awaits a call that has not is not ready
      pub unready : s.caller.flight ≡ flight.Idle → made_in seats one.thread < one.index → ready_call script (after_turns script turns) thread ≡ None
      unready idle low =
          let marks = ended one.thread named there in
          let still : is_unfinished machine one ≡ true = grind (arith, nat_tests, marks, low) in
          let standing = was.machine.threads thread (standing_in s) (standing_is thread s at) in
          let unfixed : (thread_at machine thread).fixed ≡ false = subst (IsAsFlight (slice_get (calls_of script thread) (length (thread_at machine thread).marks)) (thread_at machine thread).fixed) idle standing.flight in
          let waits : is_awaiting script machine thread ≡ true = by_one ∙ (ap (λ b. if b then false else is_unfinished machine one) unfixed ∙ still) in
          ap (λ b. if b then None else next_call script thread (thread_at machine thread)) waits

  -- so its turn is spent
  pub spends : (thread : ℕ) → ready_call script (after_turns script turns) thread ≡ None → AreInStep script (turns ++ thread ∷ []) v (standings_of seats)
  spends thread none = spent_turns script turns thread v (standings_of seats) none was

-- ---- notes

-- a note of a caller that rests tells of its thread, and of as many calls as it was answered
pub tells : (c : Caller) (mine : List NamedEntry) (tokens thread index : ℕ) (w : View) (note : Note) → thread_of c ≡ thread → WasAnswered c mine → index ≤ length mine → w ≡ sender tokens (view (pass_of c)) → told_by note ≡ own_told w → TellsOf note thread index
tells c mine tokens thread index w note number kept few is told =
    let v = view c.pass in
    let one : Told = record { pass = w.number; seen = seen_writes w; entries = w.entries; presence = presence_of w.log } in
    let some = some_number c.pass in
    let named : w.number ≡ v.number = ap (λ (x : View). x.number) is in
    let own : own_told w ≡ one ∷ [] = ap (λ b. cond b [] (one ∷ [])) (ne_eqb w.number 0 (λ none. absurd (omega (arith, none, some, named)))) in
    let entries : w.entries ≡ pending c.flight ++ reverse (map plain_entry mine) = ap (λ (x : View). x.entries) is ∙ kept.0.same in
    let long : length w.entries ≡ length (pending c.flight) + length mine =
    ap length entries ∙ (length-append (pending c.flight) (reverse (map plain_entry mine)) ∙ ap (λ n. length (pending c.flight) + n) (length-reverse (map plain_entry mine) ∙ length-map mine plain_entry)) in
    (one, told ∙ own, (let e : w.number ≡ suc thread = omega (arith, named, number, some) in e), (let low : index ≤ length w.entries = omega (arith, long, few) in low))
