-- The turn of a thread that awaits nothing unfinished, and one that is spent, among the seats of all threads.
use Rattle.std.proofs.Common.{◌≡◌, ℕ, ◌+◌, ◌<◌, false, List, [], ◌∷◌, ◌++◌, length, Option, None, Some, refl, sym, ap, subst, ◌∙◌, arith}
use Rattle.std.specs.Prelude.{slice_get, slice_index_or}
use Rattle.std.specs.List.{sum_by}
use Rattle.std.proofs.lemmas.List.{get_or-map}
use Rattle.std.proofs.lemmas.List.Sums.{sum_by-cons}
use Rattle.ft_model.specs.declared.call.Call.TheVariants as call
use Rattle.ft_model.specs.declared.script.ScriptParts.{ScriptParts}
use Rattle.ft_model.specs.Histories.{calls_of}
use Rattle.ft_model.specs.Scripts.{IsScript}
use Rattle.ft_history.proofs.ScriptLemmas.{await_of}
use Rattle.ft_bank.specs.declared.note.Note.{Note}
use Rattle.ft_bank.specs.declared.tokens.Tokens.{Tokens}
use Rattle.ft_bank.specs.Passes.{view}
use Rattle.ft_engine.specs.declared.engine.Engine.{Engine}
use Rattle.ft_engine.specs.Callers.{pass_of}
use Rattle.ft_turns.specs.Ends.{after_turns}
use Rattle.ft_turns.specs.Orders.{Awaited, is_awaiting}
use Rattle.ft_turn_laws.specs.Ordered.{nobody}
use Rattle.ft_turn_laws.specs.Standing.{Standing}
use Rattle.ft_turn_laws.specs.Turns.{AreInStep}
use Rattle.ft_run_turns.specs.declared.awaiting.AwaitState.TheVariants as awaited
use Rattle.ft_run_turns.specs.declared.seats.Seat.{Seat}
use Rattle.ft_run_turns.specs.Internal.CallerSeats.{AreSeats, IsAwaitState, HaveTurned, IsSeatOf, entries_made, made_in, next_in, seat_entries, standing_at, standings_of}
use Rattle.ft_run_turns.proofs.AwaitedCalls.{awake, finished, made_there, spends, unready}

-- ---- seats that stand as before

entries_standing : (seat : Option Seat) → (standing_at seat).entries ≡ seat_entries seat
entries_standing None = refl
entries_standing (Some s) = refl

made_standing : (seats : List (Option Seat)) → entries_made seats ≡ sum_by (λ (s : Standing). length s.entries) (standings_of seats)
made_standing [] = refl
made_standing (seat ∷ seats) =
    sum_by-cons (λ (one : Option Seat). length (seat_entries one)) seat seats
    ∙ (ap (λ n. length (seat_entries seat) + n) (made_standing seats)
    ∙ (ap (λ (es : List _). length es + sum_by (λ (s : Standing). length s.entries) (standings_of seats)) (sym (entries_standing seat))
    ∙ sym (sum_by-cons (λ (s : Standing). length s.entries) (standing_at seat) (standings_of seats))))

made_at : (seats : List (Option Seat)) (thread : ℕ) → thread < length seats → made_in seats thread ≡ length (slice_index_or (standings_of seats) thread nobody).entries
made_at seats thread low =
    ap length (sym (entries_standing (slice_index_or seats thread None)))
    ∙ ap (λ (s : Standing). length s.entries) (sym (get_or-map standing_at seats thread None nobody low))

module _ (e : Engine) (script : ScriptParts) (seats after : List (Option Seat)) (same : standings_of after ≡ standings_of seats) where
  pub turned_same : (turns : List ℕ) (t : Tokens) → HaveTurned e script turns seats t → HaveTurned e script turns after t
  turned_same turns t turned some = let now = turned some in (now.0, now.1, subst (AreInStep script turns (view (pass_of now.0))) (sym same) now.2)

  pub made_same : entries_made after ≡ entries_made seats
  made_same = made_standing after ∙ (ap (sum_by (λ (s : Standing). length s.entries)) same ∙ sym (made_standing seats))

  pub next_same : (thread : ℕ) → thread < length seats → length after ≡ length seats → next_in script after thread ≡ next_in script seats thread
  next_same thread low long =
      ap (slice_get (calls_of script thread))
      (made_at after thread (omega (arith, low, long)) ∙ (ap (λ (ss : List Standing). length (slice_index_or ss thread nobody).entries) same ∙ sym (made_at seats thread low)))

-- ---- what the thread awaits

module _ (e : Engine) (script : ScriptParts) (rule : IsScript script) (seats : List (Option Seat)) (thread : ℕ) (are : AreSeats e script seats) (low : thread < length seats) (turns : List ℕ) (t : Tokens) (some : 0 < length script.threads) (turned : HaveTurned e script turns seats t) where
  own : (s : Seat) × (slice_get seats thread ≡ Some (Some s)) × IsSeatOf e script thread s
  own = are thread low

  in_step : AreInStep script turns (view (pass_of (turned some).0)) (standings_of seats)
  in_step = (turned some).2

  pub awake_nothing : IsAwaitState e script seats thread awaited.Nothing → is_awaiting script (after_turns script turns) thread ≡ false
  awake_nothing none = awake script turns (view (pass_of (turned some).0)) seats in_step thread own.0 own.1 none

  -- the seat of the thread that is named
  named_seat : (one : Awaited) → next_in script seats thread ≡ Some (call.Await one.thread one.index) → (s : Seat) × (slice_get seats one.thread ≡ Some (Some s)) × IsSeatOf e script one.thread s
  named_seat one next =
      let names = await_of script rule thread (made_in seats thread) (call.Await one.thread one.index) next in
      let earlier = names.0 in
      are one.thread (omega (arith, low, earlier))

  pub awake_finished : (note : Note) → IsAwaitState e script seats thread (awaited.Finished note) → is_awaiting script (after_turns script turns) thread ≡ false
  awake_finished note has =
      let there = named_seat has.0 has.1 in
      finished script turns (view (pass_of (turned some).0)) seats in_step thread own.0 own.1 has.0 has.1 there.0 there.1 has.4

  pub spent_all : IsAwaitState e script seats thread awaited.Unfinished → HaveTurned e script (turns ++ thread ∷ []) seats t
  spent_all has some =
      let there = named_seat has.0 has.1 in
      let now = turned some in
      let v = view (pass_of now.0) in
      let own_next : slice_get (calls_of script thread) (length own.0.entries.items) ≡ Some (call.Await has.0.thread has.0.index) = ap (slice_get (calls_of script thread)) (sym (made_there seats thread own.0 own.1)) ∙ has.1 in
      let idle = own.2.rests.flight ∙ own.2.between.idle has.0.thread has.0.index own_next in
      (now.0, now.1, spends script turns v seats now.2 thread (unready script turns v seats now.2 thread own.0 own.1 has.0 has.1 there.0 there.1 idle has.2))
