-- The history of all threads is one in the order of the turns.
use Rattle.std.specs.declared.alloc.Global.{Global}
use Rattle.std.proofs.Common.{◌≡◌, ◌≢◌, ℕ, zero, suc, ◌+◌, ◌*◌, ◌<◌, List, [], ◌∷◌, ◌++◌, length, map, sum, Option, None, Some, refl, sym, ap, subst, ◌∙◌, arith}
use Rattle.std.specs.Prelude.{All, Vec, fold}
use Rattle.std.specs.List.{flat_map, range_with_len}
use Rattle.std.specs.List.Sorted.{IsPermutation}
use Rattle.std.proofs.Math.Logic.{∥∥₁_map}
use Rattle.std.proofs.lemmas.List.Folds.{flat_map-map}
use Rattle.std.proofs.lemmas.List.Sorted.{IsPermutation-refl}
use mathlib.Core.Logic.{dite}
use native.Mathlib.Decide.{ℕ_discrete}
use Rattle.ft_model.specs.declared.call.Call.{Call}
use Rattle.ft_model.specs.declared.entry.Entry.{Entry}
use Rattle.ft_model.specs.declared.entry.Storage.TheVariants as storage
use Rattle.ft_model.specs.declared.script.ScriptParts.{ScriptParts}
use Rattle.ft_model.specs.declared.script.Thread.{Thread}
use Rattle.ft_model.specs.Numbers.{AreDone, AreNumberedLists}
use Rattle.ft_model.specs.Scripts.{IsScript}
use Rattle.ft_trace.specs.declared.View.{View}
use Rattle.ft_bank.specs.declared.tokens.Tokens.{Tokens}
use Rattle.ft_bank.specs.Passes.{shape_of, view}
use Rattle.ft_bank_history.specs.Marks.{HaveScriptCalls}
use Rattle.ft_engine.specs.declared.engine.Engine.{Engine}
use Rattle.ft_engine.specs.Callers.{bank_of, pass_of}
use Rattle.ft_engine.specs.DoneCallers.{AreNumberedFor, AreOfScript}
use Rattle.ft_turns.specs.Orders.{IsOrderRun, Machine, count_of_calls, ordered_in, round_of, start_machine, turn, turns_of}
use Rattle.ft_turn_laws.specs.Endings.{entry_lists}
use Rattle.ft_turn_laws.specs.Turns.{AreInStep}
use Rattle.ft_turn_laws.proofs.LastTurn.{turns_are_order_runs}
use Rattle.ft_run_threads.specs.Workers.{IsBankFor}
use Rattle.ft_run_threads.proofs.WholeLists.{empty_history, nothing_made, of_script}
use Rattle.ft_run_turns.specs.declared.seats.Seat.{Seat}
use Rattle.ft_run_turns.specs.Internal.CallerSeats.{HaveTurned, seat_entries, vec_lists, standings_of}
use Rattle.ft_run_turns.specs.OrderedHistories.{IsOrderRunFor}

lists_of_seats : (seats : List (Option Seat)) → entry_lists (standings_of seats) ≡ map seat_entries seats
lists_of_seats [] = refl
lists_of_seats (None ∷ seats) = ap (λ lists. [] ∷ lists) (lists_of_seats seats)
lists_of_seats (Some s ∷ seats) = ap (λ lists. s.entries.items ∷ lists) (lists_of_seats seats)

-- where the lists of a closed engine are numbered and done
order_for : (script : ScriptParts) (v : View) (seats : List (Option Seat)) (lists : List (List Entry)) (history : List Entry) → IsScript script → AreInStep script (turns_of script) v (standings_of seats) → lists ≡ map seat_entries seats
    → ∥ ((calls : List Call) × AreNumberedLists storage.Tables script calls lists × AreDone script calls lists) ∥₁ → IsPermutation (flat_map (λ mine. mine) lists) history → IsOrderRunFor script history
order_for script v seats lists history rule step same done moved =
    let is : lists ≡ entry_lists (standings_of seats) = same ∙ sym (lists_of_seats seats) in
    ∥∥₁_map done
    (λ x.
    turns_are_order_runs storage.Tables script v (standings_of seats) x.0 history rule step (subst (AreNumberedLists storage.Tables script x.0) is x.1) (subst (AreDone script x.0) is x.2)
    (subst (λ (ls : List (List Entry)). IsPermutation (flat_map (λ (mine : List Entry). mine) ls) history) is moved))

-- ---- no thread

no_turns : (n : ℕ) (turns : List ℕ) → n ≡ 0 → All (λ t. t < n) turns → turns ≡ []
no_turns n [] none all = refl
no_turns n (t ∷ turns) none all = absurd (let low : t < n = all 0 t (omega arith) in omega (arith, low, none))

no_threads : (threads : List Thread) → length threads ≡ 0 → sum (map (λ (t : Thread). length t.calls) threads) ≡ 0
no_threads [] none = refl
no_threads (t ∷ threads) none = absurd (omega (arith, none))

no_rounds : (round : List ℕ) (n : ℕ) → n ≡ 0 → flat_map (λ one. round) (range_with_len 0 n) ≡ []
no_rounds round zero none = refl
no_rounds round (suc n) none = absurd (omega (arith, none))

order_of_nothing : (script : ScriptParts) → IsScript script → length script.threads ≡ 0 → IsOrderRun storage.Tables script []
order_of_nothing script rule none =
    let count : count_of_calls script ≡ 0 = no_threads script.threads none in
    let rounds : flat_map (λ one. round_of script) (range_with_len 0 (4 * count_of_calls script)) ≡ [] = no_rounds (round_of script) (4 * count_of_calls script) (omega (arith, count)) in
    let turns : turns_of script ≡ [] =
    ap (λ l. l ++ flat_map (λ one. round_of script) (range_with_len 0 (4 * count_of_calls script))) (no_turns (length script.threads) script.order none rule.turns) ∙ rounds in
    record {
      chronicle = [];
      same = IsPermutation-refl [];
      order = sym (ap (λ ts. (let m : Machine = fold (turn script) (start_machine script) ts in map (ordered_in m) m.answered)) turns);
      chronicled = (empty_history script none).legal.chronicle;
    }

-- ---- all threads

module _ (e : Engine) (script : ScriptParts) (seats : List (Option Seat)) (t : Tokens) (lists : List (List Entry)) (history : List Entry) (rule : IsScript script) (bank : IsBankFor script (shape_of (bank_of e)))
    (turned : HaveTurned e script (turns_of script) seats t) (all : length lists ≡ (shape_of (bank_of e)).passes) (same : lists ≡ map seat_entries seats) (made : HaveScriptCalls script lists) (moved : IsPermutation (flat_map (λ mine. mine) lists) history) where
  pub ended_order : (AreOfScript script (shape_of (bank_of e)) lists → AreNumberedFor script lists) → IsOrderRunFor script history
  ended_order numbered =
      dite (ℕ_discrete (length script.threads) 0)
      (λ (none : length script.threads ≡ 0). subst (IsOrderRunFor script) (sym (nothing_made script lists history none made moved)) ∣ order_of_nothing script rule none ∣₁)
      (λ some.
      let now = turned (some_of (length script.threads) some) in
      order_for script (view (pass_of now.0)) seats lists history rule now.2 same
      (∥∥₁_map (numbered (of_script script (shape_of (bank_of e)) lists rule bank all made some)) (λ x. (x.0, x.1, x.2 made))) moved)
    where
      some_of : (n : ℕ) → n ≢ 0 → 0 < n
      some_of zero some = absurd (some refl)
      some_of (suc n) some = omega arith

-- the lists of a vector of them
pub moved_lists : (lists : List (Vec Entry Global)) (history : List Entry) → IsPermutation (flat_map (λ list. list.items) lists) history → IsPermutation (flat_map (λ mine. mine) (vec_lists lists)) history
moved_lists lists history moved = subst (λ (l : List Entry). IsPermutation l history) (sym (flat_map-map (λ (mine : List Entry). mine) (λ (list : Vec Entry Global). list.items) lists)) moved
