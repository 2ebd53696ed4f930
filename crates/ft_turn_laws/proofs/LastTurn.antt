-- Callers after the last turn.
use Rattle.std.proofs.Common.{◌≡◌, ℕ, ◌<◌, ◌≤◌, Bool, List, [], ◌++◌, length, map, Option, None, Some, refl, sym, ap, subst, ◌∙◌, arith, inl, inr}
use Rattle.std.specs.Prelude.{slice_get, slice_index_or}
use Rattle.std.specs.Option.{option_map}
use Rattle.std.proofs.lemmas.Bool.{cases_lt}
use Rattle.std.proofs.lemmas.List.{append-nil, get_or-map, get_or_past, length-map, take_all}
use Rattle.std.proofs.lemmas.Option.{none-some, same_Some, slice_get-get_or, slice_get-map, slice_get_cases, slice_get_past, slice_get_within}
use Rattle.ft_model.specs.declared.call.Call.{Call}
use Rattle.ft_model.specs.declared.entry.Entry.{Entry}
use Rattle.ft_model.specs.declared.script.ScriptParts.{ScriptParts}
use Rattle.ft_model.specs.Histories.{calls_of}
use Rattle.ft_model.specs.Scripts.{IsScript}
use Rattle.ft_trace.specs.declared.View.{View}
use Rattle.ft_section.specs.declared.answers.Stamp.{Stamp}
use Rattle.ft_engine.specs.declared.caller.Flight.{Flight}
use Rattle.ft_engine.specs.declared.caller.Flight.TheVariants as flight
use Rattle.ft_turns.specs.Orders.{last_machine, thread_at, turns_of}
use Rattle.ft_turns.proofs.AllCallsFinish.{turns_go_on}
use Rattle.ft_turn_laws.specs.Endings.{HaveFinished, LastTurnsFinish, TurnsAreOrderRuns, entry_lists}
use Rattle.ft_turn_laws.specs.Ordered.{answer_at, due, no_stamp, nobody, reached, entry_stamp, stamps_of}
use Rattle.ft_turn_laws.specs.Runs.{entry_answered, no_entry}
use Rattle.ft_turn_laws.specs.Standing.{IsAsFlight, IsAsThread, Standing}
use Rattle.ft_turn_laws.specs.Turns.{AreInStep}
use Rattle.ft_turn_laws.proofs.OrderedRuns.{order_runs}

-- a caller with no call left is in none
no_flight : (fixed : Bool) (next : Option Call) (f : Flight) → next ≡ None → IsAsFlight next fixed f → f ≡ flight.Idle
no_flight fixed next flight.Idle none as_it = refl
no_flight fixed next (flight.Tried called) none as_it = absurd (none-some called (sym none ∙ as_it.1))
no_flight fixed next (flight.Answered called said stamp) none as_it = absurd (none-some called (sym none ∙ as_it.1))
no_flight fixed next (flight.Refused called) none as_it = absurd as_it

module _ (script : ScriptParts) (v : View) (standings : List Standing) (rule : IsScript script) (is : AreInStep script (turns_of script) v standings) where
  abbrev marks_of : ℕ → List (Option ℕ)
  marks_of thread = (thread_at (last_machine script) thread).marks

  as_thread : (thread : ℕ) (standing : Standing) → slice_get standings thread ≡ Some standing → IsAsThread (calls_of script thread) (thread_at (last_machine script) thread) standing
  as_thread = is.machine.threads

  -- all calls of the thread have finished
  all_made : (thread : ℕ) (standing : Standing) → slice_get standings thread ≡ Some standing → length (marks_of thread) ≡ length (calls_of script thread)
  all_made thread standing at =
      let count = is.machine.count in
      let within = slice_get_within standings thread standing at in
      (turns_go_on script rule).finished thread (omega arith)

  idle : (thread : ℕ) (standing : Standing) → slice_get standings thread ≡ Some standing → standing.flight ≡ flight.Idle
  idle thread standing at =
      let all = all_made thread standing at in
      no_flight (thread_at (last_machine script) thread).fixed (slice_get (calls_of script thread) (length (marks_of thread))) standing.flight
      (slice_get_past (calls_of script thread) (length (marks_of thread)) (omega arith)) (as_thread thread standing at).flight

  -- the standing that a list of entries is of
  standing_at : (thread : ℕ) (mine : List Entry) → slice_get (entry_lists standings) thread ≡ Some mine → (standing : Standing) × (slice_get standings thread ≡ Some standing) × (standing.entries ≡ mine)
  standing_at thread mine at =
      elim (slice_get_cases standings thread).1 [
        | inl found ↦ (found.0, found.2, same_Some found.0.entries mine (ap (option_map (λ (s : Standing). s.entries)) (sym found.2) ∙ (sym (slice_get-map (λ (s : Standing). s.entries) standings thread) ∙ at)))
        | inr past ↦ absurd (none-some mine (sym (slice_get_past (entry_lists standings) thread (omega (arith, past.0, length-map standings (λ (s : Standing). s.entries)))) ∙ at))
      ]

  made : (thread : ℕ) (mine : List Entry) → slice_get (entry_lists standings) thread ≡ Some mine → map (λ (entry : Entry). entry.call) mine ≡ calls_of script thread
  made thread mine at =
      let found = standing_at thread mine at in
      let all = all_made thread found.0 found.1 in
      ap (map (λ (entry : Entry). entry.call)) (sym found.2) ∙ ((as_thread thread found.0 found.1).made ∙ take_all (length (marks_of thread)) (calls_of script thread) (omega arith))

  marks : (thread : ℕ) (mine : List Entry) → slice_get (entry_lists standings) thread ≡ Some mine → map (λ (entry : Entry). entry.waited) mine ≡ marks_of thread
  marks thread mine at = let found = standing_at thread mine at in ap (map (λ (entry : Entry). entry.waited)) (sym found.2) ∙ (as_thread thread found.0 found.1).marks

  -- the entry at its place has the answer of that place
  same_answer : (one : ℕ × ℕ) → one.1 < length (stamps_of (slice_index_or standings one.0 nobody)) → entry_stamp (entry_answered (entry_lists standings) one) ≡ answer_at standings one
  same_answer one low =
      let standing = slice_index_or standings one.0 nobody in
      let within : one.0 < length standings = there in
      let at : slice_get standings one.0 ≡ Some standing = slice_get-get_or standings one.0 nobody within in
      let none : due standing.flight ≡ [] = ap due (idle one.0 standing at) in
      let stamps : stamps_of standing ≡ map entry_stamp standing.entries = ap (λ ss. map entry_stamp standing.entries ++ ss) none ∙ append-nil (map entry_stamp standing.entries) in
      let list : slice_index_or (entry_lists standings) one.0 [] ≡ standing.entries = get_or-map (λ (s : Standing). s.entries) standings one.0 nobody [] within in
      let short : one.1 < length standing.entries = omega (arith, ap length stamps, length-map standing.entries entry_stamp) in
      ap (λ es. entry_stamp (slice_index_or es one.1 no_entry)) list
      ∙ (sym (get_or-map entry_stamp standing.entries one.1 no_entry no_stamp short) ∙ ap (λ ss. slice_index_or ss one.1 no_stamp) (sym stamps))
    where
      there : one.0 < length standings
      there = elim (cases_lt one.0 (length standings)) [
        | inl below ↦ below
        | inr past ↦ absurd (let none : length (stamps_of (slice_index_or standings one.0 nobody)) ≡ 0 = ap (λ (s : Standing). length (stamps_of s)) (get_or_past standings one.0 nobody past) in omega arith)
      ]

  pub finished : HaveFinished script standings
  finished =
      record {
        idle = idle;
        made = made;
        answered = record {
          marks = marks;
          rising = λ earlier later one other less is_one is_other.
              subst (λ s. reached s ≤ (entry_answered (entry_lists standings) other).stamp) (sym (same_answer one (is.order.made earlier one is_one)))
              (subst (λ (s : Stamp). reached (answer_at standings one) ≤ s.number) (sym (same_answer other (is.order.made later other is_other)))
              (is.order.rising earlier later one other less is_one is_other));
        };
      }

pub last_turns_finish : LastTurnsFinish
last_turns_finish script v standings rule is = finished script v standings rule is

pub turns_are_order_runs : TurnsAreOrderRuns
turns_are_order_runs storage script v standings calls history rule is numbered done moved =
    order_runs storage script calls (entry_lists standings) history rule numbered done (finished script v standings rule is).answered moved
