-- One try of the next call of a caller that has the floor is one turn of its thread.
use Rattle.std.proofs.Common.{◌≡◌, ◌≢◌, ℕ, ◌<◌, Bool, List, [], ◌∷◌, ◌++◌, length, map, take, Option, Some, refl, sym, ap, subst, ◌∙◌, arith, inl, inr}
use Rattle.std.specs.Prelude.{◌⊎◌, slice_get, slice_index_or, slice_set}
use Rattle.std.specs.Option.{option_map}
use Rattle.std.proofs.lemmas.Bool.{cases_eq}
use Rattle.std.proofs.lemmas.List.{get_or-set_other, get_or-set_same, length-map, length-set}
use Rattle.std.proofs.lemmas.List.Sums.{fold_push}
use Rattle.std.proofs.lemmas.Option.{get_or_from_slice_get, slice_get-get_or, slice_get_within}
use Rattle.ft_model.specs.declared.call.Call.{Call}
use Rattle.ft_model.specs.declared.cursor.Cursor.{Cursor}
use Rattle.ft_model.specs.declared.entry.Entry.{Entry}
use Rattle.ft_model.specs.declared.script.Declaration.{Declaration}
use Rattle.ft_model.specs.declared.script.ScriptParts.{ScriptParts}
use Rattle.ft_model.specs.Histories.{calls_of}
use Rattle.ft_model.specs.Worlds.{container_of, cursor_at}
use Rattle.ft_trace.specs.declared.Shape.{Shape}
use Rattle.ft_trace.specs.Addresses.{container_count}
use Rattle.ft_trace.specs.Hands.{cursor_in}
use Rattle.ft_bank.specs.Passes.{view}
use Rattle.ft_bank_history.specs.Marks.{walked_by}
use Rattle.ft_bank_history.specs.Numbering.{IsFor}
use Rattle.ft_engine.specs.declared.caller.Caller.{Caller}
use Rattle.ft_engine.specs.declared.caller.Flight.{Flight}
use Rattle.ft_engine.specs.declared.caller.Flight.TheVariants as flight
use Rattle.ft_engine.specs.Flights.{IsFlightAnswered}
use Rattle.ft_engine.specs.Keeping.{WasAnswered}
use Rattle.ft_engine.specs.Owning.{walked_due}
use Rattle.ft_engine.proofs.Callers.{at_hand}
use Rattle.ft_turns.specs.Ends.{after_turns}
use Rattle.ft_turns.specs.Orders.{ThreadState, cursor_containers, start_machine, thread_at, turn}
use Rattle.ft_turns.proofs.MachineSteps.{turns_keep}
use Rattle.ft_turns.proofs.LocksOnce.{IsOwned, owned_start, owned_steps}
use Rattle.ft_turn_laws.specs.Standing.{AreAsMachine, IsAsFlight, IsAsThread, Standing}
use Rattle.ft_turn_laws.proofs.Needed.{cursor_same, over_list}
use Rattle.ft_turn_laws.proofs.TurnOutcomes.{Comes}

-- ---- the script's containers

pub count_for : (script : ScriptParts) (k : Shape) → IsFor script k → container_count k ≡ length script.containers
count_for script k is = ap length is.starts ∙ length-map script.containers (λ (one : Declaration). one.start)

pub owned_after : (script : ScriptParts) (turns : List ℕ) → IsOwned script (after_turns script turns)
owned_after script turns = turns_keep script (IsOwned script) (owned_steps script) (start_machine script) turns (owned_start script)

pub one_more_turn : (script : ScriptParts) (turns : List ℕ) (thread : ℕ) → after_turns script (turns ++ thread ∷ []) ≡ turn script (after_turns script turns) thread
one_more_turn script turns thread = fold_push (turn script) (start_machine script) turns thread

-- ---- cursors

walked_unanswered : (f : Flight) (number : ℕ) (over : Option ℕ) → (IsFlightAnswered f → ⊥) → walked_due f number over ≡ over
walked_unanswered flight.Idle number over unanswered = refl
walked_unanswered (flight.Tried called) number over unanswered = refl
walked_unanswered (flight.Answered called said stamp) number over unanswered = absurd (unanswered tt)
walked_unanswered (flight.Refused called) number over unanswered = refl

-- the container of a cursor of the caller is that of the machine's
pub walks_same : (c : Caller) (mine : List Entry) (before : List Call) → WasAnswered c mine → (IsFlightAnswered c.flight → ⊥) → map (λ (entry : Entry). entry.call) mine ≡ before
    → ((number : ℕ) → number < length c.cursors.items → cursor_at c.cursors.items number ≡ cursor_in number (view c.pass).log)
    → (number : ℕ) (walker : Cursor) → cursor_at c.cursors.items number ≡ Some walker → cursor_containers before number ≡ container_of walker ∷ []
walks_same c mine before kept unanswered made cursors number walker at =
    let own : cursor_in number (view c.pass).log ≡ Some walker = at_hand c.cursors.items (view c.pass) cursors number walker at in
    let walked : walked_by number mine ≡ Some (container_of walker) =
    sym (walked_unanswered c.flight number (walked_by number mine) unanswered) ∙ (sym (kept.1.walked number) ∙ ap (option_map container_of) own) in
    ap (λ calls. cursor_containers calls number) (sym made) ∙ (cursor_same number mine ∙ ap over_list walked)

-- ---- the other threads

set_cases : {X : Type 0} (xs : List X) (place : ℕ) (x y : X) (other : ℕ) → place < length xs → slice_get (slice_set xs place x) other ≡ Some y → ((other ≡ place) × (x ≡ y)) ⊎ ((other ≢ place) × (slice_get xs other ≡ Some y))
set_cases xs place x y other low at =
    elim (cases_eq other place) [
      | inl same ↦
          let there : x ≡ y = sym (get_or-set_same xs place x x low) ∙ (ap (λ o. slice_index_or (slice_set xs place x) o x) (sym same) ∙ get_or_from_slice_get (slice_set xs place x) other y x at) in
          inl (same, there)
      | inr differ ↦
          let within : other < length xs = omega (arith, slice_get_within (slice_set xs place x) other y at, length-set xs place x) in
          let here : slice_index_or xs other x ≡ y = sym (get_or-set_other xs place other x x differ) ∙ get_or_from_slice_get (slice_set xs place x) other y x at in
          inr (differ, slice_get-get_or xs other x within ∙ ap Some here)
    ]

-- the machine after the turn, where the thread stands so
pub whole : (script : ScriptParts) (turns : List ℕ) (thread : ℕ) (standings : List Standing) (old standing : Standing) (owners owners_after : ℕ → Option ℕ) (has : ℕ → Bool) (now : ThreadState) (answered : List (ℕ × ℕ))
    → AreAsMachine script (after_turns script turns) owners standings → slice_get standings thread ≡ Some old
    → Comes script (after_turns script turns) (turn script (after_turns script turns) thread) thread owners_after has standing.stack now answered
    → map (λ (entry : Entry). entry.call) standing.entries ≡ take (length now.marks) (calls_of script thread)
    → map (λ (entry : Entry). entry.waited) standing.entries ≡ now.marks
    → IsAsFlight (slice_get (calls_of script thread) (length now.marks)) now.fixed standing.flight
    → AreAsMachine script (after_turns script (turns ++ thread ∷ [])) owners_after (slice_set standings thread standing)
whole script turns thread standings old standing owners owners_after has now answered was at comes made marks flies =
    let low : thread < length standings = slice_get_within standings thread old at in
    let calls = calls_of script thread in
    let mine : IsAsThread calls (thread_at (turn script (after_turns script turns) thread) thread) standing =
    record {
      made = made ∙ ap (λ (s : ThreadState). take (length s.marks) calls) (sym comes.state);
      marks = marks ∙ ap (λ (s : ThreadState). s.marks) (sym comes.state);
      flight = subst (λ (s : ThreadState). IsAsFlight (slice_get calls (length s.marks)) s.fixed standing.flight) (sym comes.state) flies;
      stack = comes.stands.stack;
    } in
    subst (λ m. AreAsMachine script m owners_after (slice_set standings thread standing)) (sym (one_more_turn script turns thread))
    (record {
      count = length-set standings thread standing ∙ was.count;
      threads = λ other one is. elim (set_cases standings thread standing one other low is) [
        | inl same ↦
            subst (λ (u : ℕ). IsAsThread (calls_of script u) (thread_at (turn script (after_turns script turns) thread) u) one) (sym same.0)
            (subst (IsAsThread calls (thread_at (turn script (after_turns script turns) thread) thread)) same.1 mine)
        | inr before ↦ subst (λ (s : ThreadState). IsAsThread (calls_of script other) s one) (sym (comes.others other before.0)) (was.threads other one before.1)
      ];
      locks = comes.stands.locks;
    })
