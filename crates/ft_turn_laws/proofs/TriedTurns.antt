-- One try of the next call of a caller that has the floor is one turn of its thread: the halves put together.
use Rattle.std.proofs.Common.{◌≡◌, ◌≢◌, ℕ, ◌+◌, ◌-◌, ◌<◌, ◌≤◌, Bool, true, false, List, [], ◌∷◌, ◌++◌, length, map, take, Option, None, Some, refl, sym, ap, subst, ◌∙◌, arith, inl, inr}
use Rattle.std.specs.Prelude.{◌⊎◌, is_some, slice_get}
use Rattle.std.specs.Option.{option_map}
use Rattle.std.proofs.lemmas.Bool.{false≢true}
use Rattle.std.proofs.lemmas.List.{append-nil, length-map, length_push, map_push}
use Rattle.std.proofs.lemmas.Option.{none-some}
use Rattle.ft_model.specs.declared.call.Call.{Call}
use Rattle.ft_model.specs.declared.call.Call.TheVariants as call
use Rattle.ft_model.specs.declared.cursor.Cursor.{Cursor}
use Rattle.ft_model.specs.declared.entry.Entry.{Entry}
use Rattle.ft_model.specs.declared.reply.Reply.{Reply}
use Rattle.ft_model.specs.declared.script.ScriptParts.{ScriptParts}
use Rattle.ft_model.specs.Histories.{calls_of}
use Rattle.ft_model.specs.Worlds.{container_of, cursor_at}
use Rattle.ft_history.proofs.HistoryPlaces.{take_next}
use Rattle.ft_trace.specs.declared.Shape.{Shape}
use Rattle.ft_trace.specs.declared.View.{View}
use Rattle.ft_trace.specs.Acts.{seen_writes}
use Rattle.ft_trace.specs.Addresses.{container_count}
use Rattle.ft_bank.specs.declared.pass.Pass.{Pass}
use Rattle.ft_bank.specs.Passes.{shape_of, view}
use Rattle.ft_bank.specs.PassSections.{Stack, stack_of}
use Rattle.ft_bank_history.specs.Numbering.{IsFor}
use Rattle.ft_section.specs.declared.answers.Objects.{Objects}
use Rattle.ft_section.specs.declared.answers.Objects.TheVariants.{One}
use Rattle.ft_section.specs.declared.answers.Stamp.{Stamp}
use Rattle.ft_section.specs.declared.answers.Step.TheVariants as step
use Rattle.ft_section.specs.Floors.{first_owned}
use Rattle.ft_section.specs.Ready.{HasTop, IsReady, MayResume}
use Rattle.ft_section.specs.LockTakings.{lower_of, upper_of}
use Rattle.ft_engine.specs.declared.attempts.Tried.{Tried}
use Rattle.ft_engine.specs.declared.attempts.Tried.TheVariants as tried
use Rattle.ft_engine.specs.declared.caller.Caller.{Caller}
use Rattle.ft_engine.specs.declared.caller.Flight.{Flight}
use Rattle.ft_engine.specs.declared.caller.Flight.TheVariants as flight
use Rattle.ft_engine.specs.declared.engine.Engine.{Engine}
use Rattle.ft_engine.specs.Answering.{HasLooked, FoundWordsChanged}
use Rattle.ft_engine.specs.Attempts.{flight_after, entries_with_answer}
use Rattle.ft_engine.specs.Callers.{bank_of, pass_of, thread_of}
use Rattle.ft_engine.specs.Contentions.{may_look}
use Rattle.ft_engine.specs.Flights.{IsFlightAnswered, IsIn, objects_of}
use Rattle.ft_engine.specs.Halves.{HasBothHalves, HasNoAnswer, IsInHalves, IsOfTop, IsTakenUp, WaitsAnswered, WaitsUnanswered}
use Rattle.ft_engine.specs.Keeping.{WasAnswered, named_entry}
use Rattle.ft_engine.specs.Asked.{IsCallIn}
use Rattle.ft_turns.specs.Ends.{after_turns}
use Rattle.ft_turns.specs.Orders.{Locking, Machine, ThreadState, answered_machine, cursor_containers, finish_try, awaited_by, finished_thread, next_call, ready_call, take_locks, thread_at, turn, waiting_thread, with_locking}
use Rattle.ft_turns.proofs.MachineSteps.{there, wanted, wanted_again}
use Rattle.ft_turns.proofs.LocksOnce.{IsOwned}
use Rattle.ft_turn_laws.specs.Placings.{pair_of}
use Rattle.ft_turn_laws.specs.Ordered.{due, entry_stamp, stamps_of}
use Rattle.ft_turn_laws.specs.LockOwners.{owners_in}
use Rattle.ft_turn_laws.specs.Standing.{AreAsMachine, IsAsFlight, IsAsThread, Standing, standing_of}
use Rattle.ft_turn_laws.specs.Turns.{IsTurnOf}
use Rattle.ft_turn_laws.proofs.AskedOfTries.{are_low, asks, in_order}
use Rattle.ft_turn_laws.proofs.CallerTurns.{count_for, owned_after, walks_same}
use Rattle.ft_turn_laws.proofs.FirstHalf.{answer_now, found_none, have_none, not_yet_some, own_for, own_none}
use Rattle.ft_turn_laws.proofs.TurnMoments.{IsCounted, Stands, owner_after}
use Rattle.ft_turn_laws.proofs.PassSteps.{SameFloor, counted_of, floor_between, floor_stays, has_of, in_call, owners_then}
use Rattle.ft_turn_laws.proofs.SecondHalf.{takes_up, waits_on}
use Rattle.ft_turn_laws.proofs.StepsOfTries.{none_pushed}
use Rattle.ft_turn_laws.proofs.TurnOutcomes.{Comes, IsWait, answered, waits_turn}
use Rattle.ft_turn_laws.proofs.TurnForms.{again_first, ready_fixed, ready_other}

-- What comes of the turn beside the try: either no answer is made; or this one, and it knows of all writes that had
-- been seen.
abbrev pub IsRecorded : List (ℕ × ℕ) → ℕ × ℕ → List (ℕ × ℕ) → List Stamp → List Stamp → ℕ → Type 0
IsRecorded before one after old new seen =
    ((after ≡ before) × (new ≡ old))
    ⊎ ((stamp : Stamp) × (after ≡ before ++ one ∷ []) × (new ≡ old ++ stamp ∷ []) × (seen ≤ stamp.number) × (length old ≡ one.1))

pub record TurnOutcome (script : ScriptParts) (machine after : Machine) (thread : ℕ) (owners : ℕ → Option ℕ) (has : ℕ → Bool) (old new : Standing) (seen : ℕ) : Type 0 where
  pub now : ThreadState
  pub answered : List (ℕ × ℕ)
  pub comes : Comes script machine after thread owners has new.stack now answered
  pub made : map (λ (one : Entry). one.call) new.entries ≡ take (length now.marks) (calls_of script thread)
  pub marks : map (λ (one : Entry). one.waited) new.entries ≡ now.marks
  pub flight : IsAsFlight (slice_get (calls_of script thread) (length now.marks)) now.fixed new.flight
  pub recorded : IsRecorded machine.answered (thread, length (thread_at machine thread).marks) answered (stamps_of old) (stamps_of new) seen

due_none : (f : Flight) → (IsFlightAnswered f → ⊥) → due f ≡ []
due_none flight.Idle unanswered = refl
due_none (flight.Tried called) unanswered = refl
due_none (flight.Answered called said stamp) unanswered = absurd (unanswered tt)
due_none (flight.Refused called) unanswered = refl

-- the machine in between and then the one after it
pub comes_from : (script : ScriptParts) (machine mid after same : Machine) (thread : ℕ) (owners : ℕ → Option ℕ) (has : ℕ → Bool) (s : Stack) (now : ThreadState) (answered : List (ℕ × ℕ))
    → same ≡ after → ((other : ℕ) → other ≢ thread → thread_at mid other ≡ thread_at machine other) → Comes script mid after thread owners has s now answered → Comes script machine same thread owners has s now answered
comes_from script machine mid after same thread owners has s now answered is before comes =
    subst (λ m. Comes script machine m thread owners has s now answered) (sym is)
    (record { stands = comes.stands; state = comes.state; others = λ other differs. comes.others other differs ∙ before other differs; answers = comes.answers })

-- a pass that waits for a lock of its innermost section has one open
some_open : (p : Pass) (o : ℕ) → IsOfTop o p → (stack_of p).sections ≡ [] → ⊥
some_open p o top none = none_pushed top.0 top.1 (sym top.2 ∙ none)

-- a call that waits needs locks: with the floor no look at it was contended
only_locks : (called : Call) (v w : View) (o owner : ℕ) → v.has_floor ≡ true → HasLooked called v w (step.NotYet o owner) → may_look called ≡ false
only_locks called v w o owner floor looked =
    elim (may_look called) as (λ b. may_look called ≡ b → may_look called ≡ false) [
      | true ↦ λ looks. absurd (false≢true (sym (looked looks).floor ∙ floor))
      | false ↦ λ locks. locks
    ] refl

-- a call of a container, of a section or a `quiesce` awaits nothing
no_await : (k : Shape) (hands : List (Option Cursor)) (called : Call) → IsCallIn k hands called → awaited_by called ≡ None
no_await k hands (call.Await named index) names = absurd names
no_await k hands called names = refl

-- a caller in no call is ready
pub ready_top : (e : Engine) (d : Caller) → IsIn e.bank d.pass d.cursors.items d.flight → d.flight ≡ flight.Idle → HasTop d.pass
ready_top e d inside idle = let r : IsReady e.bank d.pass = subst (IsIn e.bank d.pass d.cursors.items) idle inside in r.top

module _ (script : ScriptParts) (e : Engine) (turns : List ℕ) (standings : List Standing) (called : Call) (t : Tried) (c d : Caller) (mine : List Entry)
    (made_for : IsFor script (shape_of (bank_of e))) (is : IsTurnOf e called t c d) (kept : WasAnswered c mine)
    (at : slice_get standings (thread_of c) ≡ Some (standing_of c mine))
    (next : next_call script (thread_of c) (thread_at (after_turns script turns) (thread_of c)) ≡ Some called)
    (was : AreAsMachine script (after_turns script turns) (owners_in (view (pass_of c))) standings) where
  abbrev thread : ℕ
  thread = thread_of c

  abbrev machine : Machine
  machine = after_turns script turns

  abbrev state : ThreadState
  state = thread_at machine thread

  abbrev calls : List Call
  calls = calls_of script thread

  abbrev hands : List (Option Cursor)
  hands = c.cursors.items

  abbrev seen : ℕ
  seen = seen_writes (view c.pass)

  abbrev Outcome : List Entry → Type 0
  Outcome entries = TurnOutcome script machine (turn script machine thread) thread (owners_in (view d.pass)) (has_of d.pass) (standing_of c mine) (standing_of d entries) seen

  abbrev Result : Type 0
  Result = Outcome (entries_with_answer thread called t mine)

  count : container_count (view c.pass).shape ≡ length script.containers
  count = ap container_count is.caller.pass.1 ∙ count_for script (shape_of e.bank) made_for

  as_thread : IsAsThread calls state (standing_of c mine)
  as_thread = was.threads thread (standing_of c mine) at

  stands : Stands script machine thread (owners_in (view c.pass)) (has_of c.pass) (stack_of c.pass)
  stands = record { stack = as_thread.stack; counted = counted_of c.pass (in_call e.bank c.pass hands c.flight is.caller.inside); locks = was.locks }

  same_floor : SameFloor (view c.pass) (view d.pass)
  same_floor = floor_stays (view c.pass) (view d.pass) is.tried.same.pass

  -- the second half, from a moment at which the call has its answer
  module _ (p : Pass) (mid : Machine) (said : Reply) (stamp : Stamp)
      (same_turn : turn script machine thread ≡ finish_try mid thread)
      (inv : IsOwned script mid) (now : Stands script mid thread (owners_in (view p)) (has_of p) (stack_of p)) (may : MayResume e.bank p)
      (floor : (view p).has_floor ≡ true) (low : container_count (view p).shape ≡ length script.containers) (number : (view p).number - 1 ≡ thread) (onwards : SameFloor (view p) (view d.pass))
      (marks : (thread_at mid thread).marks ≡ state.marks) (fixed : (thread_at mid thread).fixed ≡ true)
      (others : (other : ℕ) → other ≢ thread → thread_at mid other ≡ thread_at machine other)
      (taken : IsTakenUp said stamp p d.pass t) (waits : WaitsAnswered called said stamp t d.flight)
      (recorded : (new : List Stamp) → new ≡ map entry_stamp mine ++ stamp ∷ [] → IsRecorded machine.answered (thread, length state.marks) mid.answered (stamps_of (standing_of c mine)) new seen) where
    still_next : next_call script thread (thread_at mid thread) ≡ Some called
    still_next = ap (λ (ms : List (Option ℕ)). slice_get calls (length ms)) marks ∙ next

    are : (o : ℕ) → o < length script.containers → owners_in (view d.pass) o ≡ owner_after thread (owners_in (view p)) (has_of p) (has_of d.pass) o
    are o below = owners_then p d.pass thread number onwards floor o (omega arith)

    abbrev halfway : ThreadState
    halfway = thread_at mid thread

    abbrev again : Locking
    again = take_locks thread mid.holders (wanted_again mid thread)

    counted : IsCounted (has_of d.pass) (stack_of d.pass)
    counted = counted_of d.pass (in_call e.bank d.pass d.cursors.items d.flight is.tried.caller.inside)

    -- the call finishes
    ends : (reply : Reply) (stamped : Stamp) (mark : Option ℕ) → t ≡ tried.Done reply stamped mark → IsTakenUp said stamp p d.pass (tried.Done reply stamped mark) → Result
    ends reply stamped mark done up =
        let entry = named_entry thread mine called reply stamped mark in
        let idle : d.flight ≡ flight.Idle = subst (λ u. flight_after called u d.flight) done is.tried.flight in
        let comes = takes_up script mid thread called e.bank p d.pass low floor inv now may counted are still_next fixed up.3 up.4 (ready_top e d is.tried.caller.inside idle) in
        let after : ThreadState = finished_thread (with_locking halfway again) in
        let here : Comes script machine (turn script machine thread) thread (owners_in (view d.pass)) (has_of d.pass) (stack_of d.pass) after mid.answered =
        comes_from script machine mid (finish_try mid thread) (turn script machine thread) thread (owners_in (view d.pass)) (has_of d.pass) (stack_of d.pass) after mid.answered same_turn others comes in
        let long : length after.marks ≡ length state.marks + 1 = length_push halfway.marks halfway.mark ∙ ap (λ (ms : List (Option ℕ)). length ms + 1) marks in
        let made : map (λ (one : Entry). one.call) (mine ++ entry ∷ []) ≡ take (length after.marks) calls =
        map_push (λ (one : Entry). one.call) mine entry
        ∙ (ap (λ cs. cs ++ called ∷ []) as_thread.made ∙ (sym (take_next calls (length state.marks) called next) ∙ ap (λ n. take n calls) (sym long))) in
        let marked : map (λ (one : Entry). one.waited) (mine ++ entry ∷ []) ≡ after.marks =
        map_push (λ (one : Entry). one.waited) mine entry
        ∙ (ap (λ ms. ms ++ mark ∷ []) (as_thread.marks ∙ sym marks) ∙ ap (λ m. halfway.marks ++ m ∷ []) (up.2 ∙ sym now.stack.mark)) in
        subst Outcome (sym (ap (λ u. entries_with_answer thread called u mine) done))
        (record {
          now = after;
          answered = mid.answered;
          comes = here;
          made = made;
          marks = marked;
          flight = subst (IsAsFlight (slice_get calls (length after.marks)) false) (sym idle) refl;
          recorded = recorded (stamps_of (standing_of d (mine ++ entry ∷ [])))
              (ap (λ f. map entry_stamp (mine ++ entry ∷ []) ++ due f) idle
              ∙ (append-nil (map entry_stamp (mine ++ entry ∷ []))
              ∙ (map_push entry_stamp mine entry ∙ ap (λ x. map entry_stamp mine ++ x ∷ []) up.1)));
        })

    -- the innermost section has to be waited for
    goes_on : (o owner : ℕ) → t ≡ tried.NotYet o owner → IsTakenUp said stamp p d.pass (tried.NotYet o owner) → WaitsAnswered called said stamp (tried.NotYet o owner) d.flight → Result
    goes_on o owner not_yet up waiting =
        let comes = waits_on script mid thread called e.bank p d.pass low floor inv now may counted are still_next fixed o owner (some_open p o up.3) up.0 up.1 up.2 in
        let after : ThreadState = waiting_thread (with_locking halfway again) owner in
        let here : Comes script machine (turn script machine thread) thread (owners_in (view d.pass)) (has_of d.pass) (stack_of d.pass) after mid.answered =
        comes_from script machine mid (finish_try mid thread) (turn script machine thread) thread (owners_in (view d.pass)) (has_of d.pass) (stack_of d.pass) after mid.answered same_turn others comes in
        subst Outcome (sym (ap (λ u. entries_with_answer thread called u mine) not_yet))
        (record {
          now = after;
          answered = mid.answered;
          comes = here;
          made = as_thread.made ∙ ap (λ (ms : List (Option ℕ)). take (length ms) calls) (sym marks);
          marks = as_thread.marks ∙ sym marks;
          flight = subst (IsAsFlight (slice_get calls (length halfway.marks)) halfway.fixed) (sym waiting) (fixed, still_next);
          recorded = recorded (stamps_of (standing_of d mine)) (ap (λ f. map entry_stamp mine ++ due f) waiting);
        })

    pub second : Result
    second =
        elim t as (λ u. t ≡ u → IsTakenUp said stamp p d.pass u → WaitsAnswered called said stamp u d.flight → Result) [
          | tried.Done reply stamped mark ↦ λ done up _. ends reply stamped mark done up
          | tried.NotYet o owner ↦ λ not_yet up waiting. goes_on o owner not_yet up waiting
          | tried.Moved first other ↦ λ moved up _. absurd up
          | tried.NoMemory ↦ λ none up _. absurd up
        ] refl taken waits

  inv : IsOwned script machine
  inv = owned_after script turns

  -- a call that has no answer yet
  module _ (unanswered : IsFlightAnswered c.flight → ⊥) (unfixed : state.fixed ≡ false) where
    names : IsCallIn (shape_of e.bank) hands called
    names = is.may.names unanswered

    ready : ready_call script machine thread ≡ Some called
    ready = ready_other script machine thread called (no_await (shape_of e.bank) hands called names) next

    walks : (number : ℕ) (walker : Cursor) → cursor_at hands number ≡ Some walker → cursor_containers (take (length state.marks) calls) number ≡ container_of walker ∷ []
    walks = walks_same c mine (take (length state.marks) calls) kept unanswered as_thread.made is.caller.cursors

    has_cursor : (number : ℕ) → called ≡ call.Next number → objects_of hands called ≡ None → ⊥
    has_cursor number next_is none =
        let some : is_some (cursor_at hands number) ≡ true = (subst (IsCallIn (shape_of e.bank) hands) next_is names).1 in
        let nothing : objects_of hands (call.Next number) ≡ None = ap (objects_of hands) (sym next_is) ∙ none in
        elim (cursor_at hands number) as (λ o. is_some o ≡ true → option_map (λ walker. One (container_of walker)) o ≡ None → ⊥) [
          | None ↦ λ absent _. false≢true absent
          | Some walker ↦ λ _ gone. none-some (One (container_of walker)) (sym gone)
        ] some nothing

    there_low : (objects : Objects) → objects_of hands called ≡ Some objects → upper_of objects < length script.containers
    there_low objects named = let low = are_low (shape_of e.bank) hands called objects names is.caller.over named in let n = count_for script (shape_of e.bank) made_for in omega arith

    waits_first : (o owner : ℕ) → t ≡ tried.NotYet o owner → HasNoAnswer e.bank hands called c.pass d.pass (tried.NotYet o owner) → WaitsUnanswered called (tried.NotYet o owner) d.flight → Result
    waits_first o owner not_yet none waiting =
        let tried_it = none.0 in
        let objects = tried_it.0 in
        let locks : may_look called ≡ false = only_locks called (view c.pass) (view d.pass) o owner is.floor none.1 in
        let counted_after = counted_of d.pass (in_call e.bank d.pass d.cursors.items d.flight is.tried.caller.inside) in
        let asked : wanted script machine thread called ≡ pair_of (lower_of objects) (upper_of objects) = asks (take (length state.marks) calls) hands called objects walks tried_it.1 locks in
        let wait : IsWait script (owners_in (view c.pass)) (has_of c.pass) (stack_of c.pass) (stack_of d.pass) (lower_of objects) (upper_of objects) o owner =
        record {
          two = record { order = in_order objects; low = there_low objects tried_it.1 };
          first = not_yet_some (first_owned (lower_of objects) (upper_of objects) (view c.pass)) o owner (tried_it.3 locks is.floor);
          stack = tried_it.2.stack;
          kept = tried_it.2.kept;
        } in
        let comes = waits_turn script machine thread called (owners_in (view c.pass)) (owners_in (view d.pass)) (has_of c.pass) (has_of d.pass) (stack_of c.pass) (stack_of d.pass) inv stands counted_after
        (λ n below. owners_then c.pass d.pass thread refl same_floor is.floor n (let low = count in omega arith)) next ready unfixed (lower_of objects) (upper_of objects) o owner asked wait in
        subst Outcome (sym (ap (λ u. entries_with_answer thread called u mine) not_yet))
        (record {
          now = waiting_thread (with_locking state (take_locks thread machine.holders (wanted script machine thread called))) owner;
          answered = machine.answered;
          comes = comes;
          made = as_thread.made;
          marks = as_thread.marks;
          flight = subst (IsAsFlight (slice_get calls (length state.marks)) state.fixed) (sym waiting) (unfixed, next);
          recorded = inl (refl, ap (λ f. map entry_stamp mine ++ due f) waiting ∙ ap (λ ss. map entry_stamp mine ++ ss) (sym (due_none c.flight unanswered)));
        })

    no_answer : HasNoAnswer e.bank hands called c.pass d.pass t → WaitsUnanswered called t d.flight → Result
    no_answer none waiting =
        elim t as (λ u. t ≡ u → HasNoAnswer e.bank hands called c.pass d.pass u → WaitsUnanswered called u d.flight → Result) [
          | tried.Done reply stamped mark ↦ λ done gone _. absurd gone
          | tried.NotYet o owner ↦ λ not_yet gone waits. waits_first o owner not_yet gone waits
          | tried.Moved first other ↦ λ moved gone _. absurd (let moved : FoundWordsChanged first other (view c.pass) (view d.pass) = gone.5 in false≢true (sym moved.floor ∙ is.floor))
          | tried.NoMemory ↦ λ no_memory gone _. absurd (is.memory no_memory)
        ] refl none waiting

    both_halves : HasBothHalves e.bank hands called c.pass d.pass t d.flight → Result
    both_halves both =
        let mid : Pass = both.mid in
        let answer = both.answer in
        let mid_floor : SameFloor (view c.pass) (view mid) = floor_stays (view c.pass) (view mid) answer.0.entry.pass in
        let resume : MayResume e.bank mid = answer.0.resume in
        let counted_mid : IsCounted (has_of mid) (stack_of mid) = counted_of mid resume.inside.1 in
        let low = count in
        let are_mid : (o : ℕ) → o < length script.containers → owners_in (view mid) o ≡ owner_after thread (owners_in (view c.pass)) (has_of c.pass) (has_of mid) o =
        λ o below. owners_then c.pass mid thread refl mid_floor is.floor o (omega arith) in
        let free : (objects : Objects) → objects_of hands called ≡ Some objects → may_look called ≡ false → first_owned (lower_of objects) (upper_of objects) (view c.pass) ≡ None =
        λ objects named locks. have_none (first_owned (lower_of objects) (upper_of objects) (view c.pass)) (answer.1 objects named locks is.floor) in
        let found = found_none script machine thread hands called (owners_in (view c.pass)) (owners_in (view mid)) (has_of c.pass) (has_of mid) (stack_of c.pass) (stack_of mid) inv stands counted_mid are_mid next walks has_cursor there_low free in
        let now = answer_now script machine thread hands called (owners_in (view c.pass)) (owners_in (view mid)) (has_of c.pass) (has_of mid) (stack_of c.pass) (stack_of mid) inv stands counted_mid are_mid next walks has_cursor there_low free unfixed answer.0.stack
        (λ objects named. own_for e.bank c.pass hands c.flight called objects is.caller.inside unanswered is.may.next named)
        (λ none. own_none e.bank c.pass hands c.flight called is.caller.inside unanswered is.may.next none)
        (λ begins outer top cut. answer.0.top begins outer top cut) in
        let after = answered script machine thread called (owners_in (view c.pass)) (owners_in (view mid)) (has_of c.pass) (has_of mid) (stack_of c.pass) (stack_of mid) inv stands counted_mid are_mid next ready found unfixed now in
        second mid (answered_machine machine thread state called (take_locks thread machine.holders (wanted script machine thread called))) both.said both.stamp
        after.0 after.1 after.2.stands resume (mid_floor.floor ∙ is.floor) (ap container_count mid_floor.shape ∙ count) (ap (λ n. n - 1) mid_floor.number) (floor_between (view c.pass) (view mid) (view d.pass) mid_floor same_floor)
        (ap (λ (s : ThreadState). s.marks) after.2.state) (ap (λ (s : ThreadState). s.fixed) after.2.state) after.2.others both.taken both.waits
        (λ new are. inr (both.stamp, refl, are ∙ ap (λ ss. ss ++ both.stamp ∷ []) (sym before), answer.0.entry.seen, ap length before ∙ (length-map mine entry_stamp ∙ (sym (length-map mine (λ (one : Entry). one.waited)) ∙ ap length as_thread.marks))))
      where
        before : stamps_of (standing_of c mine) ≡ map entry_stamp mine
        before = ap (λ ss. map entry_stamp mine ++ ss) (due_none c.flight unanswered) ∙ append-nil (map entry_stamp mine)

    first_half : (HasNoAnswer e.bank hands called c.pass d.pass t × WaitsUnanswered called t d.flight) ⊎ HasBothHalves e.bank hands called c.pass d.pass t d.flight → Result
    first_half (inl none) = no_answer none.0 none.1
    first_half (inr both) = both_halves both

  -- a call that has its answer
  only_second : (first : Call) (said : Reply) (stamp : Stamp) → c.flight ≡ flight.Answered first said stamp → state.fixed ≡ true → IsTakenUp said stamp c.pass d.pass t × WaitsAnswered called said stamp t d.flight → Result
  only_second first said stamp flies fixed halves =
      let resumes : MayResume e.bank c.pass = (subst (IsIn e.bank c.pass hands) flies is.caller.inside).0 in
      second c.pass machine said stamp (again_first script machine thread called (ready_fixed script machine thread called fixed next) (let low = there script thread state called next in let count_threads = inv.threads in omega arith) fixed)
      inv stands resumes is.floor count refl same_floor refl fixed (λ other differs. refl) halves.0 halves.1
      (λ new are. inl (refl, are ∙ ap (λ f. map entry_stamp mine ++ due f) (sym flies)))

  pub turned : Result
  turned =
      elim c.flight as (λ f. c.flight ≡ f → IsInHalves f e.bank hands called c.pass d.pass t d.flight → IsAsFlight (slice_get calls (length state.marks)) state.fixed f → Result) [
        | flight.Idle ↦ λ flies halves same. first_half (λ a. subst IsFlightAnswered flies a) same halves
        | flight.Tried first ↦ λ flies halves same. first_half (λ a. subst IsFlightAnswered flies a) same.0 halves
        | flight.Answered first said stamp ↦ λ flies halves same. only_second first said stamp flies same.0 halves
        | flight.Refused first ↦ λ flies halves same. absurd halves
      ] refl is.tried.halves as_thread.flight
