-- An await that is answered to a caller with the floor is one turn of its thread; and a spent turn changes nothing.
use Rattle.std.proofs.Common.{◌≡◌, ℕ, ◌+◌, ◌<◌, ◌≤◌, false, List, [], ◌∷◌, ◌++◌, length, map, take, Option, None, Some, refl, sym, ap, subst, ◌∙◌, arith, inl, inr}
use Rattle.std.specs.Prelude.{◌⊎◌, if◌then◌else◌, slice_get}
use Rattle.std.proofs.lemmas.List.{append-nil, length-map, length_push, map_push}
use Rattle.ft_model.specs.declared.call.Call.{Call}
use Rattle.ft_model.specs.declared.call.Call.TheVariants as call
use Rattle.ft_model.specs.declared.entry.Entry.{Entry}
use Rattle.ft_model.specs.declared.reply.Reply.TheVariants as reply
use Rattle.ft_model.specs.declared.script.ScriptParts.{ScriptParts}
use Rattle.ft_model.specs.Histories.{calls_of}
use Rattle.ft_history.proofs.HistoryPlaces.{take_next}
use Rattle.ft_trace.specs.Acts.{seen_writes}
use Rattle.ft_trace.specs.Addresses.{container_count, lock_of}
use Rattle.ft_bank.specs.Passes.{shape_of, view}
use Rattle.ft_bank.specs.PassSections.{Stack, nothing_taken, stack_of}
use Rattle.ft_bank_history.specs.Numbering.{IsFor}
use Rattle.ft_section.specs.declared.answers.Stamp.{Stamp}
use Rattle.ft_section.specs.Floors.{floor_word, owner_named, owner_of, owner_or}
use Rattle.ft_section.specs.Locking.{TakenUp}
use Rattle.ft_section.specs.Locking.{with_own as keeping}
use Rattle.ft_section.specs.Ready.{HasTop, IsReady, MayResume}
use Rattle.ft_engine.specs.declared.attempts.Tried.TheVariants as tried
use Rattle.ft_engine.specs.declared.caller.Caller.{Caller}
use Rattle.ft_engine.specs.declared.engine.Engine.{Engine}
use Rattle.ft_engine.specs.Attempts.{entries_with_answer}
use Rattle.ft_engine.specs.Callers.{bank_of, pass_of, thread_of}
use Rattle.ft_engine.specs.Flights.{IsIn}
use Rattle.ft_engine.specs.Halves.{HasBothHalves, HasNoAnswer, IsInHalves, KnewTop, WaitsUnanswered}
use Rattle.ft_engine.specs.Keeping.{named_entry}
use Rattle.ft_engine.proofs.SectionCalls.{ready_resumes}
use Rattle.ft_turns.specs.Ends.{after_turns}
use Rattle.ft_turns.specs.Orders.{Locking, Machine, ThreadState, answered_machine, answered_thread, finish_try, finished_thread, next_call, ready_call, take_locks, thread_at, turn, with_locking}
use Rattle.ft_turns.proofs.LocksOnce.{IsOwned}
use Rattle.ft_turns.proofs.MachineSteps.{wanted, wanted_again}
use Rattle.ft_turns.proofs.TurnParts.{idle_turn, ready_next}
use Rattle.ft_turn_laws.specs.LockOwners.{owners_in}
use Rattle.ft_turn_laws.specs.MatchingStacks.{IsAsStack}
use Rattle.ft_turn_laws.specs.Ordered.{AreAnswersInOrder, due, entry_stamp, stamps_of}
use Rattle.ft_turn_laws.specs.Standing.{AreAsMachine, IsAsFlight, IsAsThread, Standing, standing_of}
use Rattle.ft_turn_laws.specs.Turns.{IsLearnOf, SpentTurnsChangeNothing}
use Rattle.ft_turn_laws.proofs.CallerTurns.{count_for, one_more_turn, owned_after}
use Rattle.ft_turn_laws.proofs.PassSteps.{SameFloor, counted_of, floor_stays, has_of, in_call, owners_then}
use Rattle.ft_turn_laws.proofs.SecondHalf.{takes_up}
use Rattle.ft_turn_laws.proofs.StackSteps.{answers}
use Rattle.ft_turn_laws.proofs.StepsOfTries.{answers_step}
use Rattle.ft_turn_laws.proofs.TriedTurns.{TurnOutcome, comes_from, ready_top}
use Rattle.ft_turn_laws.proofs.TurnMoments.{IsCounted, Stands, owner_after}
use Rattle.ft_turn_laws.proofs.TurnOutcomes.{Comes, answered}

module _ (script : ScriptParts) (e : Engine) (turns : List ℕ) (standings : List Standing) (named index : ℕ) (stamp : Stamp) (c d : Caller) (mine : List Entry)
    (made_for : IsFor script (shape_of (bank_of e))) (is : IsLearnOf e (call.Await named index) stamp c d)
    (at : slice_get standings (thread_of c) ≡ Some (standing_of c mine))
    (ready : ready_call script (after_turns script turns) (thread_of c) ≡ Some (call.Await named index))
    (was : AreAsMachine script (after_turns script turns) (owners_in (view (pass_of c))) standings) where
  abbrev thread : ℕ
  thread = thread_of c

  abbrev machine : Machine
  machine = after_turns script turns

  abbrev state : ThreadState
  state = thread_at (after_turns script turns) (thread_of c)

  abbrev calls : List Call
  calls = calls_of script (thread_of c)

  abbrev called : Call
  called = call.Await named index

  abbrev seen : ℕ
  seen = seen_writes (view c.pass)

  abbrev own : Stack
  own = stack_of c.pass

  next : next_call script (thread_of c) (thread_at (after_turns script turns) (thread_of c)) ≡ Some (call.Await named index)
  next = ready_next script machine thread called ready

  as_thread : IsAsThread (calls_of script (thread_of c)) (thread_at (after_turns script turns) (thread_of c)) (standing_of c mine)
  as_thread = was.threads thread (standing_of c mine) at

  unfixed : (thread_at (after_turns script turns) (thread_of c)).fixed ≡ false
  unfixed = subst (IsAsFlight (slice_get calls (length state.marks)) state.fixed) is.idle as_thread.flight

  between : IsReady e.bank c.pass
  between = subst (IsIn e.bank c.pass c.cursors.items) is.idle is.caller.inside

  count : container_count (view c.pass).shape ≡ length script.containers
  count = ap container_count is.caller.pass.1 ∙ count_for script (shape_of e.bank) made_for

  inv : IsOwned script (after_turns script turns)
  inv = owned_after script turns

  counted : IsCounted (has_of c.pass) (stack_of c.pass)
  counted = counted_of c.pass (in_call e.bank c.pass c.cursors.items c.flight is.caller.inside)

  stands : Stands script (after_turns script turns) (thread_of c) (owners_in (view c.pass)) (has_of c.pass) (stack_of c.pass)
  stands = record { stack = as_thread.stack; counted = counted; locks = was.locks }

  -- ---- the answer

  same : SameFloor (view c.pass) (view c.pass)
  same = record { number = refl; shape = refl; floor = refl; since = refl }

  are_still : (o : ℕ) → o < length script.containers → owners_in (view c.pass) o ≡ owner_after (thread_of c) (owners_in (view c.pass)) (has_of c.pass) (has_of c.pass) o
  are_still o below = let low = count in owners_then c.pass c.pass thread refl same is.floor o (omega arith)

  abbrev locked : Locking
  locked = take_locks (thread_of c) (after_turns script turns).holders (wanted script (after_turns script turns) (thread_of c) (call.Await named index))

  keeps_all : stack_of c.pass ≡ keeping (stack_of c.pass) nothing_taken
  keeps_all = ap (λ o. keeping (stack_of c.pass) o) between.own

  answered_stack : IsAsStack (answered_thread (with_locking (thread_at (after_turns script turns) (thread_of c)) locked) (call.Await named index)) (stack_of c.pass)
  answered_stack = answers state own own locked called refl stands.stack keeps_all

  abbrev mid : Machine
  mid = answered_machine (after_turns script turns) (thread_of c) (thread_at (after_turns script turns) (thread_of c)) (call.Await named index) locked

  halfway_stands : Stands script mid (thread_of c) (owners_in (view c.pass)) (has_of c.pass) (stack_of c.pass)
  halfway_stands =
      answers_step script machine thread called (owners_in (view c.pass)) (owners_in (view c.pass)) (has_of c.pass) (has_of c.pass) own own inv stands counted are_still
      (wanted script machine thread called) (record { next = next; state = unfixed; asks = refl }) refl answered_stack

  fixes : (turn script (after_turns script turns) (thread_of c) ≡ finish_try mid (thread_of c))
      × IsOwned script mid
      × Comes script (after_turns script turns) mid (thread_of c) (owners_in (view c.pass)) (has_of c.pass) (stack_of c.pass) (answered_thread (with_locking (thread_at (after_turns script turns) (thread_of c)) locked) (call.Await named index)) ((after_turns script turns).answered ++ (thread_of c, length (thread_at (after_turns script turns) (thread_of c)).marks) ∷ [])
  fixes = answered script machine thread called (owners_in (view c.pass)) (owners_in (view c.pass)) (has_of c.pass) (has_of c.pass) own own inv stands counted are_still next ready refl unfixed halfway_stands

  -- ---- the end of the call

  marks : (thread_at mid (thread_of c)).marks ≡ (thread_at (after_turns script turns) (thread_of c)).marks
  marks = ap (λ (s : ThreadState). s.marks) fixes.2.state

  same_after : SameFloor (view c.pass) (view d.pass)
  same_after = floor_stays (view c.pass) (view d.pass) is.tried.same.pass

  are_after : (o : ℕ) → o < length script.containers → owners_in (view d.pass) o ≡ owner_after (thread_of c) (owners_in (view c.pass)) (has_of c.pass) (has_of d.pass) o
  are_after o below = let low = count in owners_then c.pass d.pass thread refl same_after is.floor o (omega arith)

  both_halves : (HasNoAnswer e.bank c.cursors.items (call.Await named index) c.pass d.pass (tried.Done reply.Done stamp None) × WaitsUnanswered (call.Await named index) (tried.Done reply.Done stamp None) d.flight)
      ⊎ HasBothHalves e.bank c.cursors.items (call.Await named index) c.pass d.pass (tried.Done reply.Done stamp None) d.flight
      → HasBothHalves e.bank c.cursors.items (call.Await named index) c.pass d.pass (tried.Done reply.Done stamp None) d.flight
  both_halves (inl none) = absurd none.0
  both_halves (inr both) = both

  halves : HasBothHalves e.bank c.cursors.items (call.Await named index) c.pass d.pass (tried.Done reply.Done stamp None) d.flight
  halves = both_halves (subst (λ f. IsInHalves f e.bank c.cursors.items (call.Await named index) c.pass d.pass (tried.Done reply.Done stamp None) d.flight) is.idle is.tried.halves)

  taken_up : TakenUp (stack_of c.pass) (stack_of d.pass)
  taken_up = subst (λ (s : Stack). TakenUp s (stack_of d.pass)) (halves.answer.0.stack ∙ sym keeps_all) halves.taken.3

  sees : seen_writes (view c.pass) ≤ stamp.number
  sees = subst (λ (s : Stamp). seen ≤ s.number) (sym halves.taken.1) halves.answer.0.entry.seen

  -- the locks of the innermost section are its own
  knew : KnewTop c.pass None
  knew = λ floor outer top cut.
      let has = between.top outer top cut in
      let v = view c.pass in
      let lower = top.locks.lower in
      let upper = top.locks.upper in
      ap (λ b. owner_or lower (if b then None else owner_named (floor_word (lock_of lower) v)) (owner_or upper (owner_of upper v) None)) has.0
      ∙ ap (λ b. owner_or upper (if b then None else owner_named (floor_word (lock_of upper) v)) None) has.1

  comes : Comes script mid (finish_try mid (thread_of c)) (thread_of c) (owners_in (view d.pass)) (has_of d.pass) (stack_of d.pass) (finished_thread (with_locking (thread_at mid (thread_of c)) (take_locks (thread_of c) mid.holders (wanted_again mid (thread_of c))))) mid.answered
  comes =
      takes_up script mid thread called e.bank c.pass d.pass count is.floor fixes.1 fixes.2.stands (ready_resumes e.bank c.pass between)
      (counted_of d.pass (in_call e.bank d.pass d.cursors.items d.flight is.tried.caller.inside)) are_after
      (ap (λ (ms : List (Option ℕ)). slice_get calls (length ms)) marks ∙ next) (ap (λ (s : ThreadState). s.fixed) fixes.2.state)
      taken_up knew (ready_top e d is.tried.caller.inside is.tried.flight)

  before : stamps_of (standing_of c mine) ≡ map entry_stamp mine
  before = ap (λ f. map entry_stamp mine ++ due f) is.idle ∙ append-nil (map entry_stamp mine)

  pub learned : TurnOutcome script (after_turns script turns) (turn script (after_turns script turns) (thread_of c)) (thread_of c) (owners_in (view d.pass)) (has_of d.pass) (standing_of c mine) (standing_of d (entries_with_answer (thread_of c) (call.Await named index) (tried.Done reply.Done stamp None) mine)) (seen_writes (view c.pass))
  learned =
      let entry = named_entry thread mine called reply.Done stamp None in
      let halfway : ThreadState = thread_at mid thread in
      let after : ThreadState = finished_thread (with_locking halfway (take_locks thread mid.holders (wanted_again mid thread))) in
      let long : length after.marks ≡ length state.marks + 1 = length_push halfway.marks halfway.mark ∙ ap (λ (ms : List (Option ℕ)). length ms + 1) marks in
      record {
        now = after;
        answered = mid.answered;
        comes = comes_from script machine mid (finish_try mid thread) (turn script machine thread) thread (owners_in (view d.pass)) (has_of d.pass) (stack_of d.pass) after mid.answered fixes.0 fixes.2.others comes;
        made =
            map_push (λ (one : Entry). one.call) mine entry
            ∙ (ap (λ cs. cs ++ called ∷ []) as_thread.made ∙ (sym (take_next calls (length state.marks) called next) ∙ ap (λ n. take n calls) (sym long)));
        marks =
            map_push (λ (one : Entry). one.waited) mine entry
            ∙ (ap (λ ms. ms ++ None ∷ []) (as_thread.marks ∙ sym marks) ∙ ap (λ m. halfway.marks ++ m ∷ []) (sym (fixes.2.stands.stack.mark ∙ between.mark)));
        flight = subst (IsAsFlight (slice_get calls (length after.marks)) false) (sym is.tried.flight) refl;
        recorded = inr (
          stamp,
          refl,
          ap (λ f. map entry_stamp (mine ++ entry ∷ []) ++ due f) is.tried.flight
              ∙ (append-nil (map entry_stamp (mine ++ entry ∷ []))
              ∙ (map_push entry_stamp mine entry ∙ ap (λ ss. ss ++ stamp ∷ []) (sym before))),
          sees,
          ap length before ∙ (length-map mine entry_stamp ∙ (sym (length-map mine (λ (one : Entry). one.waited)) ∙ ap length as_thread.marks)),
        );
      }

-- ---- a turn that is spent

pub spent_turns : SpentTurnsChangeNothing
spent_turns script turns thread v standings none was =
    let machine = after_turns script turns in
    let same : machine ≡ after_turns script (turns ++ thread ∷ []) = sym (one_more_turn script turns thread ∙ idle_turn script machine thread none) in
    record {
      machine = subst (λ (m : Machine). AreAsMachine script m (owners_in v) standings) same was.machine;
      order = subst (λ (m : Machine). AreAnswersInOrder m.answered standings (seen_writes v)) same was.order;
    }
