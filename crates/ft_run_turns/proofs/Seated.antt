-- A thread between two turns: what a turn makes of it, and where it stands.
use Rattle.std.proofs.Common.{◌≡◌, ◌≢◌, ℕ, zero, suc, ◌+◌, ◌-◌, ◌<◌, ◌≤◌, Bool, true, false, List, [], ◌∷◌, ◌++◌, length, map, take, Option, None, Some, refl, sym, ap, subst, ◌∙◌, arith, inl, inr}
use Rattle.std.specs.Prelude.{if◌then◌else◌, slice_get, slice_set}
use Rattle.std.proofs.lemmas.List.{length-map, length-take, length_push, map-append}
use Rattle.std.proofs.lemmas.Bool.{cases_lt, false≢true}
use Rattle.std.proofs.lemmas.Option.{none-some, same_Some, slice_get_within}
use Rattle.ft_model.specs.declared.call.Call.{Call}
use Rattle.ft_model.specs.declared.call.Call.TheVariants as call
use Rattle.ft_model.specs.declared.entry.Entry.{Entry}
use Rattle.ft_model.specs.declared.reply.Reply.TheVariants as reply
use Rattle.ft_model.specs.declared.script.ScriptParts.{ScriptParts}
use Rattle.ft_model.specs.Histories.{calls_of}
use Rattle.ft_model.specs.Limits.{most_cursors}
use Rattle.ft_history.proofs.HistoryPlaces.{take_next}
use Rattle.ft_trace.specs.Boxes.{HasMergedBoxes}
use Rattle.ft_trace.specs.declared.View.{View}
use Rattle.ft_trace.specs.declared.Presence.TheVariants as presence
use Rattle.ft_trace.specs.Acts.{announces, presence_of}
use Rattle.ft_bank.specs.declared.tokens.Tokens.{Tokens}
use Rattle.ft_bank.specs.Passes.{shape_of, view}
use Rattle.ft_bank.specs.PassSections.{stack_of}
use Rattle.ft_bank_history.specs.Numbering.{IsFor}
use Rattle.ft_engine.specs.declared.attempts.Tried.{Tried}
use Rattle.ft_engine.specs.declared.attempts.Tried.TheVariants as tried
use Rattle.ft_engine.specs.declared.caller.Caller.{Caller}
use Rattle.ft_engine.specs.declared.caller.Flight.{Flight}
use Rattle.ft_engine.specs.declared.caller.Flight.TheVariants as flight
use Rattle.ft_engine.specs.declared.engine.Engine.{Engine}
use Rattle.ft_engine.specs.Attempts.{flight_after, entries_with_answer}
use Rattle.ft_engine.specs.Callers.{IsCallerOf, IsIdle, bank_of, flight_of, hands_of, pass_of, thread_of}
use Rattle.ft_engine.specs.Flights.{AllowsCall}
use Rattle.ft_engine.specs.Keeping.{WasAnswered, named_entry}
use Rattle.ft_engine.specs.Resting.{HasFloor, IsAsBefore, IsWoken, KeepsFloor, RestsAs}
use Rattle.ft_engine.specs.Visits.{SameCallerWork}
use Rattle.ft_turns.specs.Ends.{after_turns}
use Rattle.ft_turns.specs.Orders.{Machine, awaited_by, next_call, ready_call, thread_at}
use Rattle.ft_turns.proofs.TurnParts.{ready_none}
use Rattle.ft_turn_laws.specs.Standing.{Standing, standing_of}
use Rattle.ft_turn_laws.specs.Turns.{AreInStep, IsTurnOf}
use Rattle.ft_turn_laws.proofs.InStep.{learns_are_turns, tries_are_turns}
use Rattle.ft_turn_laws.proofs.LearnedTurns.{spent_turns}
use Rattle.ft_turn_laws.proofs.BeforeTurns.{handed_on, resting_stand, woken_have_floor}
use Rattle.ft_run_threads.specs.Workers.{IsBankFor, IsMember}
use Rattle.ft_run_threads.proofs.Between.{stays_member, visited_member}
use Rattle.ft_run_threads.proofs.WholeLists.{max_some}
use Rattle.ft_run_turns.specs.declared.seats.Seat.{Seat}
use Rattle.ft_run_turns.specs.Internal.CallerSeats.{StaysInStep, HasLearned, HasTried, IsBetweenTurns, IsGiver, TokensStayInStep, ends_call, standing_in}
use Rattle.ft_run_turns.proofs.Visited.{visited_step}
use Rattle.ft_bank.specs.Closings.{HasBeenOnline}
use Rattle.ft_engine.specs.Presences.{IsStillOnline}

-- ---- who is woken is between two turns still

pub woken_between : (e : Engine) (script : ScriptParts) (i : ℕ) (c d : Caller) (mine : List Entry) → IsBetweenTurns e script i c mine → IsAsBefore c d → IsCallerOf e d → IsBetweenTurns e script i d mine
woken_between e script i c d mine is before caller =
    record {
      member = visited_member e i c d is.member before.same caller;
      cursors = ap length before.same.cursors ∙ is.cursors;
      kept = before.kept mine is.kept;
      made = is.made;
      next = λ called at. subst (λ (f : Flight). AllowsCall f called) (sym before.same.flight) (is.next called at);
      idle = λ named index at. before.same.flight ∙ is.idle named index at;
      online = λ low. let on = is.online low in (subst (λ n. 0 < n) (sym before.announced) on.0, before.presence ∙ on.1);
      done = λ all. let end = is.done all in (before.same.flight ∙ end.0, before.announced ∙ end.1, subst HasBeenOnline (sym before.presence) end.2, before.same.merged end.3);
    }

-- no more calls were made than there are
pub few_made : (e : Engine) (script : ScriptParts) (i : ℕ) (c : Caller) (mine : List Entry) → IsBetweenTurns e script i c mine → length mine ≤ length (calls_of script i)
few_made e script i c mine is =
    let long = sym (length-map mine (λ (entry : Entry). entry.call)) ∙ (ap length is.made ∙ length-take (length mine) (calls_of script i)) in
    omega (arith, long)

-- ---- after a try

-- the caller is online still, whatever the try came to
pub record IsAfterTry (e : Engine) (script : ScriptParts) (i : ℕ) (d : Caller) (after : List Entry) : Type 0 where
  pub member : IsMember e i d
  pub cursors : length (hands_of d) ≡ most_cursors
  pub kept : WasAnswered d after
  pub made : map (λ entry. entry.call) after ≡ take (length after) (calls_of script i)
  pub next : (called : Call) → slice_get (calls_of script i) (length after) ≡ Some called → AllowsCall (flight_of d) called
  pub online : (0 < announces (view (pass_of d)).log) × IsStillOnline d
  pub still : (named index : ℕ) → slice_get (calls_of script i) (length after) ≡ Some (call.Await named index) → IsIdle d
  pub idle : length (calls_of script i) ≤ length after → IsIdle d

module _ (e : Engine) (script : ScriptParts) (i : ℕ) (c : Caller) (mine : List Entry) (is : IsBetweenTurns e script i c mine) (called : Call) (at : slice_get (calls_of script i) (length mine) ≡ Some called) (other : awaited_by called ≡ None) where
  abbrev calls : List Call
  calls = calls_of script i

  low : length mine < length calls
  low = slice_get_within calls (length mine) called at

  abbrev after_of : Tried → List Entry
  after_of t = entries_with_answer (thread_of c) called t mine

  made_after : (t : Tried) → map (λ (entry : Entry). entry.call) (after_of t) ≡ take (length (after_of t)) calls
  made_after (tried.Done said stamp mark) =
      let entry = named_entry (thread_of c) mine called said stamp mark in
      map-append (λ (x : Entry). x.call) mine (entry ∷ [])
      ∙ (ap (λ (cs : List Call). cs ++ called ∷ []) is.made
      ∙ (sym (take_next calls (length mine) called at) ∙ ap (λ n. take n calls) (sym (length_push mine entry))))
  made_after (tried.NotYet o owner) = is.made
  made_after (tried.Moved first second) = is.made
  made_after tried.NoMemory = is.made

  next_after : (t : Tried) (f : Flight) → (t ≡ tried.NoMemory → ⊥) → flight_after called t f → (more : Call) → slice_get calls (length (after_of t)) ≡ Some more → AllowsCall f more
  next_after (tried.Done said stamp mark) f memory flies more there = subst (λ (g : Flight). AllowsCall g more) (sym flies) tt
  next_after (tried.NotYet o owner) f memory flies more there = subst (AllowsCall f) (same_Some called more (sym at ∙ there)) flies.0
  next_after (tried.Moved first second) f memory flies more there = subst (λ (g : Flight). AllowsCall g more) (sym flies) (same_Some called more (sym at ∙ there))
  next_after tried.NoMemory f memory flies more there = absurd (memory refl)

  idle_after : (t : Tried) (f : Flight) → flight_after called t f → length calls ≤ length (after_of t) → f ≡ flight.Idle
  idle_after (tried.Done said stamp mark) f flies all = flies
  idle_after (tried.NotYet o owner) f flies all = absurd (let l = low in omega (arith, all, l))
  idle_after (tried.Moved first second) f flies all = absurd (let l = low in omega (arith, all, l))
  idle_after tried.NoMemory f flies all = absurd (let l = low in omega (arith, all, l))

  -- what was tried is no `await`
  still_after : (t : Tried) (f : Flight) → (t ≡ tried.NoMemory → ⊥) → flight_after called t f → (named index : ℕ) → slice_get calls (length (after_of t)) ≡ Some (call.Await named index) → f ≡ flight.Idle
  still_after (tried.Done said stamp mark) f memory flies named index there = flies
  still_after (tried.NotYet o owner) f memory flies named index there = absurd (none-some _ (sym other ∙ ap awaited_by (same_Some called (call.Await named index) (sym at ∙ there))))
  still_after (tried.Moved first second) f memory flies named index there = absurd (none-some _ (sym other ∙ ap awaited_by (same_Some called (call.Await named index) (sym at ∙ there))))
  still_after tried.NoMemory f memory flies named index there = absurd (memory refl)

  pub after_try : (t : Tried) (d : Caller) → IsTurnOf e called t c d → IsAfterTry e script i d (after_of t)
  after_try t d turned =
      let tried = turned.tried in
      record {
        member = stays_member e i c d is.member tried.same tried.caller;
        cursors = tried.same.room ∙ is.cursors;
        kept = tried.kept mine is.kept;
        made = made_after t;
        next = next_after t (flight_of d) turned.memory tried.flight;
        still = still_after t (flight_of d) turned.memory tried.flight;
        online = let on = is.online low in (tried.same.pass.online on.0, tried.same.pass.stays_online on.1);
        idle = idle_after t (flight_of d) tried.flight;
      }

-- it has calls left
pub more_between : (e : Engine) (script : ScriptParts) (i : ℕ) (d : Caller) (after : List Entry) → IsAfterTry e script i d after → length after < length (calls_of script i) → IsBetweenTurns e script i d after
more_between e script i d after is more =
    record { member = is.member; cursors = is.cursors; kept = is.kept; made = is.made; next = is.next; idle = is.still; online = λ _. is.online; done = λ all. absurd (omega (arith, all, more)) }

-- it has gone offline after its last one
pub left_between : (e : Engine) (script : ScriptParts) (i : ℕ) (c d : Caller) (after : List Entry) → IsAfterTry e script i c after → length (calls_of script i) ≤ length after → SameCallerWork c d → IsCallerOf e d
    → ((mine : List Entry) → WasAnswered c mine → WasAnswered d mine) → announces (view (pass_of d)).log ≡ 0 → HasMergedBoxes (view (pass_of d)).log → (IsStillOnline c → presence_of (view (pass_of d)).log ≡ presence.Over) → IsBetweenTurns e script i d after
left_between e script i c d after is all same caller kept offline merged over =
    record {
      member = visited_member e i c d is.member same caller;
      cursors = ap length same.cursors ∙ is.cursors;
      kept = kept after is.kept;
      made = is.made;
      next = λ called at. subst (λ (f : Flight). AllowsCall f called) (sym (same.flight ∙ is.idle all)) tt;
      idle = λ named index at. same.flight ∙ is.idle all;
      online = λ low. absurd (omega (arith, all, low));
      done = λ _. (same.flight ∙ is.idle all, offline, subst HasBeenOnline (sym (over is.online.1)) tt, merged);
    }

-- ---- a turn

not_last : (n m k : ℕ) → n < m → k ≡ n + 1 → (n + 1 ≡ m → ⊥) → k < m
not_last n m k low longer more =
    elim (cases_lt k m) [
      | inl less ↦ less
      | inr past ↦ absurd (more (omega (arith, low, longer, past)))
    ]

kept_still : (thread : ℕ) (called : Call) (t : Tried) (mine : List Entry) → false ≡ ends_call t → entries_with_answer thread called t mine ≡ mine
kept_still thread called (tried.Done said stamp mark) mine went = absurd (false≢true went)
kept_still thread called (tried.NotYet o owner) mine went = refl
kept_still thread called (tried.Moved first second) mine went = refl
kept_still thread called tried.NoMemory mine went = refl

kept_more : (thread : ℕ) (called : Call) (t : Tried) (mine : List Entry) → true ≡ ends_call t → length (entries_with_answer thread called t mine) ≡ length mine + 1
kept_more thread called (tried.Done said stamp mark) mine went = length_push mine (named_entry thread mine called said stamp mark)
kept_more thread called (tried.NotYet o owner) mine went = absurd (false≢true (sym went))
kept_more thread called (tried.Moved first second) mine went = absurd (false≢true (sym went))
kept_more thread called tried.NoMemory mine went = absurd (false≢true (sym went))

module _ (e : Engine) (script : ScriptParts) (i : ℕ) (c d : Caller) (mine after : List Entry) (called : Call) (is : IsBetweenTurns e script i c mine) (at : slice_get (calls_of script i) (length mine) ≡ Some called) (other : awaited_by called ≡ None) where
  after_it : (went : Bool) → HasTried e called c mine d after went → IsAfterTry e script i d after
  after_it went has = subst (IsAfterTry e script i d) (sym has.entries) (after_try e script i c mine is called at other has.answer d has.turn)

  pub count_waits : HasTried e called c mine d after false → length after ≡ length mine
  count_waits has = ap length (has.entries ∙ kept_still (thread_of c) called has.answer mine has.ended)

  pub count_ends : HasTried e called c mine d after true → length after ≡ length mine + 1
  count_ends has = ap length has.entries ∙ kept_more (thread_of c) called has.answer mine has.ended

  pub waits_between : HasTried e called c mine d after false → IsBetweenTurns e script i d after
  waits_between has =
      let low = slice_get_within (calls_of script i) (length mine) called at in
      let same = count_waits has in
      more_between e script i d after (after_it false has) (omega (arith, low, same))

  pub goes_between : HasTried e called c mine d after true → (length mine + 1 ≡ length (calls_of script i) → ⊥) → IsBetweenTurns e script i d after
  goes_between has more =
      let low = slice_get_within (calls_of script i) (length mine) called at in
      let longer = count_ends has in
      more_between e script i d after (after_it true has) (not_last (length mine) (length (calls_of script i)) (length after) low longer more)

  pub leaves_between : HasTried e called c mine d after true → length mine + 1 ≡ length (calls_of script i) → (x : Caller) → SameCallerWork d x → IsCallerOf e x → ((own : List Entry) → WasAnswered d own → WasAnswered x own)
      → announces (view (pass_of x)).log ≡ 0 → HasMergedBoxes (view (pass_of x)).log → (IsStillOnline d → presence_of (view (pass_of x)).log ≡ presence.Over) → IsBetweenTurns e script i x after
  leaves_between has last x same caller kept offline merged over =
      let longer = count_ends has in
      left_between e script i d x after (after_it true has) (omega (arith, last, longer)) same caller kept offline merged over

-- after an `await` the caller is in no call
module _ (e : Engine) (script : ScriptParts) (i : ℕ) (c d : Caller) (mine after : List Entry) (named index : ℕ) (is : IsBetweenTurns e script i c mine) (at : slice_get (calls_of script i) (length mine) ≡ Some (call.Await named index)) (has : HasLearned e (call.Await named index) c mine d after) where
  pub count_learned : length after ≡ length mine + 1
  count_learned = ap length has.entries ∙ length_push mine (named_entry (thread_of c) mine (call.Await named index) reply.Done has.stamp None)

  after_learned : IsAfterTry e script i d after
  after_learned =
      let calls = calls_of script i in
      let called : Call = call.Await named index in
      let entry = named_entry (thread_of c) mine called reply.Done has.stamp None in
      let low = slice_get_within calls (length mine) called at in
      record {
        member = stays_member e i c d is.member has.learn.tried.same has.learn.tried.caller;
        cursors = has.learn.tried.same.room ∙ is.cursors;
        kept = subst (WasAnswered d) (sym has.entries) (has.learn.tried.kept mine is.kept);
        made = ap (map (λ (x : Entry). x.call)) has.entries
            ∙ (map-append (λ (x : Entry). x.call) mine (entry ∷ [])
            ∙ (ap (λ (cs : List Call). cs ++ called ∷ []) is.made
            ∙ (sym (take_next calls (length mine) called at) ∙ ap (λ n. take n calls) (sym count_learned))));
        next = λ more there. subst (λ (f : Flight). AllowsCall f more) (sym has.learn.tried.flight) tt;
        online = let on = is.online low in (has.learn.tried.same.pass.online on.0, has.learn.tried.same.pass.stays_online on.1);
        still = λ _ _ _. has.learn.tried.flight;
        idle = λ _. has.learn.tried.flight;
      }

  pub learned_between : (length mine + 1 ≡ length (calls_of script i) → ⊥) → IsBetweenTurns e script i d after
  learned_between more =
      let low = slice_get_within (calls_of script i) (length mine) (call.Await named index) at in
      more_between e script i d after after_learned (not_last (length mine) (length (calls_of script i)) (length after) low count_learned more)

  pub learned_leaves : length mine + 1 ≡ length (calls_of script i) → (x : Caller) → SameCallerWork d x → IsCallerOf e x → ((own : List Entry) → WasAnswered d own → WasAnswered x own)
      → announces (view (pass_of x)).log ≡ 0 → HasMergedBoxes (view (pass_of x)).log → (IsStillOnline d → presence_of (view (pass_of x)).log ≡ presence.Over) → IsBetweenTurns e script i x after
  learned_leaves last x same caller kept offline merged over =
      let longer = count_learned in
      left_between e script i d x after after_learned (omega (arith, last, longer)) same caller kept offline merged over

pub for_bank : (e : Engine) (script : ScriptParts) → IsBankFor script (shape_of (bank_of e)) → 0 < length script.threads → IsFor script (shape_of (bank_of e))
for_bank e script bank some = record { starts = bank.starts; tables = bank.tables; heap = bank.heap; passes = bank.passes ∙ max_some (length script.threads) (λ none. omega (arith, some, none)) }

pub set_found : {X : Type 0} (xs : List X) (i : ℕ) (x : X) → slice_get xs i ≡ Some x → slice_set xs i x ≡ xs
set_found [] i x at = refl
set_found (y ∷ xs) zero x at = ap (λ z. z ∷ xs) (sym (same_Some y x at))
set_found (y ∷ xs) (suc i) x at = ap (λ zs. y ∷ zs) (set_found xs i x at)

module _ (script : ScriptParts) (thread : ℕ) (turns : List ℕ) (v : View) (standings : List Standing) (s : Standing) (at : slice_get standings thread ≡ Some s) (was : AreInStep script turns v standings) where
  abbrev machine : Machine
  machine = after_turns script turns

  -- as many calls have ended as the machine says
  pub marks_count : length (thread_at machine thread).marks ≡ length s.entries
  marks_count = let same = was.machine.threads thread s at in ap length (sym same.marks) ∙ length-map s.entries (λ (entry : Entry). entry.waited)

  -- so its next call is the machine's
  pub next_is : (next : Option Call) → slice_get (calls_of script thread) (length s.entries) ≡ next → next_call script thread (thread_at machine thread) ≡ next
  next_is next at_calls = ap (slice_get (calls_of script thread)) marks_count ∙ at_calls

  -- a turn that is spent changes nothing
  pub spent_turn : ready_call script machine thread ≡ None → AreInStep script (turns ++ thread ∷ []) v (slice_set standings thread s)
  spent_turn none = subst (AreInStep script (turns ++ thread ∷ []) v) (sym (set_found standings thread s at)) (spent_turns script turns thread v standings none was)

pub spent_goes_on : (script : ScriptParts) (thread : ℕ) (c : Caller) (mine : List Entry) → slice_get (calls_of script thread) (length mine) ≡ None → StaysInStep script thread c mine c mine
spent_goes_on script thread c mine none turns standings awake at was =
    spent_turn script thread turns (view (pass_of c)) standings (standing_of c mine) at was
    (ready_none script (after_turns script turns) thread (next_is script thread turns (view (pass_of c)) standings (standing_of c mine) at was None none))

pub try_goes_on : (e : Engine) (script : ScriptParts) (thread : ℕ) (c d : Caller) (mine : List Entry) (called : Call) (t : Tried) → IsFor script (shape_of (bank_of e)) → IsBetweenTurns e script thread c mine
    → slice_get (calls_of script thread) (length mine) ≡ Some called → IsTurnOf e called t c d → StaysInStep script thread c mine d (entries_with_answer (thread_of c) called t mine)
try_goes_on e script thread c d mine called t made_for is at_calls turned turns standings awake at was =
    let number : thread_of c ≡ thread = is.member.thread in
    let after = entries_with_answer (thread_of c) called t mine in
    let next : next_call script thread (thread_at (after_turns script turns) thread) ≡ Some called = next_is script thread turns (view (pass_of c)) standings (standing_of c mine) at was (Some called) at_calls in
    subst (λ n. AreInStep script (turns ++ n ∷ []) (view (pass_of d)) (slice_set standings n (standing_of d after))) number
    (tries_are_turns script e turns standings called t c d mine made_for turned is.kept
    (subst (λ n. slice_get standings n ≡ Some (standing_of c mine)) (sym number) at)
    (subst (λ n. next_call script n (thread_at (after_turns script turns) n) ≡ Some called) (sym number) next)
    was)

-- an `await` that is answered
pub learn_goes_on : (e : Engine) (script : ScriptParts) (thread : ℕ) (c d : Caller) (mine after : List Entry) (named index : ℕ) → IsFor script (shape_of (bank_of e)) → IsBetweenTurns e script thread c mine
    → slice_get (calls_of script thread) (length mine) ≡ Some (call.Await named index) → HasLearned e (call.Await named index) c mine d after → StaysInStep script thread c mine d after
learn_goes_on e script thread c d mine after named index made_for is at_calls has turns standings awake at was =
    let number : thread_of c ≡ thread = is.member.thread in
    let machine = after_turns script turns in
    let called : Call = call.Await named index in
    let next : next_call script thread (thread_at machine thread) ≡ Some called = next_is script thread turns (view (pass_of c)) standings (standing_of c mine) at was (Some called) at_calls in
    let ready : ready_call script machine thread ≡ Some called = ap (λ (b : Bool). if b then None else next_call script thread (thread_at machine thread)) awake ∙ next in
    subst (λ (es : List Entry). AreInStep script (turns ++ thread ∷ []) (view (pass_of d)) (slice_set standings thread (standing_of d es))) (sym has.entries)
    (subst (λ n. AreInStep script (turns ++ n ∷ []) (view (pass_of d)) (slice_set standings n (standing_of d (entries_with_answer (thread_of c) called (tried.Done reply.Done has.stamp None) mine)))) number
    (learns_are_turns script e turns standings named index has.stamp c d mine made_for has.learn is.kept
    (subst (λ n. slice_get standings n ≡ Some (standing_of c mine)) (sym number) at)
    (subst (λ n. ready_call script machine n ≡ Some called) (sym number) ready)
    was))

-- it goes offline then
pub left_goes_on : (e : Engine) (script : ScriptParts) (thread : ℕ) (c d x : Caller) (mine after : List Entry) → IsBankFor script (shape_of (bank_of e)) → IsCallerOf e d → IsCallerOf e x → SameCallerWork d x → KeepsFloor d x → HasFloor d
    → StaysInStep script thread c mine d after → StaysInStep script thread c mine x after
left_goes_on e script thread c d x mine after bank is_d is_x same keeps floor goes turns standings awake at was =
    let flies : x.flight ≡ d.flight = same.flight in
    let stack : stack_of x.pass ≡ stack_of d.pass = same.sections in
    let stands : standing_of d after ≡ standing_of x after = cc in
    subst (λ (s : Standing). AreInStep script (turns ++ thread ∷ []) (view (pass_of x)) (slice_set standings thread s)) stands
    (visited_step e d x is_d is_x same keeps floor script (turns ++ thread ∷ []) (slice_set standings thread (standing_of d after)) bank (goes turns standings awake at was))

-- ---- from tokens to tokens

pub rest_standing : (c : Caller) (s : Seat) → RestsAs c s.caller → standing_of c s.entries.items ≡ standing_in s
rest_standing c s at_rest =
    let flies = at_rest.flight in
    let stack = at_rest.sections in
    cc

pub tokens_go_on : (e : Engine) (script : ScriptParts) (thread : ℕ) (s r : Seat) (t u : Tokens) (w c d : Caller) → RestsAs w s.caller → IsAsBefore w c → IsCallerOf e c → IsWoken t c
    → StaysInStep script thread c s.entries.items d r.entries.items → IsGiver e d u → RestsAs d r.caller → TokensStayInStep e script thread s t r u
tokens_go_on e script thread s r t u w c d at_rest before caller woken goes gives rests turns standings giver awake gave at was =
    let from = woken_have_floor e giver c t gave.caller caller gave.floor gave.hands woken in
    let now = handed_on script turns (view (pass_of giver)) (view (pass_of c)) standings from was in
    let same : standing_of c s.entries.items ≡ standing_in s = (resting_stand w c s.entries.items before).1 ∙ rest_standing w s at_rest in
    let next = goes turns standings awake (at ∙ ap (λ (x : Standing). Some x) (sym same)) now in
    (d, gives, subst (λ (x : Standing). AreInStep script (turns ++ thread ∷ []) (view (pass_of d)) (slice_set standings thread x)) (rest_standing d r rests) next)

-- the turn of a thread with a call left, by what `try_once` says
pub tries_go_on : (e : Engine) (script : ScriptParts) (thread : ℕ) (c d : Caller) (mine after : List Entry) (called : Call) (went : Bool) → IsFor script (shape_of (bank_of e)) → IsBetweenTurns e script thread c mine
    → slice_get (calls_of script thread) (length mine) ≡ Some called → HasTried e called c mine d after went → StaysInStep script thread c mine d after
tries_go_on e script thread c d mine after called went made_for is at has =
    subst (StaysInStep script thread c mine d) (sym has.entries) (try_goes_on e script thread c d mine called has.answer made_for is at has.turn)
