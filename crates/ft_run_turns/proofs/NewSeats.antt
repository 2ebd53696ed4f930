-- Threads before their first turn.
use Rattle.std.proofs.Common.{◌≡◌, ℕ, zero, suc, ◌+◌, ◌<◌, List, [], ◌∷◌, ◌++◌, length, Option, None, Some, refl, sym, ap, subst, ◌∙◌, arith}
use Rattle.std.specs.Prelude.{Err, IfOk, Ok, Result, slice_get}
use Rattle.std.specs.Option.{option_map}
use Rattle.std.proofs.lemmas.List.{length-map, length-replicate}
use Rattle.std.proofs.lemmas.List.Sums.{sum_by-cons}
use Rattle.std.proofs.lemmas.Option.{same_Some, slice_get-map, slice_get_within}
use Rattle.ft_model.specs.declared.cursor.Cursor.{Cursor}
use Rattle.ft_model.specs.declared.script.Declaration.{Declaration}
use Rattle.ft_model.specs.declared.entry.Entry.{Entry}
use Rattle.ft_model.specs.declared.script.ScriptParts.{ScriptParts}
use Rattle.ft_model.specs.Histories.{calls_of}
use Rattle.ft_model.specs.Limits.{most_cursors}
use Rattle.ft_trace.specs.declared.Act.{Act}
use Rattle.ft_trace.specs.declared.View.{View}
use Rattle.ft_trace.specs.declared.Presence.TheVariants as presence
use Rattle.ft_trace.specs.Acts.{announces, presence_of}
use Rattle.ft_trace.specs.Addresses.{container_count}
use Rattle.ft_bank.specs.declared.tokens.Tokens.{Tokens}
use Rattle.ft_bank.specs.Passes.{shape_of, view}
use Rattle.ft_bank.specs.PassSections.{no_sections, stack_of}
use Rattle.ft_engine.specs.declared.caller.Caller.{Caller}
use Rattle.ft_engine.specs.declared.caller.Flight.{Flight}
use Rattle.ft_engine.specs.declared.engine.Engine.{Engine}
use Rattle.ft_engine.specs.declared.resting.RestingCaller.{RestingCaller}
use Rattle.ft_engine.specs.Callers.{IsCallerOf, IsFreshCaller, bank_of, pass_of, thread_of}
use Rattle.ft_engine.specs.Flights.{AllowsCall}
use Rattle.ft_engine.specs.Keeping.{WasAnswered}
use Rattle.ft_engine.specs.Resting.{IsAsBefore, IsRestingCallerOf, IsWoken, RestsAs}
use Rattle.ft_engine.specs.Visits.{SameCallerWork}
use Rattle.ft_engine.proofs.NewCallers.{new_kept}
use Rattle.ft_turn_laws.specs.Beginnings.{HasFloorFrom, NoneOwns}
use Rattle.ft_turn_laws.specs.Ordered.{nobody}
use Rattle.ft_turn_laws.specs.Standing.{Standing}
use Rattle.ft_turn_laws.proofs.FreeLocks.{nobodys_are_free, one_more}
use Rattle.ft_turn_laws.proofs.BeforeTurns.{fresh_nobody, new_in_step, same_owners, woken_have_floor}
use Rattle.ft_run_threads.specs.Workers.{IsBankFor}
use Rattle.ft_run_threads.proofs.Between.{visited_member}
use Rattle.ft_run_threads.proofs.WholeLists.{max_some}
use Rattle.ft_trace.specs.Boxes.{HasMergedBoxes}
use Rattle.ft_bank.proofs.DoneBoxes.{merged_at_first}
use Rattle.ft_run_turns.specs.declared.seats.Seat.{Seat}
use Rattle.ft_run_turns.specs.SeatedThreads.{AreOnlineAtStart}
use Rattle.ft_run_turns.specs.Internal.CallerSeats.{AreNewFrom, AreNewSeats, AreSeats, HaveTurned, IsBetweenTurns, IsGiver, IsNewCaller, IsNewRest, IsNewSeat, IsSeatOf, NobodyOwns, seat_entries, entries_made, standing_at, standing_in, standings_of}
use Rattle.ft_bank.specs.Closings.{HasBeenOnline}
use Rattle.ft_engine.specs.Presences.{IsStillOnline}

-- ---- callers

pub fresh_new : (e : Engine) (i : ℕ) (c : Caller) → IsFreshCaller e most_cursors i c → IsNewCaller e i c
fresh_new e i c is =
    record {
      member = record { caller = is.caller; thread = is.thread; next = is.next; parts = is.parts; taken = is.taken };
      idle = is.flight;
      cursors = ap length is.hands ∙ length-replicate {A = Option Cursor} most_cursors None;
      kept = new_kept e most_cursors i c is;
      sections = ap (λ (s : Standing). s.stack) (fresh_nobody e most_cursors i c is);
      offline = ap (λ (log : List Act). announces log) is.log;
      never = ap presence_of is.log;
      merged = subst HasMergedBoxes (sym is.log) merged_at_first;
    }

pub new_as : (e : Engine) (i : ℕ) (c d : Caller) → IsNewCaller e i c → IsAsBefore c d → IsCallerOf e d → IsNewCaller e i d
new_as e i c d is before caller =
    record {
      member = visited_member e i c d is.member before.same caller;
      idle = before.same.flight ∙ is.idle;
      cursors = ap length before.same.cursors ∙ is.cursors;
      kept = before.kept [] is.kept;
      sections = before.same.sections ∙ is.sections;
      offline = before.announced ∙ is.offline;
      never = before.presence ∙ is.never;
      merged = before.same.merged is.merged;
    }

-- it goes online
pub come_between : (e : Engine) (script : ScriptParts) (i : ℕ) (c d : Caller) → IsNewCaller e i c → SameCallerWork c d → IsCallerOf e d → ((mine : List Entry) → WasAnswered c mine → WasAnswered d mine) → 0 < announces (view (pass_of d)).log
    → (presence_of (view (pass_of c)).log ≡ presence.Before → IsStillOnline d) → 0 < length (calls_of script i) → IsBetweenTurns e script i d []
come_between e script i c d is same caller kept online present some =
    record {
      member = visited_member e i c d is.member same caller;
      cursors = ap length same.cursors ∙ is.cursors;
      kept = kept [] is.kept;
      made = refl;
      next = λ called at. subst (λ (f : Flight). AllowsCall f called) (sym (same.flight ∙ is.idle)) tt;
      idle = λ named index at. same.flight ∙ is.idle;
      online = λ low. (online, present is.never);
      done = λ all. absurd (omega (arith, all, some));
    }

-- it has no calls
pub idle_between : (e : Engine) (script : ScriptParts) (i : ℕ) (c : Caller) → IsNewCaller e i c → (0 < length (calls_of script i) → ⊥) → IsBetweenTurns e script i c []
idle_between e script i c is none =
    record {
      member = is.member;
      cursors = is.cursors;
      kept = is.kept;
      made = refl;
      next = λ called at. subst (λ (f : Flight). AllowsCall f called) (sym is.idle) tt;
      idle = λ named index at. is.idle;
      online = λ low. absurd (none low);
      done = λ all. (is.idle, is.offline, subst HasBeenOnline (sym is.never) tt, is.merged);
    }

-- ---- nobody owns a lock

pub none_handed : (e : Engine) (giver d : Caller) (t : Tokens) (count : ℕ) → IsGiver e giver t → IsCallerOf e d → IsWoken t d → NoneOwns (view (pass_of giver)) count → NoneOwns (view (pass_of d)) count
none_handed e giver d t count gave is_d woken none o thread low below owned =
    let from : HasFloorFrom (view (pass_of giver)) (view (pass_of d)) = woken_have_floor e giver d t gave.caller is_d gave.floor gave.hands woken in
    none o thread (subst (λ k. o < container_count k) from.shape low) below (same_owners (view (pass_of giver)) (view (pass_of d)) from o ∙ owned)

pub one_more_sits : (e : Engine) (i : ℕ) (d : Caller) (t : Tokens) → IsGiver e d t → thread_of d ≡ i → stack_of (pass_of d) ≡ no_sections → NoneOwns (view (pass_of d)) i → NobodyOwns e (i + 1) t
one_more_sits e i d t gives number stack none = (
  d,
  gives,
  subst (λ n. NoneOwns (view (pass_of d)) (n + 1)) number
      (one_more e (view (pass_of d)) d gives.caller stack gives.floor (record { shape = refl; words = refl; seen = omega arith })
      (subst (NoneOwns (view (pass_of d))) (sym number) none)),
)

pub no_thread : (v : View) → NoneOwns v 0
no_thread v o thread low below owned = omega (arith, below)

-- ---- seats

pub new_push : (e : Engine) (script : ScriptParts) (i : ℕ) (seats : List (Option Seat)) (s : Seat) → AreNewSeats e script i seats → IsNewSeat e script (i + length seats) (Some s) → AreNewSeats e script i (seats ++ Some s ∷ [])
new_push e script i [] s are is = (subst (λ n. IsNewSeat e script n (Some s)) (let same : i + 0 ≡ i = omega arith in same) is, tt)
new_push e script i (seat ∷ seats) s are is = (are.0, new_push e script (suc i) seats s are.1 (subst (λ n. IsNewSeat e script n (Some s)) (let same : i + length (seat ∷ seats) ≡ suc i + length seats = omega arith in same) is))

new_at : (e : Engine) (script : ScriptParts) (from : ℕ) (seats : List (Option Seat)) → AreNewSeats e script from seats → (thread : ℕ) → thread < length seats
    → (s : Seat) × (slice_get seats thread ≡ Some (Some s)) × IsNewSeat e script (from + thread) (Some s)
new_at e script from [] are thread low = absurd (omega (arith, low))
new_at e script from (None ∷ seats) are thread low = absurd are.0
new_at e script from (Some s ∷ seats) are zero low = (s, refl, subst (λ n. IsNewSeat e script n (Some s)) (let same : from ≡ from + 0 = omega arith in same) are.0)
new_at e script from (Some s ∷ seats) are (suc thread) low =
    let rest = new_at e script (suc from) seats are.1 thread (omega (arith, low)) in
    (rest.0, rest.1, subst (λ n. IsNewSeat e script n (Some rest.0)) (let same : suc from + thread ≡ from + suc thread = omega arith in same) rest.2)

pub new_seats : (e : Engine) (script : ScriptParts) (seats : List (Option Seat)) → AreNewSeats e script 0 seats → AreSeats e script seats
new_seats e script seats are thread low =
    let one = new_at e script 0 seats are thread low in
    (one.0, one.1, subst (λ n. IsSeatOf e script n one.0) (let same : 0 + thread ≡ thread = omega arith in same) one.2.0)

-- a thread of which nothing was made has an empty list
none_of : (entries : List Entry) → length entries ≡ 0 → entries ≡ []
none_of [] none = refl
none_of (x ∷ xs) none = absurd (omega (arith, none))

-- each thread that has a call is online
pub new_online : (e : Engine) (script : ScriptParts) (seats : List (Option Seat)) → AreNewSeats e script 0 seats → AreOnlineAtStart script seats
new_online e script seats are thread low =
    let one = new_at e script 0 seats are thread low in
    let s = one.0 in
    let is : IsSeatOf e script thread s = subst (λ n. IsSeatOf e script n s) (let same : 0 + thread ≡ thread = omega arith in same) one.2.0 in
    let none : length s.entries.items ≡ 0 = ap (λ (x : Standing). length x.entries) one.2.1 in (
      s,
      one.1,
      record {
        none = none_of s.entries.items none;
        online = λ some.
            let between = is.between.online (subst (λ n. n < length (calls_of script thread)) (sym none) some) in (
              subst (λ (v : View). 0 < announces v.log) (sym is.rests.pass) between.0,
              subst (λ (v : View). presence_of v.log ≡ presence.Online) (sym is.rests.pass) between.1,
            );
      },
    )

pub none_made : (e : Engine) (script : ScriptParts) (from : ℕ) (seats : List (Option Seat)) → AreNewSeats e script from seats → entries_made seats ≡ 0
none_made e script from [] are = refl
none_made e script from (None ∷ seats) are = absurd are.0
none_made e script from (Some s ∷ seats) are =
    let own : Option Seat → ℕ = λ seat. length (seat_entries seat) in
    let none : length s.entries.items ≡ 0 = ap (λ (x : Standing). length x.entries) are.0.1 in
    let rest = none_made e script (suc from) seats are.1 in
    let sums = sum_by-cons own (Some s) seats in
    omega (arith, none, rest, sums)

all_nobody : (e : Engine) (script : ScriptParts) (seats : List (Option Seat)) → AreNewSeats e script 0 seats → (thread : ℕ) (standing : Standing) → slice_get (standings_of seats) thread ≡ Some standing → standing ≡ nobody
all_nobody e script seats are thread standing at =
    let low : thread < length seats = let l = slice_get_within (standings_of seats) thread standing at in let m = length-map seats standing_at in omega (arith, l, m) in
    let one = new_at e script 0 seats are thread low in
    let there : slice_get (standings_of seats) thread ≡ Some (standing_in one.0) = slice_get-map standing_at seats thread ∙ ap (option_map standing_at) one.1 in
    same_Some standing (standing_in one.0) (sym at ∙ there) ∙ one.2.1

-- so the threads are in step before the first turn
pub new_turned : (e : Engine) (script : ScriptParts) (seats : List (Option Seat)) (t : Tokens) → IsBankFor script (shape_of (bank_of e)) → AreNewSeats e script 0 seats → length seats ≡ (shape_of (bank_of e)).passes
    → NobodyOwns e (length seats) t → HaveTurned e script [] seats t
new_turned e script seats t bank are count nobody_owns some =
    let c = nobody_owns.0 in
    let gives = nobody_owns.1 in
    let passes = subst (NoneOwns (view (pass_of c))) count nobody_owns.2 in
    let threads : length (standings_of seats) ≡ length script.threads = length-map seats standing_at ∙ (count ∙ (bank.passes ∙ max_some (length script.threads) (λ none. omega (arith, some, none)))) in
    let containers : container_count (shape_of (bank_of e)) ≡ length script.containers = ap length bank.starts ∙ length-map script.containers (λ (one : Declaration). one.start) in (
      c,
      gives,
      new_in_step script (view (pass_of c)) (standings_of seats) threads (all_nobody e script seats are)
          (λ o low. nobodys_are_free e c gives.caller gives.floor passes o (subst (λ n. o < n) (sym containers) low)),
    )

-- ---- callers that rest before the first turn

pub new_rest : (e : Engine) (i : ℕ) (c : Caller) (r : RestingCaller) → IsNewCaller e i c → IsRestingCallerOf e r → RestsAs c r → IsNewRest e i r
new_rest e i c r is resting rests = record { resting = resting.0; caller = c; rests = rests; new = is }

pub rest_push : (e : Engine) (i : ℕ) (others : List RestingCaller) (r : RestingCaller) → AreNewFrom e i others → IsNewRest e (i + length others) r → AreNewFrom e i (others ++ r ∷ [])
rest_push e i [] r are is = (subst (λ n. IsNewRest e n r) (let same : i + 0 ≡ i = omega arith in same) is, tt)
rest_push e i (other ∷ others) r are is = (are.0, rest_push e (suc i) others r are.1 (subst (λ n. IsNewRest e n r) (let same : i + length (other ∷ others) ≡ suc i + length others = omega arith in same) is))

pub rest_of : (e : Engine) (i : ℕ) (r : RestingCaller) → IsNewRest e i r → IsRestingCallerOf e r
rest_of e i r is = (is.resting, (is.caller, is.new.member.caller, is.rests))

-- ---- results

pub if_ok : {X E : Type 0} {P Q : X → Type 0} (r : Result X E) → ((x : X) → P x → Q x) → IfOk r P → IfOk r Q
if_ok (Ok x) then_is is = then_is x is
if_ok (Err e) then_is is = is

pub if_ok3 : {X E : Type 0} {P Q R S : X → Type 0} (r : Result X E) → ((x : X) → P x → Q x → R x → S x) → IfOk r P → IfOk r Q → IfOk r R → IfOk r S
if_ok3 (Ok x) then_is one two three = then_is x one two three
if_ok3 (Err e) then_is one two three = one
