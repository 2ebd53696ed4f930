-- Callers stay callers of their engine, whatever their calls come to.
use Rattle.std.proofs.Common.{◌≡◌, ◌≤◌, ◌<◌, ◌+◌, ◌-◌, ◌^◌, ℕ, zero, suc, Bool, true, false, List, [], ◌∷◌, ◌++◌, map, reverse, length, replicate, refl, sym, ap, ◌∙◌, subst, arith, ◌⊎◌, inr, ⊎_elim}
use Rattle.std.specs.Prelude.{Option, Some, None}
use Rattle.std.proofs.lemmas.List.{same_from_push, length-map, length-append, length-reverse}
use Rattle.ft_model.specs.declared.call.Call.{Call}
use Rattle.ft_model.specs.declared.call.Call.TheVariants as call
use Rattle.ft_model.specs.declared.cursor.Cursor.{Cursor}
use Rattle.ft_model.specs.declared.entry.Entry.{Entry as NamedEntry}
use Rattle.ft_model.specs.declared.reply.Reply.{Reply}
use Rattle.ft_model.specs.Calls.{moved_cursor}
use Rattle.ft_model.specs.Worlds.{cursor_at}
use Rattle.ft_trace.specs.declared.Entry.{Entry}
use Rattle.ft_trace.specs.declared.Shape.{Shape}
use Rattle.ft_trace.specs.declared.View.{View}
use Rattle.ft_trace.specs.declared.Act.TheVariants.{ReadCounter}
use Rattle.ft_trace.specs.Acts.{both, view_after}
use Rattle.ft_trace.specs.Hands.{cursor_in}
use Rattle.ft_trace.specs.OwnCursors.{plain_entry}
use Rattle.ft_trace.specs.Owners.{LocksOnly, SameOwners}
use Rattle.ft_trace.proofs.Owning.{grown_finds_more, same_locks_only}
use Rattle.ft_bank.specs.declared.bank.Bank.{Bank}
use Rattle.ft_bank.specs.declared.pass.Pass.{Pass}
use Rattle.ft_bank.specs.declared.sections.OpenSection.{OpenSection}
use Rattle.ft_bank.specs.NewPasses.{IsOpening}
use Rattle.ft_bank.specs.Passes.{shape_of, view, IsPassOf}
use Rattle.ft_bank.specs.PassSections.{Stack, stack_of}
use Rattle.ft_section.specs.declared.answers.Objects.{Objects}
use Rattle.ft_section.specs.declared.answers.Stamp.{Stamp}
use Rattle.ft_section.specs.declared.answers.Step.{Step}
use Rattle.ft_section.specs.declared.answers.Step.TheVariants as step
use Rattle.ft_section.specs.Locking.{FoundOwner, OnlyLocked, TakenUp, waiting, with_own}
use Rattle.ft_section.specs.Ready.{HasTop, IsReady, MayResume}
use Rattle.ft_section.proofs.Fresh.{fresh_ready}
use Rattle.ft_section.proofs.Gains.{found_is}
use Rattle.ft_engine.specs.declared.attempts.Tried.{Tried}
use Rattle.ft_engine.specs.declared.caller.Caller.{Caller}
use Rattle.ft_engine.specs.declared.caller.Flight.{Flight}
use Rattle.ft_engine.specs.declared.caller.Flight.TheVariants as flight
use Rattle.ft_engine.specs.declared.engine.Engine.{Engine}
use Rattle.ft_engine.specs.Answering.{AreHandsOfPass, HasAnswer, HasLockedFor, HasNone, HasToWait, IsTryOfCall, LeavesHands}
use Rattle.ft_engine.specs.Callers.{AreFreshCallers, AreOver, IsCallerOf, IsFreshCaller, thread_of}
use Rattle.ft_engine.specs.Flights.{IsFlightAnswered, IsIn, AllowsCall, is_begin, objects_of}
use Rattle.ft_engine.specs.Halves.{HasBothHalves, IsInHalves}
use Rattle.ft_engine.specs.Keeping.{AreThreadEntries, WasAnswered, named_entry, pending}
use Rattle.ft_engine.specs.Visits.{SameCallerWork}
use Rattle.ft_engine.specs.Owning.{AreOwnedBy}
use Rattle.ft_engine.proofs.WaitCounts.{last_of}
use Rattle.ft_engine.proofs.KnownOwners.{again_owned, answered_owned, calm_owned, done_owned, refused_owned, up_owned, waits_on_owned, waits_owned}
use Rattle.ft_engine.proofs.PassesAfter.{IsCalm, IsSteady, calm_steady, ready_joined, steady_in}
use Rattle.ft_engine.proofs.Keeping.{kept_again, kept_answered, kept_done, kept_refused, kept_waits, kept_waits_on}

-- ---- a new caller

pub fresh : (e : Engine) (room i : ℕ) (c : Caller) → IsOpening e.bank i c.pass → c.cursors.items ≡ replicate room None → c.calls ≡ (shape_of e.bank).calls → c.calls < 2 ^ 32 → c.made ≡ 0 → c.flight ≡ flight.Idle → IsFreshCaller e room i c
fresh e room i c opening hands calls word made idle =
    let is = opening.1 in
    let none : (number : ℕ) → cursor_at c.cursors.items number ≡ None = λ number. ap (λ (hs : List (Option Cursor)). cursor_at hs number) hands ∙ none_at room number in
    record {
      caller = record {
        pass = opening.0;
        inside = subst (IsIn e.bank c.pass c.cursors.items) (sym idle) (fresh_ready e.bank i c.pass opening);
        made = made ∙ sym (ap (λ (v : View). length v.entries) is);
        calls = calls;
        few = let m = made in omega (arith, m);
        word = word;
        left = let m = made in let l : (view c.pass).left ≡ (shape_of e.bank).calls = ap (λ (v : View). v.left) is in let k = calls in omega (arith, m, l, k);
        cursors = λ number low. none number ∙ sym (ap (λ (v : View). cursor_in number v.log) is);
        over = λ number walker at. absurd (let n : None ≡ Some walker = sym (none number) ∙ at in cc);
      };
      thread = ap (λ (v : View). v.number - 1) is ∙ (let n : suc i - 1 ≡ i = omega arith in n);
      flight = idle;
      hands = hands;
      left = let m = made in let k = calls in omega (arith, m, k);
      entries = ap (λ (v : View). v.entries) is;
      log = ap (λ (v : View). v.log) is;
      taken = ap (λ (v : View). v.lists) is;
      sections = ap (λ (s : Stack). s.sections) opening.2;
      next = ap (λ (v : View). v.next) is;
      parts = ap (λ (v : View). v.parts) is;
      tokens = ap (λ (v : View). v.tokens) is;
    }
  where
    none_at : (n k : ℕ) → cursor_at (replicate n None) k ≡ None
    none_at zero k = refl
    none_at (suc n) zero = refl
    none_at (suc n) (suc k) = none_at n k

-- lists that were kept, when the pass has done nothing that they speak of
pub steady_kept : (c d : Caller) (mine : List NamedEntry) → IsSteady (view c.pass) (view d.pass) → stack_of d.pass ≡ stack_of c.pass → d.flight ≡ c.flight → WasAnswered c mine → WasAnswered d mine
steady_kept c d mine calm stack flies kept = (
  subst (λ (y : ℕ × List Entry × Stack × Flight). AreThreadEntries y.0 y.1 y.2 y.3 mine) (λ i. (ap (λ (n : ℕ). n - 1) (sym calm.number) i, sym calm.entries i, sym stack i, sym flies i)) kept.0,
  subst (λ (y : Stack × Flight). AreOwnedBy (view d.pass) y.0 y.1 mine) (λ i. (sym stack i, sym flies i)) (calm_owned (view c.pass) (view d.pass) (stack_of c.pass) c.flight mine calm.number calm.lists calm.owners calm.cursors kept.1),
)

pub calm_kept : (c d : Caller) (mine : List NamedEntry) → IsCalm (view c.pass) (view d.pass) → stack_of d.pass ≡ stack_of c.pass → d.flight ≡ c.flight → WasAnswered c mine → WasAnswered d mine
calm_kept c d mine calm stack flies kept = steady_kept c d mine (calm_steady (view c.pass) (view d.pass) calm) stack flies kept

-- the number of a pass
pub some_number : (p : Pass) → 0 < (view p).number
some_number p = let n = p.numbered in omega (arith, n)

-- ---- the innermost section is taken up

-- one that has to wait for it
pub waits_inside : (b : Bank) (p q : Pass) (hands : List (Option Cursor)) (f : Flight) → IsFlightAnswered f → IsIn b p hands f → (HasTop p → ⊥) → MayResume b q → IsIn b q hands f
waits_inside b p q hands flight.Idle answered was lacked may = absurd answered
waits_inside b p q hands (flight.Tried called) answered was lacked may = absurd answered
waits_inside b p q hands (flight.Answered called said stamp) answered was lacked may = (may, λ begins. absurd (lacked (was.1 begins)))
waits_inside b p q hands (flight.Refused called) answered was lacked may = absurd answered

pub waits_caller : (e : Engine) (c : Caller) (q : Pass) → IsCallerOf e c → IsFlightAnswered c.flight → OnlyLocked (view c.pass) (view q) → (HasTop c.pass → ⊥) → MayResume e.bank q → IsCallerOf e (record c { pass = q })
waits_caller e c q is answered only lacked may = record {
  pass = may.inside.0;
  inside = waits_inside e.bank c.pass q c.cursors.items c.flight answered is.inside lacked may;
  made = is.made ∙ sym (ap length only.entries);
  calls = is.calls;
  few = is.few;
  word = is.word;
  left = let l = only.left in let k = is.left in omega (arith, l, k);
  cursors = λ number low. is.cursors number low ∙ sym (only.cursors number);
  over = is.over;
}

not_true : (b : Bool) → (b ≡ true → ⊥) → b ≡ false
not_true true no_way = absurd (no_way refl)
not_true false no_way = refl

-- how many entries were kept
kept_count : (thread : ℕ) (entries : List Entry) (s : Stack) (f : Flight) (mine : List NamedEntry) → AreThreadEntries thread entries s f mine → length entries ≡ length (pending f) + length mine
kept_count thread entries s f mine k =
    let a = ap length k.same in
    let b = length-append (pending f) (reverse (map plain_entry mine)) in
    let c = length-reverse (map plain_entry mine) in
    let d = length-map mine plain_entry in
    omega (arith, a, b, c, d)

-- the list that was kept of a caller whose section has to wait
waits_owners : (c : Caller) (q : Pass) (f : Flight) (outer : List OpenSection) (top : OpenSection) (o owner : ℕ) (mine : List NamedEntry) → IsFlightAnswered f → OnlyLocked (view c.pass) (view q) → (stack_of c.pass).sections ≡ outer ++ top ∷ [] → LocksOnly (λ p. (p ≡ top.locks.lower) ⊎ (p ≡ top.locks.upper)) (view c.pass) (view q) → (o ≡ top.locks.lower) ⊎ (o ≡ top.locks.upper) → FoundOwner o owner (view c.pass) (view q) → stack_of q ≡ waiting (with_own (stack_of c.pass) (stack_of q).own) owner → AreOwnedBy (view c.pass) (stack_of c.pass) f mine → AreOwnedBy (view q) (stack_of q) f mine
waits_owners c q flight.Idle outer top o owner mine a locked cut only needs found stack old = absurd a
waits_owners c q (flight.Tried called) outer top o owner mine a locked cut only needs found stack old = absurd a
waits_owners c q (flight.Answered called said stamp) outer top o owner mine a locked cut only needs found stack old =
    waits_on_owned (view c.pass) (view q) (stack_of c.pass) called said stamp mine locked.number locked.lists (grown_finds_more (view c.pass) (view q) locked.newer locked.grew) locked.cursors old (stack_of q) (stack_of q).own outer top o owner cut only needs (some_number c.pass) found.other (found_is o owner (view c.pass) (view q) found) stack
waits_owners c q (flight.Refused called) outer top o owner mine a locked cut only needs found stack old = absurd a

-- the innermost section of a pass, of which a step found a lock with another
abbrev pub LacksTop : ℕ → Pass → Type 0
LacksTop o p = (outer : List OpenSection) × (top : OpenSection) × ((stack_of p).sections ≡ outer ++ top ∷ []) × ((o ≡ top.locks.lower) ⊎ (o ≡ top.locks.upper))

-- the pass has taken locks of its innermost section alone
abbrev pub TakesTop : Pass → Pass → Type 0
TakesTop p q = (outer : List OpenSection) (top : OpenSection) → (stack_of p).sections ≡ outer ++ top ∷ [] → LocksOnly (λ o. (o ≡ top.locks.lower) ⊎ (o ≡ top.locks.upper)) (view p) (view q)

pub waits_kept : (e : Engine) (c : Caller) (q : Pass) (o owner : ℕ) (mine : List NamedEntry) → IsCallerOf e c → IsFlightAnswered c.flight → OnlyLocked (view c.pass) (view q) → (HasTop c.pass → ⊥) → LacksTop o c.pass → TakesTop c.pass q → FoundOwner o owner (view c.pass) (view q) → stack_of q ≡ waiting (with_own (stack_of c.pass) (stack_of q).own) owner → WasAnswered c mine → WasAnswered (record c { pass = q }) mine
waits_kept e c q o owner mine is answered locked lacked lacks takes found stack kept = (
  by c.flight answered is.inside (kept_count (thread_of c) (view c.pass).entries (stack_of c.pass) c.flight mine kept.0) kept.0,
  waits_owners c q c.flight lacks.0 lacks.1 o owner mine answered locked lacks.2 (takes lacks.0 lacks.1 lacks.2) lacks.3 found stack kept.1,
)
  where
    number : thread_of c ≡ (view q).number - 1
    number = ap (λ (n : ℕ). n - 1) (sym locked.number)

    by : (f : Flight) → IsFlightAnswered f → IsIn e.bank c.pass c.cursors.items f → length (view c.pass).entries ≡ length (pending f) + length mine → AreThreadEntries (thread_of c) (view c.pass).entries (stack_of c.pass) f mine → AreThreadEntries ((view q).number - 1) (view q).entries (stack_of q) f mine
    by flight.Idle a inside count k = absurd a
    by (flight.Tried called) a inside count k = absurd a
    by (flight.Answered called said stamp) a inside count k =
        let few = is.few in let word = is.word in let made = is.made in
        let low : length mine + 1 ≤ 2 ^ 32 - 1 = omega (arith, few, word, made, count) in
        let w = kept_waits_on (thread_of c) (view c.pass).entries (stack_of c.pass) called said stamp mine k (stack_of q) (stack_of q).own owner (not_true (is_begin called) (λ begins. lacked (inside.1 begins))) stack low in
        subst (λ (x : ℕ × List Entry). AreThreadEntries x.0 x.1 (stack_of q) (flight.Answered called said stamp) mine) (λ d. (number d, sym locked.entries d)) w
    by (flight.Refused called) a inside count k = absurd a

-- and of one whose call has ended
pub ended_kept : (thread now : ℕ) (entries others : List Entry) (s t : Stack) (f g : Flight) (first called : Call) (said : Reply) (stamp : Stamp) (mark : Option ℕ) (mine : List NamedEntry) → AreThreadEntries thread entries s f mine → f ≡ flight.Answered first said stamp → AllowsCall f called → TakenUp s t → mark ≡ s.mark → now ≡ thread → others ≡ entries → g ≡ flight.Idle → AreThreadEntries now others t g (mine ++ named_entry thread mine called said stamp mark ∷ [])
ended_kept thread now entries others s t f g first called said stamp mark mine k is next up marked number same idle =
    let named : first ≡ called = subst (λ (x : Flight). AllowsCall x called) is next in
    let done = kept_done thread entries s first said stamp mine (subst (λ (x : Flight). AreThreadEntries thread entries s x mine) is k) t up in
    let renamed : AreThreadEntries thread entries t flight.Idle (mine ++ named_entry thread mine called said stamp mark ∷ []) =
    subst (λ (x : Call × Option ℕ). AreThreadEntries thread entries t flight.Idle (mine ++ named_entry thread mine x.0 said stamp x.1 ∷ [])) (λ d. (named d, sym marked d)) done in
    subst (λ (x : ℕ × List Entry × Flight). AreThreadEntries x.0 x.1 t x.2 (mine ++ named_entry thread mine called said stamp mark ∷ [])) (λ d. (sym number d, sym same d, sym idle d)) renamed

push_some : (xs : List OpenSection) (x : OpenSection) → [] ≡ xs ++ x ∷ [] → ⊥
push_some [] x e = absurd (cc)
push_some (y ∷ xs) x e = absurd (cc)

-- the locks that it has taken are those of its innermost section
back_owned : (p q : Pass) (called : Call) (said : Reply) (stamp : Stamp) (mine : List NamedEntry) → OnlyLocked (view p) (view q) → TakesTop p q → ((stack_of p).sections ≡ [] → SameOwners (view p) (view q)) → AreOwnedBy (view p) (stack_of p) (flight.Answered called said stamp) mine → AreOwnedBy (view q) (stack_of p) (flight.Answered called said stamp) mine
back_owned p q called said stamp mine locked takes none old =
    ⊎_elim
    (λ (nil : (stack_of p).sections ≡ []). up (λ o. ⊥) (same_locks_only (λ o. ⊥) (view p) (view q) (none nil)) (λ outer top cut o no. absurd no) (λ _ o no. no))
    (λ (r : (outer : List OpenSection) × (top : OpenSection) × ((stack_of p).sections ≡ outer ++ top ∷ [])).
    up (λ o. (o ≡ r.1.locks.lower) ⊎ (o ≡ r.1.locks.upper)) (takes r.0 r.1 r.2)
    (λ outer top cut o is. subst (λ (t : OpenSection). (o ≡ t.locks.lower) ⊎ (o ≡ t.locks.upper)) (same_from_push r.0 outer r.1 top (sym r.2 ∙ cut)).1 is)
    (λ nil o is. push_some r.0 r.1 (sym nil ∙ r.2))) (last_of (stack_of p).sections)
  where
    up : (P : ℕ → Type 0) → LocksOnly P (view p) (view q) → ((outer : List OpenSection) (top : OpenSection) → (stack_of p).sections ≡ outer ++ top ∷ [] → (o : ℕ) → P o → (o ≡ top.locks.lower) ⊎ (o ≡ top.locks.upper)) → ((stack_of p).sections ≡ [] → (o : ℕ) → P o → ⊥) → AreOwnedBy (view q) (stack_of p) (flight.Answered called said stamp) mine
    up P only top nil =
        up_owned (view p) (view q) (stack_of p) called said stamp mine locked.number locked.lists (grown_finds_more (view p) (view q) locked.newer locked.grew) locked.cursors old P only top nil

pub done_kept_owners : (c : Caller) (q : Pass) (g : Flight) (first called : Call) (said : Reply) (stamp : Stamp) (mark : Option ℕ) (mine : List NamedEntry) → OnlyLocked (view c.pass) (view q) → TakesTop c.pass q → ((stack_of c.pass).sections ≡ [] → SameOwners (view c.pass) (view q)) → c.flight ≡ flight.Answered first said stamp → AllowsCall c.flight called → TakenUp (stack_of c.pass) (stack_of q) → mark ≡ (stack_of c.pass).mark → g ≡ flight.Idle → AreOwnedBy (view c.pass) (stack_of c.pass) c.flight mine → AreOwnedBy (view q) (stack_of q) g (mine ++ named_entry (thread_of c) mine called said stamp mark ∷ [])
done_kept_owners c q g first called said stamp mark mine locked takes none is next up marked idle old =
    let named : first ≡ called = subst (λ (x : Flight). AllowsCall x called) is next in
    let now = back_owned c.pass q first said stamp mine locked takes none (subst (λ (x : Flight). AreOwnedBy (view c.pass) (stack_of c.pass) x mine) is old) in
    let done = done_owned (view q) (stack_of c.pass) (stack_of q) (thread_of c) first said stamp mine (ap (λ (n : ℕ). n - 1) (sym locked.number)) now up in
    subst (λ (x : Call × Option ℕ × Flight). AreOwnedBy (view q) (stack_of q) x.2 (mine ++ named_entry (thread_of c) mine x.0 said stamp x.1 ∷ [])) (λ d. (named d, sym marked d, sym idle d)) done

-- ---- a call gets its answer, or waits

-- a cursor that the caller has is the pass's own
pub at_hand : (hands : List (Option Cursor)) (v : View) → ((n : ℕ) → n < length hands → cursor_at hands n ≡ cursor_in n v.log) → (n : ℕ) (walker : Cursor) → cursor_at hands n ≡ Some walker → cursor_in n v.log ≡ Some walker
at_hand hands v cursors n walker at = sym (cursors n (low hands n walker at)) ∙ at
  where
    low : (hs : List (Option Cursor)) (k : ℕ) (w : Cursor) → cursor_at hs k ≡ Some w → k < length hs
    low [] k w e = absurd (let x : None ≡ Some w = e in cc)
    low (h ∷ hs) zero w e = omega arith
    low (h ∷ hs) (suc k) w e = let r = low hs k w e in omega (arith, r)

-- a caller between two calls has no mark
pub idle_free : (e : Engine) (c : Caller) → IsCallerOf e c → c.flight ≡ flight.Idle → (stack_of c.pass).mark ≡ None
idle_free e c is idle = let r : IsReady e.bank c.pass = subst (IsIn e.bank c.pass c.cursors.items) idle is.inside in r.mark

-- an `end` comes only between two calls
pub end_free : (b : Bank) (p : Pass) (hands : List (Option Cursor)) (f : Flight) (called : Call) → IsIn b p hands f → (IsFlightAnswered f → ⊥) → AllowsCall f called → called ≡ call.End → (stack_of p).mark ≡ None
end_free b p hands flight.Idle called inside unanswered next is = inside.mark
end_free b p hands (flight.Tried tried) called inside unanswered next is =
    absurd (let e : None ≡ Some inside.0 = ap (objects_of hands) (sym is ∙ sym next) ∙ inside.1 in cc)
end_free b p hands (flight.Answered first said stamp) called inside unanswered next is = absurd (unanswered tt)
end_free b p hands (flight.Refused first) called inside unanswered next is = absurd next

unanswered_count : (f : Flight) → (IsFlightAnswered f → ⊥) → length (pending f) ≡ 0
unanswered_count flight.Idle unanswered = refl
unanswered_count (flight.Tried called) unanswered = refl
unanswered_count (flight.Answered called said stamp) unanswered = absurd (unanswered tt)
unanswered_count (flight.Refused called) unanswered = refl

pub answered_kept : (e : Engine) (c d : Caller) (called : Call) (said : Reply) (stamp : Stamp) (mine : List NamedEntry) → IsCallerOf e c → (IsFlightAnswered c.flight → ⊥) → AllowsCall c.flight called → HasAnswer e.bank called said stamp c.pass d.pass → HasLockedFor c.cursors.items called (view c.pass) (view d.pass) → d.flight ≡ flight.Answered called said stamp → WasAnswered c mine → WasAnswered d mine
answered_kept e c d called said stamp mine is unanswered next x locks flies kept =
    let free = end_free e.bank c.pass c.cursors.items c.flight called is.inside unanswered next in
    let k = kept_answered (thread_of c) (view c.pass).entries (stack_of c.pass) c.flight mine kept.0 unanswered (view d.pass).entries (stack_of d.pass) called said stamp x.entry.entries x.marks x.mark free x.ends in
    let o = answered_owned (view c.pass) (view d.pass) (stack_of c.pass) (stack_of d.pass) c.flight mine called c.cursors.items x.entry.pass.number x.entry.pass.lists locks.only locks.found kept.1 unanswered next (idle_free e c is) (at_hand c.cursors.items (view c.pass) is.cursors) said stamp x.walked x.stack x.mark in (
      subst (λ (y : ℕ × Flight). AreThreadEntries y.0 (view d.pass).entries (stack_of d.pass) y.1 mine) (λ i. (ap (λ (n : ℕ). n - 1) (sym x.entry.pass.number) i, sym flies i)) k,
      subst (λ (y : Flight). AreOwnedBy (view d.pass) (stack_of d.pass) y mine) (sym flies) o,
    )

pub waiting_kept : (e : Engine) (c d : Caller) (called : Call) (objects : Objects) (o owner : ℕ) (mine : List NamedEntry) → IsCallerOf e c → (IsFlightAnswered c.flight → ⊥) → AllowsCall c.flight called → 0 < c.calls - c.made → objects_of c.cursors.items called ≡ Some objects → HasToWait e.bank objects o owner c.pass d.pass → HasLockedFor c.cursors.items called (view c.pass) (view d.pass) → d.flight ≡ flight.Tried called → WasAnswered c mine → WasAnswered d mine
waiting_kept e c d called objects o owner mine is unanswered next left names x locks flies kept =
    let count = kept_count (thread_of c) (view c.pass).entries (stack_of c.pass) c.flight mine kept.0 in
    let none = unanswered_count c.flight unanswered in
    let word = is.word in let made = is.made in
    let low : length mine + 1 ≤ 2 ^ 32 - 1 = omega (arith, word, made, count, none, left) in
    let k = kept_waits (thread_of c) (view c.pass).entries (stack_of c.pass) c.flight mine kept.0 unanswered (stack_of d.pass) (stack_of d.pass).own owner called x.stack low in
    let w = waits_owned (view c.pass) (view d.pass) (stack_of c.pass) (stack_of d.pass) c.flight mine called c.cursors.items x.entry.pass.number x.entry.pass.lists locks.only locks.found kept.1 unanswered next (idle_free e c is) (at_hand c.cursors.items (view c.pass) is.cursors)
    o owner (stack_of d.pass).own x.entry.cursors (some_number c.pass) x.found.1.other (found_is o owner (view c.pass) (view d.pass) x.found.1) (objects, names, x.found.0) x.stack in (
      subst (λ (y : ℕ × List Entry × Flight). AreThreadEntries y.0 y.1 (stack_of d.pass) y.2 mine) (λ i. (ap (λ (n : ℕ). n - 1) (sym x.entry.pass.number) i, sym x.entry.entries i, sym flies i)) k,
      subst (λ (y : Flight). AreOwnedBy (view d.pass) (stack_of d.pass) y mine) (sym flies) w,
    )

-- a call that is tried again, or was refused
pub left_kept : (e : Engine) (c d : Caller) (called : Call) (mine : List NamedEntry) → IsCallerOf e c → (IsFlightAnswered c.flight → ⊥) → AllowsCall c.flight called → HasNone e.bank c.pass d.pass → HasLockedFor c.cursors.items called (view c.pass) (view d.pass) → (d.flight ≡ flight.Tried called) ⊎ (d.flight ≡ flight.Refused called) → WasAnswered c mine → WasAnswered d mine
left_kept e c d called mine is unanswered next x locks flies kept =
    ⊎_elim
    (λ (f : d.flight ≡ flight.Tried called).
    as_flight (flight.Tried called) f (kept_again (thread_of c) (view c.pass).entries (stack_of c.pass) c.flight mine kept.0 unanswered (stack_of d.pass) called x.gone.stack)
    (again_owned (view c.pass) (view d.pass) (stack_of c.pass) (stack_of d.pass) c.flight mine called c.cursors.items x.entry.pass.number x.entry.pass.lists locks.only locks.found kept.1 unanswered next (idle_free e c is) (at_hand c.cursors.items (view c.pass) is.cursors) x.entry.cursors x.gone.stack))
    (λ (f : d.flight ≡ flight.Refused called).
    as_flight (flight.Refused called) f (kept_refused (thread_of c) (view c.pass).entries (stack_of c.pass) c.flight mine kept.0 unanswered (stack_of d.pass) called x.gone.stack)
    (refused_owned (view c.pass) (view d.pass) (stack_of c.pass) (stack_of d.pass) c.flight mine called c.cursors.items x.entry.pass.number x.entry.pass.lists locks.only locks.found kept.1 unanswered next (idle_free e c is) (at_hand c.cursors.items (view c.pass) is.cursors) x.entry.cursors x.gone.stack)) flies
  where
    as_flight : (f : Flight) → d.flight ≡ f → AreThreadEntries (thread_of c) (view c.pass).entries (stack_of d.pass) f mine → AreOwnedBy (view d.pass) (stack_of d.pass) f mine → WasAnswered d mine
    as_flight f flies k o = (
      subst (λ (y : ℕ × List Entry × Flight). AreThreadEntries y.0 y.1 (stack_of d.pass) y.2 mine) (λ i. (ap (λ (n : ℕ). n - 1) (sym x.entry.pass.number) i, sym x.entry.entries i, sym flies i)) k,
      subst (λ (y : Flight). AreOwnedBy (view d.pass) (stack_of d.pass) y mine) (sym flies) o,
    )

-- the call has its answer now, which it hadn't before
pub both_halves : (f : Flight) (b : Bank) (hands : List (Option Cursor)) (called : Call) (p q : Pass) (t : Tried) (after : Flight) → (IsFlightAnswered f → ⊥) → AllowsCall f called → HasBothHalves b hands called p q t after → IsInHalves f b hands called p q t after
both_halves flight.Idle b hands called p q t after unanswered next both = inr both
both_halves (flight.Tried first) b hands called p q t after unanswered next both = inr both
both_halves (flight.Answered first said stamp) b hands called p q t after unanswered next both = absurd (unanswered tt)
both_halves (flight.Refused first) b hands called p q t after unanswered next both = absurd next

-- ---- cursors

-- a call that moves no cursor leaves them
pub hands_stay : (k : Shape) (b : Bank) (hands : List (Option Cursor)) (called : Call) (p q : Pass) (result : Step) → moved_cursor called ≡ None → IsTryOfCall b hands called p q result → AreHandsOfPass k (view p) hands → AreHandsOfPass k (view q) hands
hands_stay k b hands called p q (step.Done said stamp) none x are = record { cursors = λ number low. are.cursors number low ∙ sym (x.0.entry.cursors number (λ e. absurd (let n : None ≡ Some number = sym none ∙ e in cc))); over = are.over }
hands_stay k b hands called p q (step.NotYet o owner) none x are = record { cursors = λ number low. are.cursors number low ∙ sym (x.2.entry.cursors number); over = are.over }
hands_stay k b hands called p q (step.Moved first second) none x are = record { cursors = λ number low. are.cursors number low ∙ sym (x.2.entry.cursors number); over = are.over }
hands_stay k b hands called p q step.NoMemory none x are = record { cursors = λ number low. are.cursors number low ∙ sym (x.0.entry.cursors number); over = are.over }

-- ---- nothing but the pass's announcements, or tokens that it took

-- another caller that has the same but for its pass
pub record HasSame (c d : Caller) : Type 0 where
  pub cursors : d.cursors.items ≡ c.cursors.items
  pub calls : d.calls ≡ c.calls
  pub made : d.made ≡ c.made
  pub flight : d.flight ≡ c.flight

pub steady_caller : (e : Engine) (c d : Caller) → IsCallerOf e c → HasSame c d → IsPassOf e.bank d.pass → stack_of d.pass ≡ stack_of c.pass → IsSteady (view c.pass) (view d.pass) → IsCallerOf e d
steady_caller e c d is same pass stack steady = record {
  pass = pass;
  inside = subst (λ (y : List (Option Cursor) × Flight). IsIn e.bank d.pass y.0 y.1) (λ i. (sym same.cursors i, sym same.flight i)) (steady_in e.bank c.pass d.pass pass stack steady c.cursors.items c.flight is.inside);
  made = same.made ∙ (is.made ∙ sym (ap length steady.entries));
  calls = same.calls ∙ is.calls;
  few = let m = same.made in let n = same.calls in let k = is.few in omega (arith, m, n, k);
  word = let n = same.calls in let k = is.word in omega (arith, n, k);
  left = let m = same.made in let n = same.calls in let l = steady.left in let k = is.left in omega (arith, m, n, l, k);
  cursors = λ number low. ap (λ (hands : List (Option Cursor)). cursor_at hands number) same.cursors ∙ (is.cursors number (subst (λ (hands : List (Option Cursor)). number < length hands) same.cursors low) ∙ sym (steady.cursors number));
  over = subst (AreOver (shape_of e.bank)) (sym same.cursors) is.over;
}

pub steady_work : (c d : Caller) → HasSame c d → stack_of d.pass ≡ stack_of c.pass → IsSteady (view c.pass) (view d.pass) → SameCallerWork c d
steady_work c d same stack steady = record {
  number = steady.number;
  next = steady.next;
  parts = steady.parts;
  entries = steady.entries;
  taken = steady.lists;
  sections = stack;
  cursors = same.cursors;
  calls = same.calls;
  made = same.made;
  flight = same.flight;
  seen = steady.seen;
  merged = steady.merged;
}

pub same_but_pass : (c : Caller) (q : Pass) → HasSame c (record c { pass = q })
same_but_pass c q = record { cursors = refl; calls = refl; made = refl; flight = refl }

pub calm_caller : (e : Engine) (c : Caller) (q : Pass) → IsCallerOf e c → c.flight ≡ flight.Idle → IsPassOf e.bank q → stack_of q ≡ stack_of c.pass → IsCalm (view c.pass) (view q) → IsCallerOf e (record c { pass = q })
calm_caller e c q is idle pass stack calm = steady_caller e c (record c { pass = q }) is (same_but_pass c q) pass stack (calm_steady (view c.pass) (view q) calm)

pub calm_work : (c : Caller) (q : Pass) → stack_of q ≡ stack_of c.pass → IsCalm (view c.pass) (view q) → SameCallerWork c (record c { pass = q })
calm_work c q stack calm = steady_work c (record c { pass = q }) (same_but_pass c q) stack (calm_steady (view c.pass) (view q) calm)

pub ready_of : (e : Engine) (c : Caller) → IsCallerOf e c → c.flight ≡ flight.Idle → IsReady e.bank c.pass
ready_of e c is idle = subst (IsIn e.bank c.pass c.cursors.items) idle is.inside

-- who took another in
pub joined_caller : (e : Engine) (c : Caller) (q : Pass) (u : View) (n : ℕ) → IsCallerOf e c → c.flight ≡ flight.Idle → IsPassOf e.bank q → stack_of q ≡ stack_of c.pass → view q ≡ view_after (ReadCounter n) (both (view c.pass) u) → IsCallerOf e (record c { pass = q })
joined_caller e c q u n is idle pass stack joined = record {
  pass = pass;
  inside = subst (IsIn e.bank q c.cursors.items) (sym idle) (ready_joined e.bank c.pass q u n (ready_of e c is idle) pass stack joined);
  made = is.made ∙ sym (ap (λ (v : View). length v.entries) joined);
  calls = is.calls;
  few = is.few;
  word = is.word;
  left = let more : (view q).left ≡ (view c.pass).left + u.left = ap (λ (v : View). v.left) joined in let k = is.left in omega (arith, more, k);
  cursors = λ number low. is.cursors number low ∙ sym (ap (λ (v : View). cursor_in number v.log) joined);
  over = is.over;
}

-- ---- all callers of a new engine

pub fresh_push : (e : Engine) (room i : ℕ) (cs : List Caller) (c : Caller) → AreFreshCallers e room i cs → IsFreshCaller e room (i + length cs) c → AreFreshCallers e room i (cs ++ c ∷ [])
fresh_push e room i [] c are is = (subst (λ (n : ℕ). IsFreshCaller e room n c) (let s : i + 0 ≡ i = omega arith in s) is, tt)
fresh_push e room i (x ∷ cs) c are is =
    (are.0, fresh_push e room (suc i) cs c are.1 (subst (λ (n : ℕ). IsFreshCaller e room n c) (let s : i + length (x ∷ cs) ≡ suc i + length cs = omega arith in s) is))

-- cursors that stay as they are
pub leaves_same : (result : Step) (hands : List (Option Cursor)) → LeavesHands result hands hands
leaves_same (step.Done said stamp) hands = refl
leaves_same (step.NotYet o owner) hands = refl
leaves_same (step.Moved first second) hands = refl
leaves_same step.NoMemory hands = refl

-- a call that is tried again
pub moved_caller : (e : Engine) (c d : Caller) (called : Call) (objects : Objects) → IsCallerOf e c → objects_of d.cursors.items called ≡ Some objects → HasNone e.bank c.pass d.pass → AreHandsOfPass (shape_of e.bank) (view d.pass) d.cursors.items → d.calls ≡ c.calls → d.made ≡ c.made → d.flight ≡ flight.Tried called → IsCallerOf e d
moved_caller e c d called objects is names x hands calls made flies = record {
  pass = x.gone.resume.inside.0;
  inside = subst (IsIn e.bank d.pass d.cursors.items) (sym flies) (objects, names, x.gone.may objects);
  made = made ∙ (is.made ∙ sym (ap length x.entry.entries));
  calls = calls ∙ is.calls;
  few = let a = is.few in omega (arith, a, calls, made);
  word = let a = is.word in omega (arith, a, calls);
  left = let a = is.left in let l = x.entry.left in omega (arith, a, l, calls, made);
  cursors = hands.cursors;
  over = hands.over;
}
