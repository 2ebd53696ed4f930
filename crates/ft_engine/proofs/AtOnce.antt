-- A call on containers that is made at once, with no call in flight and no section open: what one try of it leaves of its caller.
use Rattle.std.proofs.Common.{◌≡◌, ◌+◌, ◌-◌, ℕ, List, [], ◌∷◌, ◌++◌, length, refl, sym, ap, ◌∙◌, subst, arith, ◌⊎◌, inl, inr, true≢false}
use Rattle.std.specs.Prelude.{◌<◌, Option, None, true, false}
use Rattle.ft_model.specs.declared.call.Call.{Call}
use Rattle.ft_model.specs.declared.call.Call.TheVariants as call
use Rattle.ft_model.specs.Calls.{moved_cursor}
use Rattle.ft_model.specs.declared.cursor.Cursor.{Cursor}
use Rattle.ft_model.specs.declared.entry.Entry.{Entry as NamedEntry}
use Rattle.ft_model.specs.declared.reply.Reply.{Reply}
use Rattle.ft_trace.proofs.Owning.{same_locks_only, same_owners}
use Rattle.ft_trace.specs.declared.View.{View}
use Rattle.ft_trace.specs.Acts.{has_lock}
use Rattle.ft_bank.specs.declared.bank.Bank.{Bank}
use Rattle.ft_bank.specs.declared.pass.Pass.{Pass}
use Rattle.ft_bank.specs.Passes.{shape_of, view}
use Rattle.ft_bank.specs.PassSections.{Stack, stack_of, nothing_taken}
use Rattle.ft_section.specs.declared.answers.Stamp.{Stamp}
use Rattle.ft_section.specs.declared.answers.Step.{Step}
use Rattle.ft_section.specs.declared.answers.Step.TheVariants as step
use Rattle.ft_section.specs.Floors.{first_owned}
use Rattle.ft_section.specs.Locking.{TakenUp, with_own}
use Rattle.ft_section.specs.Ready.{IsReady}
use Rattle.ft_section.proofs.Releases.{only_same}
use Rattle.ft_section.proofs.Resumes.{push_some}
use Rattle.ft_engine.specs.declared.attempts.Tried.{Tried}
use Rattle.ft_engine.specs.declared.attempts.Tried.TheVariants as tried
use Rattle.ft_engine.specs.declared.caller.Caller.{Caller}
use Rattle.ft_engine.specs.declared.caller.Flight.{Flight}
use Rattle.ft_engine.specs.declared.caller.Flight.TheVariants as flight
use Rattle.ft_engine.specs.declared.engine.Engine.{Engine}
use Rattle.ft_engine.specs.Answering.{HasAnswer, HasLooked, IsTryOfCall}
use Rattle.ft_engine.specs.Asked.{IsOnContainers}
use Rattle.ft_engine.specs.AtOnce.{IsPlainCall}
use Rattle.ft_engine.specs.Attempts.{MayAttempt}
use Rattle.ft_engine.specs.Callers.{IsCallerOf, IsIdle, left_of}
use Rattle.ft_engine.specs.Calling.{IsTried}
use Rattle.ft_engine.specs.Contentions.{may_look}
use Rattle.ft_engine.specs.Flights.{AllowsCall, IsIn}
use Rattle.ft_engine.specs.Halves.{IsInHalves, KnewTop}
use Rattle.ft_engine.specs.Keeping.{WasAnswered, named_entry}
use Rattle.ft_engine.specs.Stacks.{StackAfter}
use Rattle.ft_engine.proofs.Callers.{answered_kept, both_halves, done_kept_owners, ended_kept, hands_stay, idle_free, left_kept, moved_caller, waiting_kept}
use Rattle.ft_engine.proofs.Keeping.{no_answer_idle}
use Rattle.ft_engine.proofs.TriedAgain.{moved_again, waiting_again}
use Rattle.ft_engine.proofs.OwnAnswers.{answer_own}

-- what one try of the call comes to, for whatever cursors
abbrev pub Comes : Engine → Call → Pass → Pass → Step → Type 0
Comes e called p q result = (hands : List (Option Cursor)) → IsTryOfCall e.bank hands called p q result

-- any call may come next where none is in flight
idle_allows : (f : Flight) (called : Call) → f ≡ flight.Idle → AllowsCall f called
idle_allows f called idle = subst (λ (g : Flight). AllowsCall g called) (sym idle) tt

-- a call on containers lets go of its own locks alone
stack_plain : (called : Call) (s t : Stack) → IsOnContainers called → StackAfter called s t → t ≡ with_own s nothing_taken
stack_plain (call.Dict o dc) s t on after = after
stack_plain (call.List o lc) s t on after = after
stack_plain (call.Set o sc) s t on after = after
stack_plain (call.Deque o qc) s t on after = after
stack_plain (call.Next number) s t on after = absurd on
stack_plain (call.Begin first second) s t on after = absurd on
stack_plain call.End s t on after = absurd on
stack_plain call.Quiesce s t on after = absurd on
stack_plain (call.Await thread index) s t on after = absurd on
stack_plain call.Dump s t on after = absurd on

-- ---- it has its answer

-- the pass is ready for the next call, since there is no section to take up again
answered_ready : (e : Engine) (c : Caller) (q : Pass) (called : Call) (said : Reply) (stamp : Stamp) → IsCallerOf e c → IsIdle c → (stack_of c.pass).sections ≡ [] → IsOnContainers called → HasAnswer e.bank called said stamp c.pass q → IsReady e.bank q
answered_ready e c q called said stamp is idle none on a =
    let nil : (stack_of q).sections ≡ [] = ap (λ (s : Stack). s.sections) (stack_plain called (stack_of c.pass) (stack_of q) on a.stack) ∙ none in
    record {
      inside = a.resume.inside;
      own = a.resume.none nil;
      mark = a.mark ∙ idle_free e c is idle;
      top = λ outer top cut. absurd (push_some outer top (sym cut ∙ nil));
    }

-- a pass that is ready has its innermost section
same_up : (b : Bank) (q : Pass) → IsReady b q → TakenUp (stack_of q) (stack_of q)
same_up b q ready = record { none = λ n. n; top = λ outer top cut. (top.locks.took_lower, top.locks.took_upper, cut); own = ready.own; mark = ready.mark }

none_owned : (lower upper : ℕ) (v : View) → has_lock lower v.log ≡ true → has_lock upper v.log ≡ true → first_owned lower upper v ≡ None
none_owned lower upper v low up = rw (low, up) refl

knew_top : (b : Bank) (q : Pass) → IsReady b q → KnewTop q None
knew_top b q ready has outer top cut =
    let own = ready.top outer top cut in
    none_owned top.locks.lower top.locks.upper (view q) own.0 own.1

-- the entries that the caller was answered
done_kept : (e : Engine) (c : Caller) (q : Pass) (called : Call) (said : Reply) (stamp : Stamp) (mine : List NamedEntry) → IsCallerOf e c → IsIdle c → IsReady e.bank q → Comes e called c.pass q (step.Done said stamp) → WasAnswered c mine → WasAnswered (record c { pass = q; made = c.made + 1 }) (mine ++ named_entry ((view c.pass).number - 1) mine called said stamp None ∷ [])
done_kept e c q called said stamp mine is idle ready came kept =
    let x = came c.cursors.items in
    let d : Caller = record c { pass = q; made = c.made + 1; flight = flight.Answered called said stamp } in
    let k = answered_kept e c d called said stamp mine is (no_answer_idle c.flight idle) (idle_allows c.flight called idle) x.0 x.2 refl kept in
    let up = same_up e.bank q ready in
    let mark : None ≡ (stack_of q).mark = sym ready.mark in
    let owners = done_kept_owners d q c.flight called called said stamp None mine (only_same (view q)) (λ outer top cut. same_locks_only (λ o. (o ≡ top.locks.lower) ⊎ (o ≡ top.locks.upper)) (view q) (view q) (same_owners (view q))) (λ nil. same_owners (view q)) refl refl up mark idle k.1 in
    let entries = ended_kept ((view q).number - 1) ((view q).number - 1) (view q).entries (view q).entries (stack_of q) (stack_of q) d.flight c.flight called called said stamp None mine k.0 refl refl up mark refl refl idle in
    subst (λ (thread : ℕ). WasAnswered (record c { pass = q; made = c.made + 1 }) (mine ++ named_entry thread mine called said stamp None ∷ []))
    (ap (λ (n : ℕ). n - 1) x.0.entry.pass.number) (entries, owners)

-- it moves no cursor, and leaves its pass ready for the next call
pub done_ready : (e : Engine) (c : Caller) (q : Pass) (called : Call) (said : Reply) (stamp : Stamp) → IsCallerOf e c → IsIdle c → 0 < left_of c → moved_cursor called ≡ None → IsReady e.bank q → Comes e called c.pass q (step.Done said stamp) → IsTried e called (tried.Done said stamp None) c (record c { pass = q; made = c.made + 1 })
done_ready e c q called said stamp is idle left still ready came =
    let x = came c.cursors.items in
    let a = x.0 in
    let hands = hands_stay (shape_of e.bank) e.bank c.cursors.items called c.pass q (step.Done said stamp) still x (record { cursors = is.cursors; over = is.over }) in
    record {
      caller = record {
        pass = a.resume.inside.0;
        inside = subst (IsIn e.bank q c.cursors.items) (sym idle) ready;
        made = let m = is.made in let n = ap length a.entry.entries in omega (arith, m, n);
        calls = is.calls;
        few = omega (arith, left);
        word = is.word;
        left = let l = is.left in let k = a.entry.left in omega (arith, l, k);
        cursors = hands.cursors;
        over = hands.over;
      };
      same = record { pass = a.entry.pass; room = refl };
      flight = idle;
      kept = λ mine kept. done_kept e c q called said stamp mine is idle ready came kept;
      mark = sym (idle_free e c is idle);
      found = inl tt;
      looked = tt;
      halves = both_halves c.flight e.bank c.cursors.items called c.pass q (tried.Done said stamp None) c.flight (no_answer_idle c.flight idle) (idle_allows c.flight called idle) (record {
        mid = q;
        said = said;
        stamp = stamp;
        answer = x;
        taken = (refl, refl, sym ready.mark, same_up e.bank q ready, knew_top e.bank q ready);
        waits = tt;
      });
      own = λ free. answer_own e.bank called said stamp c.pass q a;
      again = λ no. absurd no;
    }

pub done_at_once : (e : Engine) (c : Caller) (q : Pass) (called : Call) (said : Reply) (stamp : Stamp) → IsCallerOf e c → IsIdle c → (stack_of c.pass).sections ≡ [] → MayAttempt e c called → IsPlainCall called → Comes e called c.pass q (step.Done said stamp) → IsTried e called (tried.Done said stamp None) c (record c { pass = q; made = c.made + 1 })
done_at_once e c q called said stamp is idle none may plain came =
    let x = came c.cursors.items in
    done_ready e c q called said stamp is idle (may.left (no_answer_idle c.flight idle)) plain.no_cursor (answered_ready e c q called said stamp is idle none plain.containers x.0) came

-- ---- it has none

-- a call that takes its locks from the start is not looked first
pub not_looked : (called : Call) (v w : View) (result : Step) → may_look called ≡ false → HasLooked called v w result
not_looked called v w (step.NotYet o owner) locked = λ looks. absurd (true≢false (sym looks ∙ locked))
not_looked called v w (step.Done said stamp) locked = tt
not_looked called v w (step.Moved first second) locked = tt
not_looked called v w step.NoMemory locked = tt

-- without an answer it had none before
no_half : (f : Flight) (e : Engine) (c : Caller) (q : Pass) (called : Call) (t : Tried) (after : Flight) → f ≡ flight.Idle → IsInHalves flight.Idle e.bank c.cursors.items called c.pass q t after → IsInHalves f e.bank c.cursors.items called c.pass q t after
no_half f e c q called t after idle half = subst (λ (g : Flight). IsInHalves g e.bank c.cursors.items called c.pass q t after) (sym idle) half

pub waits_at_once : (e : Engine) (c : Caller) (q : Pass) (called : Call) (o owner : ℕ) → IsCallerOf e c → IsIdle c → MayAttempt e c called → IsPlainCall called → HasLooked called (view c.pass) (view q) (step.NotYet o owner) → Comes e called c.pass q (step.NotYet o owner) → IsTried e called (tried.NotYet o owner) c (record c { pass = q; flight = flight.Tried called })
waits_at_once e c q called o owner is idle may plain looked came =
    let x = came c.cursors.items in
    let w = x.2 in
    let d : Caller = record c { pass = q; flight = flight.Tried called } in
    let no_answer = no_answer_idle c.flight idle in
    let hands = hands_stay (shape_of e.bank) e.bank c.cursors.items called c.pass q (step.NotYet o owner) plain.no_cursor x (record { cursors = is.cursors; over = is.over }) in
    record {
      caller = record {
        pass = w.waits.inside.0;
        inside = (x.0, x.1, inr w.waits);
        made = is.made ∙ sym (ap length w.entry.entries);
        calls = is.calls;
        few = is.few;
        word = is.word;
        left = let l = is.left in let k = w.entry.left in omega (arith, l, k);
        cursors = hands.cursors;
        over = hands.over;
      };
      same = record { pass = w.entry.pass; room = refl };
      flight = (refl, λ no. absurd (let n : flight.Tried called ≡ flight.Idle = no in cc));
      kept = λ mine kept. waiting_kept e c d called x.0 o owner mine is no_answer may.next (may.left no_answer) x.1 w x.4 refl kept;
      mark = ap (λ (s : Stack). s.mark) w.stack;
      found = inl w.found.1;
      looked = λ looks flies. looked looks;
      halves = no_half c.flight e c q called (tried.NotYet o owner) (flight.Tried called) idle (inl ((x, looked), refl));
      own = λ free. tt;
      again = λ comes. waiting_again e c d called x.0 o owner may no_answer w refl refl refl refl;
    }

pub moved_at_once : (e : Engine) (c : Caller) (q : Pass) (called : Call) (first second : ℕ) → IsCallerOf e c → IsIdle c → MayAttempt e c called → IsPlainCall called → Comes e called c.pass q (step.Moved first second) → IsTried e called (tried.Moved first second) c (record c { pass = q; flight = flight.Tried called })
moved_at_once e c q called first second is idle may plain came =
    let x = came c.cursors.items in
    let d : Caller = record c { pass = q; flight = flight.Tried called } in
    let no_answer = no_answer_idle c.flight idle in
    let hands = hands_stay (shape_of e.bank) e.bank c.cursors.items called c.pass q (step.Moved first second) plain.no_cursor x (record { cursors = is.cursors; over = is.over }) in
    record {
      caller = moved_caller e c d called x.0 is x.1 x.2 hands refl refl refl;
      same = record { pass = x.2.entry.pass; room = refl };
      flight = refl;
      kept = λ mine kept. left_kept e c d called mine is no_answer may.next x.2 x.4 (inl refl) kept;
      mark = ap (λ (s : Stack). s.mark) x.2.gone.stack;
      found = inl tt;
      looked = tt;
      halves = no_half c.flight e c q called (tried.Moved first second) (flight.Tried called) idle (inl (x, tt));
      own = λ free. tt;
      again = λ comes. moved_again e c d called may no_answer x.2 refl refl refl refl;
    }

-- ---- there was no memory for it

pub refused_at_once : (e : Engine) (c : Caller) (q : Pass) (called : Call) → IsCallerOf e c → IsIdle c → MayAttempt e c called → IsPlainCall called → Comes e called c.pass q step.NoMemory → IsTried e called tried.NoMemory c (record c { pass = q; flight = flight.Refused called })
refused_at_once e c q called is idle may plain came =
    let x = came c.cursors.items in
    let d : Caller = record c { pass = q; flight = flight.Refused called } in
    let no_answer = no_answer_idle c.flight idle in
    let hands = hands_stay (shape_of e.bank) e.bank c.cursors.items called c.pass q step.NoMemory plain.no_cursor x (record { cursors = is.cursors; over = is.over }) in
    record {
      caller = record {
        pass = x.0.gone.resume.inside.0;
        inside = x.0.gone.resume.inside;
        made = is.made ∙ sym (ap length x.0.entry.entries);
        calls = is.calls;
        few = is.few;
        word = is.word;
        left = let l = is.left in let k = x.0.entry.left in omega (arith, l, k);
        cursors = hands.cursors;
        over = hands.over;
      };
      same = record { pass = x.0.entry.pass; room = refl };
      flight = refl;
      kept = λ mine kept. left_kept e c d called mine is no_answer may.next x.0 x.1 (inr refl) kept;
      mark = ap (λ (s : Stack). s.mark) x.0.gone.stack;
      found = inl tt;
      looked = tt;
      halves = no_half c.flight e c q called tried.NoMemory (flight.Refused called) idle (inl (x, tt));
      own = λ free. tt;
      again = λ no. absurd no;
    }
