-- What a caller has after a look.
use Rattle.std.proofs.Common.{◌≡◌, ◌<◌, ◌+◌, ◌-◌, ℕ, true, false, List, [], ◌∷◌, ◌++◌, length, refl, sym, ap, ◌∙◌, subst, arith, None, Some}
use Rattle.std.specs.Prelude.{Some, None, Option}
use Rattle.ft_model.specs.declared.call.Call.{Call}
use Rattle.ft_model.specs.declared.call.Call.TheVariants as call
use Rattle.ft_model.specs.declared.entry.Entry.{Entry as NamedEntry}
use Rattle.ft_model.specs.declared.reply.Reply.{Reply}
use Rattle.ft_model.specs.Calls.{moved_cursor}
use Rattle.ft_trace.specs.declared.Entry.{Entry}
use Rattle.ft_trace.specs.Owners.{SameOwners}
use Rattle.ft_trace.proofs.Owning.{same_finds_more, same_locks_only}
use Rattle.ft_bank.specs.declared.bank.Bank.{Bank}
use Rattle.ft_bank.specs.declared.pass.Pass.{Pass}
use Rattle.ft_bank.specs.declared.sections.Taking.{Taking}
use Rattle.ft_bank.specs.Passes.{view, IsPassOf}
use Rattle.ft_bank.specs.PassSections.{Stack, nothing_taken, stack_of}
use Rattle.ft_section.specs.declared.answers.Look.{Look}
use Rattle.ft_section.specs.declared.answers.Look.TheVariants as look
use Rattle.ft_section.specs.declared.answers.Stamp.{Stamp}
use Rattle.ft_section.specs.Locking.{TakenUp, with_own}
use Rattle.ft_section.specs.Ready.{InCall, IsReady}
use Rattle.ft_section.proofs.MidstOfCall.{in_call_stays}
use Rattle.ft_search.specs.KeyLooks.{AnsweredByLook}
use Rattle.ft_search.specs.LookSteps.{OnlyLooked}
use Rattle.ft_search.proofs.ReadMidst.{LeavesSections, sections_looked, still_look}
use Rattle.ft_engine.specs.declared.caller.Caller.{Caller}
use Rattle.ft_engine.specs.declared.caller.Flight.{Flight}
use Rattle.ft_engine.specs.declared.caller.Flight.TheVariants as flight
use Rattle.ft_engine.specs.declared.engine.Engine.{Engine}
use Rattle.ft_engine.specs.Answering.{MakesEntry, IsLockedFor, IsLooked}
use Rattle.ft_engine.specs.Asked.{IsOnContainers}
use Rattle.ft_engine.specs.Attempts.{StaysCaller, after_look, flight_looked, entries_with_look}
use Rattle.ft_engine.specs.Callers.{IsCallerOf, thread_of}
use Rattle.ft_engine.specs.Contentions.{may_look}
use Rattle.ft_engine.specs.Flights.{IsIn, AllowsCall}
use Rattle.ft_engine.specs.Keeping.{AreThreadEntries, WasAnswered, named_entry, section_marks}
use Rattle.ft_engine.specs.Owning.{AreOwnedBy}
use Rattle.ft_engine.specs.Stacks.{StackAfter}
use Rattle.ft_engine.proofs.Callers.{at_hand, idle_free}
use Rattle.ft_engine.proofs.Keeping.{kept_answered, kept_done, kept_refused, no_answer_idle}
use Rattle.ft_engine.proofs.LooksBefore.{IsPlain, plain_call, steps_ready}
use Rattle.ft_engine.proofs.Outcomes.{boxed_nothing, look_adds}
use Rattle.ft_engine.proofs.KnownOwners.{answered_owned, calm_owned, done_owned, refused_owned}
use Rattle.ft_engine.proofs.Within.{looked_owners, looks_still, walked_none}

-- ---- the pass

pub read_ready : (b : Bank) (p q : Pass) (called : Call) (said : Reply) (n : ℕ) → LeavesSections called → IsReady b p → IsPassOf b q → stack_of q ≡ stack_of p → AnsweredByLook called said n (view p) (view q) → IsReady b q
read_ready b p q called said n leaves r pass stack a =
    let same = sections_looked called said n (view p) (view q) leaves a in
    record {
      inside = (pass, subst (InCall (view q)) (sym stack) (in_call_stays (view p) (view q) (stack_of p) r.inside.1 same.0 same.1 same.2 (still_look called said n (view p) (view q) a r.inside.1.still)));
      own = ap (λ (s : Stack). s.own) stack ∙ r.own;
      mark = ap (λ (s : Stack). s.mark) stack ∙ r.mark;
      top = λ outer top split.
          let t = r.top outer top (sym (ap (λ (s : Stack). s.sections) stack) ∙ split) in
          (same.1 top.locks.lower ∙ t.0, same.1 top.locks.upper ∙ t.1);
    }

-- ---- calls that may be made so

looks_on : (called : Call) → may_look called ≡ true → IsOnContainers called
looks_on (call.Dict o dc) may = tt
looks_on (call.List o lc) may = tt
looks_on (call.Set o sc) may = tt
looks_on (call.Deque o qc) may = tt
looks_on (call.Next number) may = absurd (let e : false ≡ true = may in cc)
looks_on (call.Begin first second) may = absurd (let e : false ≡ true = may in cc)
looks_on call.End may = absurd (let e : false ≡ true = may in cc)
looks_on call.Quiesce may = absurd (let e : false ≡ true = may in cc)
looks_on (call.Await thread index) may = absurd (let e : false ≡ true = may in cc)
looks_on call.Dump may = absurd (let e : false ≡ true = may in cc)

pub looks_plain : (called : Call) → may_look called ≡ true → IsPlain called
looks_plain called may = plain_call called (looks_on called may)

-- none of them moves a cursor
pub looks_none : (called : Call) → may_look called ≡ true → (number : ℕ) → moved_cursor called ≡ Some number → ⊥
looks_none called may number moves = absurd (let e : None ≡ Some number = sym (looks_still called may) ∙ moves in cc)

-- ---- the caller

-- it has its answer
pub looked_caller : (e : Engine) (c : Caller) (q : Pass) (called : Call) (said : Reply) (stamp : Stamp) → IsCallerOf e c → c.flight ≡ flight.Idle → 0 < c.calls - c.made → IsPlain called → IsPassOf e.bank q → stack_of q ≡ stack_of c.pass → MakesEntry called said stamp (view c.pass) (view q) → ((number : ℕ) → moved_cursor called ≡ Some number → ⊥) → AnsweredByLook called said stamp.number (view c.pass) (view q) → IsCallerOf e (record c { pass = q; made = c.made + 1 })
looked_caller e c q called said stamp is idle left plain pass stack entry moves a = record {
  pass = pass;
  inside = subst (IsIn e.bank q c.cursors.items) (sym idle) (read_ready e.bank c.pass q called said stamp.number plain.sections (subst (IsIn e.bank c.pass c.cursors.items) idle is.inside) pass stack a);
  made = let m = is.made in let n = ap length entry.entries in omega (arith, m, n);
  calls = is.calls;
  few = omega (arith, left);
  word = is.word;
  left = let k = is.left in let l = entry.left in omega (arith, k, l);
  cursors = λ number low. is.cursors number low ∙ sym (entry.cursors number (moves number));
  over = is.over;
}

-- it loaded words, and was refused memory or not
pub loaded_caller : (e : Engine) (c : Caller) (q : Pass) (f : Flight) → IsCallerOf e c → c.flight ≡ flight.Idle → IsPassOf e.bank q → stack_of q ≡ stack_of c.pass → OnlyLooked (view c.pass) (view q) → IsIn e.bank q c.cursors.items f → IsCallerOf e (record c { pass = q; flight = f })
loaded_caller e c q f is idle pass stack l inside =
    let n = boxed_nothing (view c.pass) (view q) l.boxed in
    record {
      pass = pass;
      inside = inside;
      made = is.made ∙ sym (ap length n.entries);
      calls = is.calls;
      few = is.few;
      word = is.word;
      left = let a = n.left in let k = is.left in omega (arith, a, k);
      cursors = λ number low. is.cursors number low ∙ sym (n.cursors number);
      over = is.over;
    }

pub loaded_inside : (e : Engine) (c : Caller) (q : Pass) → IsCallerOf e c → c.flight ≡ flight.Idle → IsPassOf e.bank q → stack_of q ≡ stack_of c.pass → OnlyLooked (view c.pass) (view q) → IsReady e.bank q
loaded_inside e c q is idle pass stack l = steps_ready e.bank c.pass q pass stack l (subst (IsIn e.bank c.pass c.cursors.items) idle is.inside)

-- ---- the list

-- the sections stay
same_up : (s : Stack) → s.own ≡ nothing_taken → s.mark ≡ None → TakenUp s s
same_up s own mark = record { none = λ nil. nil; top = λ outer top split. (top.locks.took_lower, top.locks.took_upper, split); own = own; mark = mark }

own_same : (s : Stack) → s.own ≡ nothing_taken → s ≡ with_own s nothing_taken
own_same s own = ap (λ (taking : Taking). with_own s taking) own

-- what a caller between two calls may begin
module _ (e : Engine) (c : Caller) (called : Call) (is : IsCallerOf e c) (idle : c.flight ≡ flight.Idle) where
  idle_ready : IsReady e.bank c.pass
  idle_ready = subst (IsIn e.bank c.pass c.cursors.items) idle is.inside

  idle_next : AllowsCall c.flight called
  idle_next = subst (λ (f : Flight). AllowsCall f called) (sym idle) tt

  idle_same : stack_of c.pass ≡ with_own (stack_of c.pass) nothing_taken
  idle_same = own_same (stack_of c.pass) idle_ready.own

  looked_owned : (q : Pass) (said : Reply) (stamp : Stamp) (mine : List NamedEntry) → IsPlain called → may_look called ≡ true → stack_of q ≡ stack_of c.pass → MakesEntry called said stamp (view c.pass) (view q) → SameOwners (view c.pass) (view q) → AreOwnedBy (view c.pass) (stack_of c.pass) c.flight mine → AreOwnedBy (view q) (stack_of q) c.flight (mine ++ named_entry (thread_of c) mine called said stamp None ∷ [])
  looked_owned q said stamp mine plain looks stack entry owners old =
      let v = view c.pass in
      let w = view q in
      let s = stack_of c.pass in
      let hands = c.cursors.items in
      let has = answered_owned v w s s c.flight mine called hands entry.pass.number entry.pass.lists (same_locks_only (IsLockedFor hands called) v w owners) (same_finds_more v w owners) old (no_answer_idle c.flight idle) idle_next (idle_free e c is) (at_hand hands v is.cursors) said stamp
      (walked_none called said stamp v w (looks_still called looks) entry) (subst (StackAfter called s) (sym idle_same) (plain.leaves s)) refl in
      let done = done_owned w s s (thread_of c) called said stamp mine (ap (λ (n : ℕ). n - 1) (sym entry.pass.number)) has (same_up s idle_ready.own idle_ready.mark) in
      subst (λ (x : Stack × Flight × Option ℕ). AreOwnedBy w x.0 x.1 (mine ++ named_entry (thread_of c) mine called said stamp x.2 ∷ [])) (λ d. (sym stack d, sym idle d, idle_ready.mark d)) done

  -- it was refused memory
  looked_refused : (q : Pass) (mine : List NamedEntry) → stack_of q ≡ stack_of c.pass → OnlyLooked (view c.pass) (view q) → AreOwnedBy (view c.pass) (stack_of c.pass) c.flight mine → AreOwnedBy (view q) (stack_of q) (flight.Refused called) mine
  looked_refused q mine stack l old =
      let v = view c.pass in
      let w = view q in
      let hands = c.cursors.items in
      let n = boxed_nothing v w l.boxed in
      let owners = l.boxed.work.pass.owners in
      refused_owned v w (stack_of c.pass) (stack_of q) c.flight mine called hands n.pass.number n.pass.lists (same_locks_only (IsLockedFor hands called) v w owners) (same_finds_more v w owners) old (no_answer_idle c.flight idle) idle_next (idle_free e c is) (at_hand hands v is.cursors) n.cursors (stack ∙ idle_same)

pub looked_kept : (e : Engine) (c : Caller) (q : Pass) (called : Call) (said : Reply) (stamp : Stamp) (mine : List NamedEntry) → IsCallerOf e c → c.flight ≡ flight.Idle → IsPlain called → may_look called ≡ true → stack_of q ≡ stack_of c.pass → MakesEntry called said stamp (view c.pass) (view q) → SameOwners (view c.pass) (view q) → WasAnswered c mine → WasAnswered (record c { pass = q; made = c.made + 1 }) (mine ++ named_entry (thread_of c) mine called said stamp None ∷ [])
looked_kept e c q called said stamp mine is idle plain looks stack entry owners kept =
    let ready : IsReady e.bank c.pass = subst (IsIn e.bank c.pass c.cursors.items) idle is.inside in
    let s = stack_of c.pass in
    let unanswered = no_answer_idle c.flight idle in
    let has = kept_answered (thread_of c) (view c.pass).entries s c.flight mine kept.0 unanswered (view q).entries s called said stamp entry.entries (sym (plain.marks (section_marks s))) refl (λ end. ready.mark) (plain.ends (section_marks s) said) in
    let done = kept_done (thread_of c) (view q).entries s called said stamp mine has s (same_up s ready.own ready.mark) in
    let named = subst (λ (mark : Option ℕ). AreThreadEntries (thread_of c) (view q).entries s flight.Idle (mine ++ named_entry (thread_of c) mine called said stamp mark ∷ [])) ready.mark done in (
      subst (λ (x : ℕ × Stack × Flight). AreThreadEntries x.0 (view q).entries x.1 x.2 (mine ++ named_entry (thread_of c) mine called said stamp None ∷ [])) (λ d. (ap (λ (n : ℕ). n - 1) (sym entry.pass.number) d, sym stack d, sym idle d)) named,
      looked_owned e c called is idle q said stamp mine plain looks stack entry owners kept.1,
    )

pub loaded_kept : (c : Caller) (q : Pass) (f : Flight) (mine : List NamedEntry) → stack_of q ≡ stack_of c.pass → OnlyLooked (view c.pass) (view q) → AreThreadEntries (thread_of c) (view c.pass).entries (stack_of c.pass) f mine → AreOwnedBy (view q) (stack_of q) f mine → WasAnswered (record c { pass = q; flight = f }) mine
loaded_kept c q f mine stack l kept owned =
    let n = boxed_nothing (view c.pass) (view q) l.boxed in
    (subst (λ (x : ℕ × List Entry × Stack). AreThreadEntries x.0 x.1 x.2 f mine) (λ d. (ap (λ (k : ℕ). k - 1) (sym n.pass.number) d, sym n.entries d, sym stack d)) kept, owned)

-- it was contended
contended_kept : (c : Caller) (q : Pass) (mine : List NamedEntry) → stack_of q ≡ stack_of c.pass → OnlyLooked (view c.pass) (view q) → WasAnswered c mine → WasAnswered (record c { pass = q }) mine
contended_kept c q mine stack l kept =
    let n = boxed_nothing (view c.pass) (view q) l.boxed in
    loaded_kept c q c.flight mine stack l kept.0 (subst (λ (s : Stack). AreOwnedBy (view q) s c.flight mine) (sym stack) (calm_owned (view c.pass) (view q) (stack_of c.pass) c.flight mine n.pass.number n.pass.lists l.boxed.work.pass.owners n.cursors kept.1))

-- it was refused memory
pub refused_kept : (e : Engine) (c : Caller) (called : Call) (mine : List NamedEntry) → IsCallerOf e c → c.flight ≡ flight.Idle → WasAnswered c mine → AreThreadEntries (thread_of c) (view c.pass).entries (stack_of c.pass) (flight.Refused called) mine
refused_kept e c called mine is idle kept =
    kept_refused (thread_of c) (view c.pass).entries (stack_of c.pass) c.flight mine kept.0 (no_answer_idle c.flight idle) (stack_of c.pass) called (idle_same e c called is idle)

-- ---- all looks

module _ (e : Engine) (c : Caller) (q : Pass) (called : Call) (is : IsCallerOf e c) (idle : c.flight ≡ flight.Idle) (left : 0 < c.calls - c.made) (looks : may_look called ≡ true) (pass : IsPassOf e.bank q) (stack : stack_of q ≡ stack_of c.pass) where
  done_entry : (said : Reply) (stamp : Stamp) → IsLooked called (view c.pass) (view q) (look.Done said stamp) → MakesEntry called said stamp (view c.pass) (view q)
  done_entry said stamp x = let k = is.left in look_adds called said stamp (view c.pass) (view q) x.1 (omega (arith, left, k)) x.0

  still_inside : OnlyLooked (view c.pass) (view q) → IsReady e.bank q
  still_inside l = loaded_inside e c q is idle pass stack l

  pub after_caller : (answer : Look) → IsLooked called (view c.pass) (view q) answer → IsCallerOf e (after_look called answer (record c { pass = q }))
  after_caller (look.Done said stamp) x = looked_caller e c q called said stamp is idle left (looks_plain called looks) pass stack (done_entry said stamp x) (looks_none called looks) x.0
  after_caller (look.Contended a b) x =
      subst (λ (f : Flight). IsCallerOf e (record c { pass = q; flight = f })) (sym idle) (loaded_caller e c q flight.Idle is idle pass stack x.2 (still_inside x.2))
  after_caller look.NoMemory x = loaded_caller e c q (flight.Refused called) is idle pass stack x.0 (still_inside x.0).inside

  pub after_same : (answer : Look) → IsLooked called (view c.pass) (view q) answer → StaysCaller c (after_look called answer (record c { pass = q }))
  after_same (look.Done said stamp) x = record { pass = (done_entry said stamp x).pass; room = refl }
  after_same (look.Contended a b) x = record { pass = (boxed_nothing (view c.pass) (view q) x.2.boxed).pass; room = refl }
  after_same look.NoMemory x = record { pass = (boxed_nothing (view c.pass) (view q) x.0.boxed).pass; room = refl }

  pub after_flight : (answer : Look) → (after_look called answer (record c { pass = q })).flight ≡ flight_looked called answer
  after_flight (look.Done said stamp) = idle
  after_flight (look.Contended a b) = idle
  after_flight look.NoMemory = refl

  pub after_kept : (answer : Look) (mine : List NamedEntry) → IsLooked called (view c.pass) (view q) answer → WasAnswered c mine → WasAnswered (after_look called answer (record c { pass = q })) (entries_with_look (thread_of c) called answer mine)
  after_kept (look.Done said stamp) mine x kept = looked_kept e c q called said stamp mine is idle (looks_plain called looks) looks stack (done_entry said stamp x) (looked_owners called said stamp.number (view c.pass) (view q) x.0) kept
  after_kept (look.Contended a b) mine x kept = contended_kept c q mine stack x.2 kept
  after_kept look.NoMemory mine x kept = loaded_kept c q (flight.Refused called) mine stack x.0 (refused_kept e c called mine is idle kept) (looked_refused e c called is idle q mine stack x.0 kept.1)

-- the pass is that of the look
pub after_pass : (called : Call) (answer : Look) (c : Caller) → (after_look called answer c).pass ≡ c.pass
after_pass called (look.Done said stamp) c = refl
after_pass called (look.Contended a b) c = refl
after_pass called look.NoMemory c = refl
