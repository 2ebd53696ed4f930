-- A worker between two calls: its next call may be made, and what comes of it.
use Rattle.std.specs.declared.alloc.Global.{Global}
use Rattle.std.proofs.Common.{◌≡◌, ◌+◌, ◌-◌, ◌<◌, ◌≤◌, ℕ, false, List, [], ◌∷◌, ◌++◌, length, map, take, refl, sym, ap, ◌∙◌, subst, arith, Some}
use Rattle.std.specs.Prelude.{All, IsTrue, Option, Vec, fold, slice_get, vec_capacity}
use Rattle.std.proofs.lemmas.List.Elements.{All-get_or}
use Rattle.std.proofs.lemmas.List.{length-map, length-reverse, length-take, map-append, take_all}
use Rattle.std.proofs.lemmas.Option.{get_or_from_slice_get, slice_get_within}
use Rattle.ft_model.specs.declared.call.Call.{Call}
use Rattle.ft_model.specs.declared.call.Call.TheVariants as call
use Rattle.ft_model.specs.declared.entry.Entry.{Entry as NamedEntry}
use Rattle.ft_model.specs.declared.reply.Reply.{Reply}
use Rattle.ft_model.specs.declared.script.ScriptParts.{ScriptParts}
use Rattle.ft_model.specs.Histories.{calls_of}
use Rattle.ft_history.proofs.HistoryPlaces.{take_next}
use Rattle.ft_trace.specs.declared.Presence.TheVariants as presence
use Rattle.ft_trace.specs.Acts.{announces, presence_of}
use Rattle.ft_trace.specs.OwnCursors.{plain_entry}
use Rattle.ft_trace.specs.Boxes.{HasMergedBoxes}
use Rattle.ft_bank.specs.Passes.{shape_of, view}
use Rattle.ft_bank.specs.PassSections.{stack_of}
use Rattle.ft_bank.specs.declared.sections.OpenSection.{OpenSection}
use Rattle.ft_section.specs.declared.answers.Stamp.{Stamp}
use Rattle.ft_engine.specs.declared.caller.Caller.{Caller}
use Rattle.ft_engine.specs.declared.caller.Flight.{Flight}
use Rattle.ft_engine.specs.declared.engine.Engine.{Engine}
use Rattle.ft_engine.specs.Answering.{MakesNoEntry}
use Rattle.ft_engine.specs.Attempts.{StaysCaller}
use Rattle.ft_engine.specs.Callers.{IsCallerOf, IsIdle, bank_of, pass_of, thread_of}
use Rattle.ft_engine.specs.Flights.{IsFlightAnswered, AllowsCall}
use Rattle.ft_engine.specs.Keeping.{WasAnswered, named_entry}
use Rattle.ft_engine.specs.Visits.{SameCallerWork}
use Rattle.ft_run_threads.specs.declared.workers.Worker.{Worker}
use Rattle.ft_run_threads.specs.Workers.{AreCallsOn, HasNoted, HasWorked, IsAwaitFrom, IsBetween, IsMember, IsOnline, MayMake}
use Rattle.ft_run_threads.proofs.ThreadDepths.{depth_unanswered, own_entries, step_depth}
use Rattle.ft_run_threads.proofs.NextCalls.{left, may_next}
use Rattle.ft_bank.specs.Closings.{HasBeenOnline}

-- ---- the same caller

pub stays_member : (e : Engine) (i : ℕ) (c d : Caller) → IsMember e i c → StaysCaller c d → IsCallerOf e d → IsMember e i d
stays_member e i c d is same caller =
    record {
      caller = caller;
      thread = ap (λ (n : ℕ). n - 1) same.pass.number ∙ is.thread;
      next = same.pass.next ∙ is.next;
      parts = same.pass.parts ∙ is.parts;
      taken = same.pass.lists ∙ is.taken;
    }

-- ---- a worker between two calls

unanswered : (w : Worker) → IsIdle w.caller → IsFlightAnswered w.caller.flight → ⊥
unanswered w idle answered = subst IsFlightAnswered idle answered

module _ (e : Engine) (i : ℕ) (calls : List Call) (place : ℕ) (w : Worker) (on : IsOnline e i calls place w) where
  pub count : place ≤ length calls → length w.entries.items ≡ place
  count low = sym (length-map w.entries.items (λ (x : NamedEntry). x.call)) ∙ (ap length on.0.made ∙ (let t = length-take place calls in omega (arith, low, t)))

  module _ (are : AreCallsOn (shape_of (bank_of e)) calls) (called : Call) (at : slice_get calls place ≡ Some called) where
    here : length w.entries.items ≡ place
    here = let low : place < length calls = slice_get_within calls place called at in count (omega (arith, low))

    made_here : map (λ (x : NamedEntry). x.call) w.entries.items ≡ take (length w.entries.items) calls
    made_here = subst (λ (n : ℕ). map (λ (x : NamedEntry). x.call) w.entries.items ≡ take n calls) (sym here) on.0.made

    at_here : slice_get calls (length w.entries.items) ≡ Some called
    at_here = ap (slice_get calls) here ∙ at

    pub may : All (IsAwaitFrom i) calls → MayMake e w.caller called
    may awaits =
        let between : IsBetween e i calls place w = on.0 in
        record {
          tried = λ other. may_next e i calls w.caller w.entries.items between.member between.cursors between.kept made_here are called at_here (subst (λ (f : Flight). AllowsCall f called) (sym between.idle) tt) other on.1;
          awaited = λ thread index is.
              let low : place < length calls = slice_get_within calls place called at in
              let named : IsAwaitFrom i (call.Await thread index) = subst (IsAwaitFrom i) (get_or_from_slice_get calls place called called at ∙ is) (All-get_or (IsAwaitFrom i) calls place called low awaits) in
              record {
                await = is;
                idle = between.idle;
                online = on.1;
                left = left e i calls w.caller w.entries.items between.member between.cursors between.kept made_here are called at_here (unanswered w between.idle);
                some = named.1;
                earlier = subst (λ (n : ℕ). thread < n) (sym between.member.thread) named.0;
              };
        }

-- ---- steps

pub visited_member : (e : Engine) (i : ℕ) (c d : Caller) → IsMember e i c → SameCallerWork c d → IsCallerOf e d → IsMember e i d
visited_member e i c d is same caller =
    record {
      caller = caller;
      thread = ap (λ (n : ℕ). n - 1) same.number ∙ is.thread;
      next = same.next ∙ is.next;
      parts = same.parts ∙ is.parts;
      taken = same.taken ∙ is.taken;
    }

pub gave_up_member : (e : Engine) (i : ℕ) (c d : Caller) → IsMember e i c → MakesNoEntry (view (pass_of c)) (view (pass_of d)) → IsCallerOf e d → IsMember e i d
gave_up_member e i c d is adds caller =
    record {
      caller = caller;
      thread = ap (λ (n : ℕ). n - 1) adds.pass.number ∙ is.thread;
      next = adds.pass.next ∙ is.next;
      parts = adds.pass.parts ∙ is.parts;
      taken = adds.pass.lists ∙ is.taken;
    }

-- the worker, offline or online now, is where it was
pub visited : (e : Engine) (i : ℕ) (calls : List Call) (place : ℕ) (w x : Worker) → IsBetween e i calls place w → SameCallerWork w.caller x.caller → IsCallerOf e x.caller → x.entries ≡ w.entries
    → ((mine : List NamedEntry) → WasAnswered w.caller mine → WasAnswered x.caller mine) → IsBetween e i calls place x
visited e i calls place w x is same caller rows kept =
    record {
      member = visited_member e i w.caller x.caller is.member same caller;
      idle = same.flight ∙ is.idle;
      cursors = ap length same.cursors ∙ is.cursors;
      kept = subst (WasAnswered x.caller) (ap (λ (v : Vec NamedEntry Global). v.items) (sym rows)) (kept w.entries.items is.kept);
      made = ap (λ (v : Vec NamedEntry Global). map (λ (e : NamedEntry). e.call) v.items) rows ∙ is.made;
      rows = subst (λ (v : Vec NamedEntry Global). length calls ≤ vec_capacity v) (sym rows) is.rows;
    }

-- the call at the place was answered, and its entry added
pub answered : (e : Engine) (i : ℕ) (calls : List Call) (place : ℕ) (w x : Worker) (called : Call) (said : Reply) (stamp : Stamp) (mark : Option ℕ) → IsOnline e i calls place w → slice_get calls place ≡ Some called
    → IsCallerOf e x.caller → StaysCaller w.caller x.caller → IsIdle x.caller → WasAnswered x.caller (w.entries.items ++ named_entry (thread_of w.caller) w.entries.items called said stamp mark ∷ [])
    → (row : NamedEntry) → row ≡ record { thread = thread_of w.caller; index = place + 1; stamp = stamp.number; wrote = stamp.wrote; call = called; reply = said; waited = mark }
    → x.entries.items ≡ w.entries.items ++ row ∷ [] → vec_capacity x.entries ≡ vec_capacity w.entries → IsOnline e i calls (place + 1) x
answered e i calls place w x called said stamp mark on at caller same idle kept row is items capacity =
    let low : place < length calls = slice_get_within calls place called at in
    let here : length w.entries.items ≡ place = count e i calls place w on (omega (arith, low)) in
    let entry = named_entry (thread_of w.caller) w.entries.items called said stamp mark in
    let whole : x.entries.items ≡ w.entries.items ++ entry ∷ [] =
    items ∙ ap (λ (y : NamedEntry). w.entries.items ++ y ∷ []) (is ∙ ap (λ (n : ℕ). record { thread = thread_of w.caller; index = n + 1; stamp = stamp.number; wrote = stamp.wrote; call = called; reply = said; waited = mark }) (sym here)) in
    let made : map (λ (y : NamedEntry). y.call) x.entries.items ≡ take (place + 1) calls =
    ap (map (λ (y : NamedEntry). y.call)) whole
    ∙ (map-append (λ (y : NamedEntry). y.call) w.entries.items (entry ∷ [])
    ∙ (ap (λ (cs : List Call). cs ++ called ∷ []) on.0.made
    ∙ sym (take_next calls place called at))) in (
      record {
        member = stays_member e i w.caller x.caller on.0.member same caller;
        idle = idle;
        cursors = same.room ∙ on.0.cursors;
        kept = subst (WasAnswered x.caller) (sym whole) kept;
        made = made;
        rows = subst (λ (n : ℕ). length calls ≤ n) (sym capacity) on.0.rows;
      },
      same.pass.online on.1,
      same.pass.stays_online on.2,
    )

-- its pass has as many entries
pub has_made : (e : Engine) (i : ℕ) (calls : List Call) (place : ℕ) (w : Worker) → IsOnline e i calls place w → place ≤ length calls → length (view (pass_of w.caller)).entries ≡ place
has_made e i calls place w on low =
    let mine = w.entries.items in
    ap length (own_entries w.caller mine (unanswered w on.0.idle) on.0.kept) ∙ (length-reverse (map plain_entry mine) ∙ (length-map mine plain_entry ∙ count e i calls place w on low))

-- it has made notes since
pub noted_online : (e : Engine) (i : ℕ) (calls : List Call) (place : ℕ) (w x : Worker) → IsOnline e i calls place w → HasNoted e w.caller x.caller → x.entries ≡ w.entries → IsOnline e i calls place x
noted_online e i calls place w x on noted rows =
    (visited e i calls place w x on.0 noted.same noted.caller rows noted.kept, subst (λ (n : ℕ). 0 < n) (sym noted.announced) on.1, noted.presence ∙ on.2)

-- ---- a worker that has made its last call

pub no_sections : (l : List OpenSection) → length l ≡ 0 → l ≡ []
no_sections [] none = refl
no_sections (x ∷ l) none = absurd (omega (arith, none))

pub worked : (e : Engine) (script : ScriptParts) (i : ℕ) (calls : List Call) (w x : Worker) → calls ≡ calls_of script i → fold step_depth 0 calls ≡ 0 → IsBetween e i calls (length calls) w → SameCallerWork w.caller x.caller → IsCallerOf e x.caller → x.entries ≡ w.entries
    → ((mine : List NamedEntry) → WasAnswered w.caller mine → WasAnswered x.caller mine) → announces (view (pass_of x.caller)).log ≡ 0 → HasMergedBoxes (view (pass_of x.caller)).log → presence_of (view (pass_of x.caller)).log ≡ presence.Over → HasWorked e script i x
worked e script i calls w x are level is same caller rows kept offline merged over =
    let now = visited e i calls (length calls) w x is same caller rows kept in
    let made : map (λ (y : NamedEntry). y.call) x.entries.items ≡ calls = now.made ∙ take_all (length calls) calls (omega arith) in
    let depth : length (stack_of (pass_of x.caller)).sections ≡ 0 = depth_unanswered x.caller x.entries.items (unanswered x now.idle) now.kept ∙ (ap (fold step_depth 0) made ∙ level) in
    record {
      member = now.member;
      done = λ done. record { idle = now.idle; sections = no_sections (stack_of (pass_of x.caller)).sections depth; offline = offline; merged = merged };
      kept = λ done. now.kept;
      made = λ done. made ∙ are;
      online = λ done. subst HasBeenOnline (sym over) tt;
    }

pub gave_up : (e : Engine) (script : ScriptParts) (i : ℕ) (x : Worker) → IsMember e i x.caller → x.done ≡ false → HasWorked e script i x
gave_up e script i x member undone =
    let never : IsTrue x.done → ⊥ = λ done. let d = done in let u = undone in grind (arith, d, u) in
    record { member = member; done = λ done. absurd (never done); kept = λ done. absurd (never done); made = λ done. absurd (never done); online = λ done. absurd (never done) }
