-- The next call of a thread may be tried, whether it is in flight already or not.
use Rattle.std.proofs.Common.{◌≡◌, ◌-◌, ◌<◌, ℕ, true, List, length, map, reverse, take, get_or, sym, ap, ◌∙◌, subst, arith, inl, inr, None, Some}
use Rattle.std.specs.Prelude.{Any, Option, fold, is_some, slice_get}
use Rattle.std.proofs.lemmas.List.{get_or-map, get_or-reverse, length-map, length-reverse}
use Rattle.std.proofs.lemmas.Option.{get_or_from_slice_get, slice_get-get_or, slice_get_cases, slice_get_within}
use Rattle.ft_hash.specs.Hashes.{text_hash}
use Rattle.ft_model.specs.declared.call.Call.{Call}
use Rattle.ft_model.specs.declared.call.Call.TheVariants as call
use Rattle.ft_model.specs.declared.cursor.Cursor.{Cursor}
use Rattle.ft_model.specs.declared.entry.Entry.{Entry as NamedEntry}
use Rattle.ft_model.specs.Calls.{moved_cursor}
use Rattle.ft_model.specs.Limits.{most_cursors}
use Rattle.ft_model.specs.Scripts.{IsCallOf, cursor_of}
use Rattle.ft_model.specs.Worlds.{cursor_at}
use Rattle.ft_trace.specs.declared.Entry.{Entry}
use Rattle.ft_trace.specs.Acts.{announces}
use Rattle.ft_trace.specs.OwnCursors.{plain_entry}
use Rattle.ft_bank.specs.Passes.{shape_of, view}
use Rattle.ft_bank.specs.PassSections.{stack_of}
use Rattle.ft_engine.specs.declared.caller.Caller.{Caller}
use Rattle.ft_engine.specs.declared.engine.Engine.{Engine}
use Rattle.ft_engine.specs.Asked.{FitsSections, IsCallIn}
use Rattle.ft_engine.specs.Attempts.{MayAttempt}
use Rattle.ft_engine.specs.Callers.{bank_of, flight_of, hands_of, left_of, pass_of}
use Rattle.ft_engine.specs.Flights.{IsFlightAnswered, AllowsCall}
use Rattle.ft_engine.specs.Keeping.{WasAnswered}
use Rattle.ft_run_threads.specs.Workers.{AreCallsOn, IsMember, IsNoAwait}
use Rattle.ft_run_threads.proofs.ThreadDepths.{FitsDepth, depth_unanswered, fits_at, fits_sections, own_entries, step_depth}
use Rattle.ft_run_threads.proofs.Made.{cursor_there}
use Rattle.ft_run_threads.proofs.Named.{named_in}
use Rattle.ft_model.specs.Landed.{is_landed_call}

made_moves : (called : Call) (n : ℕ) → cursor_of called ≡ Some n → moved_cursor called ≡ Some n
made_moves (call.Dict o dc) n is = is
made_moves (call.List o lc) n is = is
made_moves (call.Set o sc) n is = is
made_moves (call.Deque o qc) n is = is
made_moves (call.Next number) n is = absurd (let none : None ≡ Some n = is in cc)
made_moves (call.Begin first second) n is = is
made_moves call.End n is = is
made_moves call.Quiesce n is = is
made_moves (call.Await thread index) n is = is
made_moves call.Dump n is = is

-- an entry that was kept is one of the pass
in_pass : (mine : List NamedEntry) (entries : List Entry) (j : ℕ) (m : NamedEntry) → entries ≡ reverse (map plain_entry mine) → slice_get mine j ≡ Some m → slice_get entries (length mine - 1 - j) ≡ Some (plain_entry m)
in_pass mine entries j m same at =
    let own = map plain_entry mine in
    let low : j < length mine = slice_get_within mine j m at in
    let long : length own ≡ length mine = length-map mine plain_entry in
    let place = length mine - 1 - j in
    let within : place < length own = omega (arith, low, long) in
    let within' : place < length (reverse own) = let r = length-reverse own in omega (arith, within, r) in
    let back : length own - 1 - place ≡ j = omega (arith, low, long) in
    let is : get_or (reverse own) place (plain_entry m) ≡ plain_entry m =
    get_or-reverse own place (plain_entry m) within
    ∙ (ap (λ (n : ℕ). get_or own n (plain_entry m)) back
    ∙ (get_or-map plain_entry mine j m (plain_entry m) low ∙ ap plain_entry (get_or_from_slice_get mine j m m at))) in
    ap (λ (l : List Entry). slice_get l place) same ∙ (slice_get-get_or (reverse own) place (plain_entry m) within' ∙ ap (λ (x : Entry). Some x) is)

-- the caller was answered these entries, of the thread's first calls
module _ (e : Engine) (i : ℕ) (calls : List Call) (c : Caller) (mine : List NamedEntry) (member : IsMember e i c) (cursors : length (hands_of c) ≡ most_cursors) (kept : WasAnswered c mine) (made : map (λ entry. entry.call) mine ≡ take (length mine) calls) where
  abbrev place : ℕ
  place = length mine

  -- the cursor that a call of it made is there
  there : (IsFlightAnswered c.flight → ⊥) → (number : ℕ) → number < length (hands_of c) → Any (λ earlier. cursor_of earlier ≡ Some number) (take place calls) → is_some (cursor_at (hands_of c) number) ≡ true
  there unanswered number room any =
      let called_of = λ (x : NamedEntry). x.call in
      let j = any.0 in
      let long : length mine ≡ length (take place calls) = sym (length-map mine called_of) ∙ ap length made in
      elim (slice_get_cases mine j).1 [
        | inl found ↦
            let m : NamedEntry = found.0 in
            let low : j < length mine = slice_get_within mine j m found.2 in
            let same : m.call ≡ any.1 =
            sym (ap called_of (get_or_from_slice_get mine j m m found.2))
            ∙ (sym (get_or-map called_of mine j m any.1 low) ∙ (ap (λ (cs : List Call). get_or cs j any.1) made ∙ any.3)) in
            let moved : moved_cursor m.call ≡ Some number = made_moves m.call number (ap cursor_of same ∙ any.4) in
            let v = view (pass_of c) in
            ap (λ (o : Option Cursor). is_some o) (member.caller.cursors number room)
            ∙ cursor_there v (pass_of c).possible number (length mine - 1 - j) (plain_entry m) (in_pass mine v.entries j m (own_entries c mine unanswered kept) found.2) moved
        | inr past ↦ absurd (let low = any.2 in let far = past.0 in omega (arith, low, far, long))
      ]

  module _ (are : AreCallsOn (shape_of (bank_of e)) calls) (called : Call) (at : slice_get calls place ≡ Some called) where
    at_own : slice_get are.own.calls place ≡ Some called
    at_own = ap (λ (cs : List Call). slice_get cs place) are.are ∙ at

    call_is : IsCallOf are.script (length are.own.cursors) called
    call_is = subst (IsCallOf are.script (length are.own.cursors)) (get_or_from_slice_get are.own.calls place called called at_own) (are.thread.calls place called (slice_get_within are.own.calls place called at_own))

    landed : is_landed_call called ≡ true
    landed = subst (λ (x : Call). is_landed_call x ≡ true) (get_or_from_slice_get are.own.calls place called called at_own) (are.thread.landed place called (slice_get_within are.own.calls place called at_own))

    named : IsNoAwait called → (IsFlightAnswered c.flight → ⊥) → IsCallIn (shape_of (bank_of e)) (hands_of c) called
    named other unanswered =
        let few = are.thread.few_cursors in
        let room : (n : ℕ) → n < length are.own.cursors → n < length (hands_of c) = λ n small. let cs = cursors in omega (arith, small, few, cs) in
        named_in are.script (shape_of (bank_of e)) are.bank.starts (ap length are.bank.texts ∙ length-map are.script.strings text_hash) (hands_of c) (length are.own.cursors) called other room call_is landed
        (λ number next.
        there unanswered number (room number (subst (λ (x : Call). IsCallOf are.script (length are.own.cursors) x) next call_is).names)
        (subst (λ (cs : List Call). Any (λ earlier. cursor_of earlier ≡ Some number) (take place cs)) are.are
        (are.thread.made place number (at_own ∙ ap (λ (x : Call). Some x) next))))

    pub left : (IsFlightAnswered c.flight → ⊥) → 0 < left_of c
    left unanswered =
        let answered = member.caller.made in
        let calls_are = member.caller.calls in
        let most = are.bank.calls in
        let few = are.few in
        let entries_are = own_entries c mine unanswered kept in
        let long : length (view (pass_of c)).entries ≡ length mine = ap length entries_are ∙ (length-reverse (map plain_entry mine) ∙ length-map mine plain_entry) in
        let low : place < length calls = slice_get_within calls place called at in
        omega (arith, answered, calls_are, most, few, long, low)

    sections : (IsFlightAnswered c.flight → ⊥) → FitsSections (stack_of (pass_of c)) called
    sections unanswered =
        let nested = subst (λ (cs : List Call). FitsDepth (fold step_depth 0 (take place cs)) called) are.are (fits_at are.own.calls 0 are.thread.nested place called at_own) in
        let depth : length (stack_of (pass_of c)).sections ≡ fold step_depth 0 (take place calls) = depth_unanswered c mine unanswered kept ∙ ap (fold step_depth 0) made in
        fits_sections (stack_of (pass_of c)) called (subst (λ (n : ℕ). FitsDepth n called) (sym depth) nested)

    pub may_next : AllowsCall (flight_of c) called → IsNoAwait called → 0 < announces (view (pass_of c)).log → MayAttempt e c called
    may_next next other online = record { next = next; names = named other; left = left; sections = sections; online = online }
