-- What a script says of the calls of its threads, and so of the entries of these calls.
use Rattle.std.proofs.Common.{◌≡◌, ℕ, zero, suc, ◌<◌, ◌≤◌, List, [], ◌∷◌, length, map, get_or, refl, sym, ap, ◌∙◌, subst, arith, inl, inr, None, Some}
use Rattle.std.specs.List.{All}
use Rattle.std.specs.Option.{option_map_or}
use Rattle.std.specs.Prelude.{Option, IfSome, fold, slice_get, sum}
use Rattle.std.proofs.lemmas.List.{get_or-map, length-map}
use Rattle.std.proofs.lemmas.List.Elements.{All-nil, All-weaker}
use Rattle.std.proofs.lemmas.List.Sums.{sum_by-cons}
use Rattle.std.proofs.lemmas.Option.{slice_get_cases, slice_get_past, get_or_from_slice_get, slice_get_within}
use Rattle.ft_model.specs.declared.call.Call.{Call}
use Rattle.ft_model.specs.declared.call.Call.TheVariants as call
use Rattle.ft_model.specs.declared.entry.Entry.{Entry}
use Rattle.ft_model.specs.declared.script.ScriptParts.{ScriptParts}
use Rattle.ft_model.specs.declared.script.Thread.{Thread}
use Rattle.ft_model.specs.Calls.{moved_cursor}
use Rattle.ft_model.specs.Histories.{calls_of, cursors_of}
use Rattle.ft_model.specs.Scripts.{IsAwaitOf, IsCallOf, IsScript, IsThread}
use Rattle.ft_trace.specs.declared.Shape.{Shape}
use Rattle.ft_bank_history.specs.Numbering.{AskOwnCursors}
use Rattle.ft_bank_history.specs.Marks.{HaveScriptCalls}
use Rattle.ft_run_threads.specs.Workers.{AreCallsOn, IsAwaitFrom, IsBankFor}
use Rattle.ft_run_threads.proofs.ThreadDepths.{ends_at_none, step_depth}

moved_within : (script : ScriptParts) (cursors : ℕ) (called : Call) → IsCallOf script cursors called → IfSome (moved_cursor called) (λ n. n < cursors)
moved_within script cursors (call.Dict o dc) is = is.names.made
moved_within script cursors (call.List o lc) is = is.names.made
moved_within script cursors (call.Set o sc) is = is.names.made
moved_within script cursors (call.Deque o qc) is = is.names.made
moved_within script cursors (call.Next number) is = is.names
moved_within script cursors (call.Begin first second) is = tt
moved_within script cursors call.End is = tt
moved_within script cursors call.Quiesce is = tt
moved_within script cursors (call.Await thread index) is = tt
moved_within script cursors call.Dump is = tt

-- each call of a thread is one of the script, with the thread's cursors
abbrev CallsAre : ScriptParts → Option Thread → Type 0
CallsAre script own = All (IsCallOf script (option_map_or (λ (t : Thread). length t.cursors) own 0)) (option_map_or (λ (t : Thread). t.calls) own [])

-- the thread of a place
pub thread_is : (script : ScriptParts) → IsScript script → (i : ℕ) (own : Thread) → slice_get script.threads i ≡ Some own → IsThread script own
thread_is script is i own at = subst (IsThread script) (get_or_from_slice_get script.threads i own own at) (is.threads i own (slice_get_within script.threads i own at))

calls_are : (script : ScriptParts) → IsScript script → (i : ℕ) → All (IsCallOf script (cursors_of script i)) (calls_of script i)
calls_are script is i =
    elim (slice_get_cases script.threads i).1 [
      | inl found ↦ subst (CallsAre script) (sym found.2) (thread_is script is i found.0 found.2).calls
      | inr past ↦ subst (CallsAre script) (sym (slice_get_past script.threads i past.0)) (All-nil (IsCallOf script 0))
    ]

pub calls_past : (script : ScriptParts) (i : ℕ) → length script.threads ≤ i → calls_of script i ≡ []
calls_past script i past = ap (λ (own : Option Thread). option_map_or (λ (t : Thread). t.calls) own []) (slice_get_past script.threads i past)

-- threads that made just their calls ask no cursors but their own
pub own_asked : (script : ScriptParts) (lists : List (List Entry)) → IsScript script → HaveScriptCalls script lists → AskOwnCursors script lists
own_asked script lists is all i mine at place d low =
    let called = λ (e : Entry). e.call in
    let same : map called mine ≡ calls_of script i = all i mine at in
    let within : place < length (calls_of script i) = let long = length-map mine called in let e = ap length same in omega (arith, low, long, e) in
    let here : get_or (calls_of script i) place d.call ≡ (get_or mine place d).call = ap (λ (cs : List Call). get_or cs place d.call) (sym same) ∙ get_or-map called mine place d d.call low in
    moved_within script (cursors_of script i) (get_or mine place d).call (subst (IsCallOf script (cursors_of script i)) here (calls_are script is i place d.call within))

-- ---- a thread's calls

pub calls_at : (script : ScriptParts) (i : ℕ) (own : Thread) → slice_get script.threads i ≡ Some own → calls_of script i ≡ own.calls
calls_at script i own at = ap (λ (o : Option Thread). option_map_or (λ (t : Thread). t.calls) o []) at

sum_has : (ts : List Thread) (i : ℕ) (own : Thread) → slice_get ts i ≡ Some own → length own.calls ≤ sum (map (λ thread. length thread.calls) ts)
sum_has [] i own at = absurd (let none : None ≡ Some own = at in cc)
sum_has (t ∷ ts) zero own at =
    let same : t ≡ own = let e : Some t ≡ Some own = at in cc in
    let long : length t.calls ≡ length own.calls = ap (λ (x : Thread). length x.calls) same in
    let all = sum_by-cons (λ (n : ℕ). n) (length t.calls) (map (λ (x : Thread). length x.calls) ts) in
    omega (arith, long, all)
sum_has (t ∷ ts) (suc i) own at =
    let rest = sum_has ts i own at in
    let all = sum_by-cons (λ (n : ℕ). n) (length t.calls) (map (λ (x : Thread). length x.calls) ts) in
    omega (arith, rest, all)

-- they may be made on a bank for the script
pub calls_on : (script : ScriptParts) (k : Shape) (i : ℕ) (own : Thread) → IsScript script → IsBankFor script k → slice_get script.threads i ≡ Some own → AreCallsOn k own.calls
calls_on script k i own is bank at =
    record {
      script = script;
      bank = bank;
      own = own;
      thread = thread_is script is i own at;
      are = refl;
      few = let all = is.few_calls in let has = sum_has script.threads i own at in omega (arith, all, has);
    }

-- their awaits name calls of earlier threads
await_from : (script : ScriptParts) (number : ℕ) (called : Call) → IsAwaitOf script.threads number called → IsAwaitFrom number called
await_from script number (call.Await thread index) is = (is.0, is.1)
await_from script number (call.Dict o dc) is = tt
await_from script number (call.List o lc) is = tt
await_from script number (call.Set o sc) is = tt
await_from script number (call.Deque o qc) is = tt
await_from script number (call.Next cursor) is = tt
await_from script number (call.Begin first second) is = tt
await_from script number call.End is = tt
await_from script number call.Quiesce is = tt
await_from script number call.Dump is = tt

pub awaits_on : (script : ScriptParts) (i : ℕ) (own : Thread) → IsScript script → slice_get script.threads i ≡ Some own → All (IsAwaitFrom i) own.calls
awaits_on script i own is at = All-weaker (IsAwaitOf script.threads i) (IsAwaitFrom i) (await_from script i) own.calls (is.awaits i own at)

-- they end in no section
pub ends_level : (script : ScriptParts) (i : ℕ) → IsScript script → fold step_depth 0 (calls_of script i) ≡ 0
ends_level script i is =
    elim (slice_get_cases script.threads i).1 [
      | inl found ↦ ap (fold step_depth 0) (calls_at script i found.0 found.2) ∙ ends_at_none found.0.calls 0 (thread_is script is i found.0 found.2).nested
      | inr past ↦ ap (fold step_depth 0) (calls_past script i past.0)
    ]
