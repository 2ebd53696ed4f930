-- The next call of a thread may be tried, whether it is in flight already or not.
use Rattle.std.proofs.Common.{◌≡◌, ◌<◌, ◌++◌, ◌∙◌, ℕ, List, length, map, reverse, sym, ap, subst, arith, inl, inr, None, Some}
use Rattle.std.specs.Prelude.{slice_get}
use Rattle.std.proofs.lemmas.List.{length-map, length-reverse}
use Rattle.std.proofs.lemmas.Option.{none-some, slice_get_cases, slice_get_within}
use Rattle.ft_model.specs.declared.call.Call.{Call}
use Rattle.ft_model.specs.declared.call.Call.TheVariants as call
use Rattle.ft_model.specs.declared.entry.Entry.{Entry}
use Rattle.ft_model.specs.declared.script.ScriptParts.{ScriptParts}
use Rattle.ft_model.specs.declared.script.Thread.{Thread}
use Rattle.ft_model.specs.Histories.{calls_of}
use Rattle.ft_model.specs.Scripts.{IsAwaitOf, IsScript}
use Rattle.ft_history.proofs.ScriptLemmas.{await_of}
use Rattle.ft_trace.specs.OwnCursors.{plain_entry}
use Rattle.ft_bank.specs.declared.note.Note.{Note}
use Rattle.ft_bank.specs.Notes.{IsNoteOf, TellsOf}
use Rattle.ft_bank.specs.Passes.{shape_of, view}
use Rattle.ft_engine.specs.declared.caller.Caller.{Caller}
use Rattle.ft_engine.specs.declared.engine.Engine.{Engine}
use Rattle.ft_engine.specs.Attempts.{MayAttempt}
use Rattle.ft_engine.specs.declared.caller.Flight.{Flight}
use Rattle.ft_engine.specs.Awaiting.{MayLearnAt}
use Rattle.ft_engine.specs.Callers.{IsIdle, bank_of, pass_of}
use Rattle.ft_engine.specs.Keeping.{pending}
use Rattle.ft_turns.specs.Orders.{Awaited, awaited_by}
use Rattle.ft_run_threads.specs.Workers.{AreCallsOn, IsBankFor, IsNoAwait}
use Rattle.ft_run_threads.proofs.ScriptFacts.{calls_at, calls_on}
use Rattle.ft_run_threads.proofs.NextCalls.{may_next}
use Rattle.ft_run_turns.specs.Internal.CallerSeats.{IsBetweenTurns}

thread_there : (script : ScriptParts) (i : ℕ) → i < length script.threads → (own : Thread) × (slice_get script.threads i ≡ Some own)
thread_there script i low =
    elim (slice_get_cases script.threads i).1 [
      | inl found ↦ (found.0, found.2)
      | inr past ↦ absurd (let far = past.0 in omega (arith, low, far))
    ]

no_await : (called : Call) → awaited_by called ≡ None → IsNoAwait called
no_await (call.Await named index) none = absurd (none-some _ (sym none))
no_await called none = tt

pub may_try : (e : Engine) (script : ScriptParts) (i : ℕ) (c : Caller) (mine : List Entry) → IsScript script → IsBankFor script (shape_of (bank_of e)) → i < length script.threads → IsBetweenTurns e script i c mine
    → (called : Call) → slice_get (calls_of script i) (length mine) ≡ Some called → awaited_by called ≡ None → MayAttempt e c called
may_try e script i c mine rule bank low is called at other =
    let own = thread_there script i low in
    let are : AreCallsOn (shape_of (bank_of e)) (calls_of script i) = subst (AreCallsOn (shape_of (bank_of e))) (sym (calls_at script i own.0 own.1)) (calls_on script (shape_of (bank_of e)) i own.0 rule bank own.1) in
    may_next e i (calls_of script i) c mine is.member is.cursors is.kept is.made are called at (is.next called at) (no_await called other) (is.online (slice_get_within (calls_of script i) (length mine) called at)).0

-- and an `await` that comes next may be answered by a note of the call that it names
pub may_learn : (e : Engine) (script : ScriptParts) (i : ℕ) (c : Caller) (mine : List Entry) → IsScript script → IsBankFor script (shape_of (bank_of e)) → i < length script.threads → IsBetweenTurns e script i c mine
    → (called : Call) → slice_get (calls_of script i) (length mine) ≡ Some called → (note : Note) → (one : Awaited) → called ≡ call.Await one.thread one.index → IsNoteOf (bank_of e) note → TellsOf note one.thread one.index → MayLearnAt e c called note
may_learn e script i c mine rule bank low is called at note one await of_bank tells =
    let own = thread_there script i low in
    let are : AreCallsOn (shape_of (bank_of e)) (calls_of script i) = subst (AreCallsOn (shape_of (bank_of e))) (sym (calls_at script i own.0 own.1)) (calls_on script (shape_of (bank_of e)) i own.0 rule bank own.1) in
    let here : slice_get (calls_of script i) (length mine) ≡ Some (call.Await one.thread one.index) = at ∙ ap (λ (x : Call). Some x) await in
    let names : IsAwaitOf script.threads i (call.Await one.thread one.index) = await_of script rule i (length mine) (call.Await one.thread one.index) here in
    let idle : IsIdle c = is.idle one.thread one.index here in
    let within = slice_get_within (calls_of script i) (length mine) called at in
    let long : length (view (pass_of c)).entries ≡ length mine =
    ap length (is.kept.0.same ∙ ap (λ (f : Flight). pending f ++ reverse (map plain_entry mine)) idle) ∙ (length-reverse (map plain_entry mine) ∙ length-map mine plain_entry) in
    let made = is.member.caller.made in
    let calls = is.member.caller.calls in
    let most = are.bank.calls in
    let few = are.few in
    let earlier = names.0 in
    let number = is.member.thread in
    record {
      idle = idle;
      online = (is.online within).0;
      left = omega (arith, made, calls, most, few, long, within);
      told = record { thread = one.thread; index = one.index; await = await; some = names.1; tells = tells };
      earlier = omega (arith, earlier, number);
      of = of_bank;
    }
