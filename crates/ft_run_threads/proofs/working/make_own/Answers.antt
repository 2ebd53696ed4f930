use Rattle.std.proofs.Common.{◌≡◌, ◌≤◌, ℕ, List, [], length, refl, sym, ap, ◌∙◌, subst, Some}
use Rattle.std.specs.Prelude.{All, slice_get}
use Rattle.std.proofs.lemmas.Option.{slice_get_read}
use Rattle.ft_model.specs.declared.call.Call.{Call}
use Rattle.ft_model.specs.declared.script.ScriptParts.{ScriptParts}
use Rattle.ft_model.specs.declared.script.Thread.{Thread}
use Rattle.ft_model.specs.Histories.{calls_of}
use Rattle.ft_bank.specs.Passes.{shape_of}
use Rattle.ft_engine.specs.Callers.{bank_of}
use Rattle.ft_run_threads.specs.Workers.{AreCallsOn, IsAwaitFrom, IsOnline}
use Rattle.ft_run_threads.proofs.ScriptFacts.{awaits_on, calls_at, calls_on, calls_past}
use Rattle.ft_run_threads.proofs.working.make_own.Goals as goal

pub make_all-requires-clause-calls : goal.make_all-requires-clause-calls
make_all-requires-clause-calls g c κs within =
    let script = c.args.script.now in
    let own = c.in-Some.own.now in
    let found = c.in-Some.ensures.lookup in
    let at : slice_get script.threads c.args.thread ≡ Some own = ap (λ (ts : List Thread). slice_get ts c.args.thread) (sym (c.as_slice.ensures ∙ ap (λ (parts : ScriptParts). parts.threads) c.parts.ensures.parts)) ∙ slice_get_read c.as_slice.result.now _ _ own refl found.3.0 found.1 in
    subst (AreCallsOn (shape_of (bank_of c.args.engine.now))) (sym c.as_slice-in-Some.ensures) (calls_on script (shape_of (bank_of c.args.engine.now)) c.args.thread own c.parts.ensures.rule c.requires.bank at)

pub make_all-requires-clause-awaits : goal.make_all-requires-clause-awaits
make_all-requires-clause-awaits g c κs within =
    let script = c.args.script.now in
    let own = c.in-Some.own.now in
    let found = c.in-Some.ensures.lookup in
    let at : slice_get script.threads c.args.thread ≡ Some own = ap (λ (ts : List Thread). slice_get ts c.args.thread) (sym (c.as_slice.ensures ∙ ap (λ (parts : ScriptParts). parts.threads) c.parts.ensures.parts)) ∙ slice_get_read c.as_slice.result.now _ _ own refl found.3.0 found.1 in
    subst (All (IsAwaitFrom c.args.thread)) (sym c.as_slice-in-Some.ensures) (awaits_on script c.args.thread own c.parts.ensures.rule at)

pub make_all-requires-clause-worker : goal.make_all-requires-clause-worker
make_all-requires-clause-worker g c κs within =
    let script = c.args.script.now in
    let own = c.in-Some.own.now in
    let found = c.in-Some.ensures.lookup in
    let at : slice_get script.threads c.args.thread ≡ Some own = ap (λ (ts : List Thread). slice_get ts c.args.thread) (sym (c.as_slice.ensures ∙ ap (λ (parts : ScriptParts). parts.threads) c.parts.ensures.parts)) ∙ slice_get_read c.as_slice.result.now _ _ own refl found.3.0 found.1 in
    let same : calls_of script c.args.thread ≡ c.as_slice-in-Some.result.now = calls_at script c.args.thread own at ∙ sym c.as_slice-in-Some.ensures in
    subst (λ (calls : List Call). IsOnline c.args.engine.now c.args.thread calls 0 c.args.worker.now) same c.requires.worker

pub returns-in-Some-clause-made : goal.returns-in-Some-clause-made
returns-in-Some-clause-made g c went =
    let script = c.args.script.now in
    let own = c.in-Some.own.now in
    let found = c.in-Some.ensures.lookup in
    let at : slice_get script.threads c.args.thread ≡ Some own = ap (λ (ts : List Thread). slice_get ts c.args.thread) (sym (c.as_slice.ensures ∙ ap (λ (parts : ScriptParts). parts.threads) c.parts.ensures.parts)) ∙ slice_get_read c.as_slice.result.now _ _ own refl found.3.0 found.1 in
    let same : calls_of script c.args.thread ≡ c.as_slice-in-Some.result.now = calls_at script c.args.thread own at ∙ sym c.as_slice-in-Some.ensures in
    subst (λ (calls : List Call). IsOnline c.args.engine.now c.args.thread calls (length calls) c.make_all.new.worker) (sym same) (c.make_all.ensures.made went)

pub returns-in-None-clause-made : goal.returns-in-None-clause-made
returns-in-None-clause-made g c went =
    let script = c.args.script.now in
    let past : length script.threads ≤ c.args.thread = subst (λ (ts : List Thread). length ts ≤ c.args.thread) (c.as_slice.ensures ∙ ap (λ (parts : ScriptParts). parts.threads) c.parts.ensures.parts) c.in-None.ensures.lookup.3 in
    let none : calls_of script c.args.thread ≡ [] = calls_past script c.args.thread past in
    subst (λ (n : ℕ). IsOnline c.args.engine.now c.args.thread (calls_of script c.args.thread) n c.args.worker.now) (sym (ap length none)) c.requires.worker
