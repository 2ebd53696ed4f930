use Rattle.std.proofs.Common.{◌≡◌, ◌↔◌, IsTrue, ℕ, take, ◌+◌, ◌-◌, List, length, Some, sym, ap, subst, ◌∙◌, arith}
use Rattle.std.specs.Prelude.{slice_get, IfNone}
use Rattle.ft_model.specs.declared.entry.Entry.{Entry}
use Rattle.ft_model.specs.declared.entry.Rule.TheVariants as rule
use Rattle.ft_model.specs.declared.script.ScriptParts.{ScriptParts}
use Rattle.ft_model.specs.Scripts.{IsScript}
use Rattle.ft_model.specs.Histories.{writes, world_at, IsLegal}
use Rattle.std.proofs.lemmas.List.{take_all}
use Rattle.ft_history.proofs.HistoryPlaces.{world_at-before}
use Rattle.ft_model.specs.Judging.{IsFirstBroken}
use Rattle.ft_history.specs.Internal.Steps.{IsState, IsUnbrokenBefore, FindsBroken, HaveMadeAll}
use Rattle.ft_history.proofs.FewEntries.{few_entries}
use Rattle.ft_history.proofs.VerdictLemmas.{goes_on, first_broken, legal_at_end, missing_at_end}
use Rattle.ft_history.proofs.judging.judge_with_world.Goals as goal

pub loop-place-init : goal.loop-place-init
loop-place-init c = record { unbroken = λ before r low. absurd (omega arith); is_state = c.in_ok-state.ensures c.args.entries.now }

pub step-requires-clause-calls : goal.step-requires-clause-calls
step-requires-clause-calls c = few_entries c.args.storage c.parts-parts.result.now c.args.entries.now c.loop-place.place (subst IsScript (sym c.parts-parts.ensures.parts) c.parts-parts.ensures.rule) c.loop-place.invariant.unbroken (omega (arith, c.loop-place-test.true))

pub returns-in-Some-clause-verdict : goal.returns-in-Some-clause-verdict
returns-in-Some-clause-verdict c =
    let parts = c.parts-parts.result.now in
    let entries = c.args.entries.now in
    let place : ℕ = c.loop-place.place in
    let finds : (entry : Entry) → slice_get entries place ≡ Some entry → FindsBroken c.args.storage parts entries place entry (Some c.in-Some.rule) = λ entry at. subst (FindsBroken c.args.storage parts entries place entry) c.in-Some.is (c.in_ok-rule.ensures.found entry at) in
    let broken = first_broken c.args.storage parts entries place c.loop-place-test.true c.loop-place.invariant.unbroken c.in-Some.rule finds in
    let back : place ≡ place + 1 - 1 = omega arith in
    (omega arith, subst (λ p. IsFirstBroken c.args.storage p entries (place + 1 - 1) c.in-Some.rule) c.parts-parts.ensures.parts (subst (λ k. IsFirstBroken c.args.storage parts entries k c.in-Some.rule) back broken))

pub loop-place-preserved : goal.loop-place-preserved
loop-place-preserved c =
    let parts = c.parts-parts.result.now in
    let entries = c.args.entries.now in
    let place : ℕ = c.loop-place.place in
    record {
      unbroken = goes_on c.args.storage parts entries place c.loop-place-test.true c.loop-place.invariant.unbroken (λ entry at. subst (FindsBroken c.args.storage parts entries place entry) c.in_default.is (c.in_ok-rule.ensures.found entry at));
      is_state = subst (λ o. IfNone o (IsState parts entries (place + 1) c.step.new.state)) c.in_default.is c.in_ok-rule.ensures.state;
    }

pub returns-then-is_complete-clause-verdict : goal.returns-then-is_complete-clause-verdict
returns-then-is_complete-clause-verdict c =
    let parts = c.parts-parts.result.now in
    let entries = c.args.entries.now in
    let end : c.loop-place.place ≡ length entries = omega (arith, c.loop-place-test.false, c.loop-place.auto.place-end) in
    let is : IsTrue c.is_complete.result ↔ HaveMadeAll parts.threads c.loop-place.state.threads.items =
    subst (λ ts. IsTrue c.is_complete.result ↔ HaveMadeAll ts c.loop-place.state.threads.items) c.as_slice.ensures (subst (λ ps. IsTrue c.is_complete.result ↔ HaveMadeAll c.as_slice.result.now ps) c.deref-2.ensures.value c.is_complete.ensures) in
    subst (λ p. IsLegal c.args.storage p entries) c.parts-parts.ensures.parts
    (legal_at_end c.args.storage parts entries (subst (IsUnbrokenBefore c.args.storage parts entries) end c.loop-place.invariant.unbroken) c.loop-place.state c.is_complete.result (subst (λ n. IsState parts entries n c.loop-place.state) end c.loop-place.invariant.is_state) is c.if-is_complete.true)

pub returns-then-is_complete-clause-world : goal.returns-then-is_complete-clause-world
returns-then-is_complete-clause-world c legal =
    let parts = c.parts-parts.result.now in
    let entries = c.args.entries.now in
    let end : c.loop-place.place ≡ length entries = omega (arith, c.loop-place-test.false, c.loop-place.auto.place-end) in
    c.loop-place.invariant.is_state.world
    ∙ sym (world_at-before parts entries c.loop-place.place)
    ∙ ap (λ (es : List Entry). world_at parts entries (length (writes es))) (ap (λ k. take k entries) end ∙ take_all (length entries) entries (omega arith))
    ∙ ap (λ (p : ScriptParts). world_at p entries (length (writes entries))) c.parts-parts.ensures.parts

pub returns-clause-verdict : goal.returns-clause-verdict
returns-clause-verdict c =
    let parts = c.parts-parts.result.now in
    let entries = c.args.entries.now in
    let end : c.loop-place.place ≡ length entries = omega (arith, c.loop-place-test.false, c.loop-place.auto.place-end) in
    let is : IsTrue c.is_complete.result ↔ HaveMadeAll parts.threads c.loop-place.state.threads.items =
    subst (λ ts. IsTrue c.is_complete.result ↔ HaveMadeAll ts c.loop-place.state.threads.items) c.as_slice.ensures (subst (λ ps. IsTrue c.is_complete.result ↔ HaveMadeAll c.as_slice.result.now ps) c.deref-2.ensures.value c.is_complete.ensures) in
    let broken = missing_at_end c.args.storage parts entries (subst (IsUnbrokenBefore c.args.storage parts entries) end c.loop-place.invariant.unbroken) c.loop-place.state c.is_complete.result (subst (λ n. IsState parts entries n c.loop-place.state) end c.loop-place.invariant.is_state) is c.if-is_complete.false in
    let back : length entries ≡ length entries + 1 - 1 = omega arith in
    (omega arith, subst (λ p. IsFirstBroken c.args.storage p entries (length entries + 1 - 1) rule.Missing) c.parts-parts.ensures.parts (subst (λ k. IsFirstBroken c.args.storage parts entries k rule.Missing) back broken))
