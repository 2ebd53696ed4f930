use Rattle.std.proofs.Common.{◌≡◌, ◌+◌, IsTrue, List, length, Some, refl, sym, ap, subst, ◌∙◌, arith}
use Rattle.std.specs.Prelude.{slice_get}
use Rattle.std.proofs.lemmas.Bool.{ltb-true, ltb-false, false≢true}
use Rattle.std.proofs.lemmas.Option.{slice_get_read}
use Rattle.ft_model.specs.declared.script.Thread.{Thread}
use Rattle.ft_history.specs.declared.progress.ThreadProgress.{ThreadProgress}
use Rattle.ft_history.proofs.ScriptLemmas.{calls_of-at, no_calls}
use Rattle.ft_history.proofs.Judged.{next_iff}
use Rattle.ft_history.proofs.judging.holds_whole.Goals as goal

pub returns-in-Some-Some : goal.returns-in-Some-Some
returns-in-Some-Some c = λ entries place is_state.
    let entry = c.args.entry.now in
    let look = c.in-Some-Some.ensures.lookup in
    let look' = c.in-Some-Some.ensures'.lookup in
    let at : slice_get c.args.parts.now.threads entry.thread ≡ Some c.in-Some-Some.found.now = ap (λ (ts : List Thread). slice_get ts entry.thread) (sym c.as_slice.ensures) ∙ slice_get_read c.as_slice.result.now _ _ c.in-Some-Some.found.now refl (ltb-true _ _ (sym look.0)) look.1 in
    let at' : slice_get c.args.state.now.threads.items entry.thread ≡ Some c.in-Some-Some.progress.now = ap (λ (ps : List ThreadProgress). slice_get ps entry.thread) (sym c.deref.ensures.value) ∙ slice_get_read c.deref.result.now _ _ c.in-Some-Some.progress.now refl (ltb-true _ _ (sym look'.0)) look'.1 in
    next_iff c.args.parts.now entries place entry c.in-Some-Some.found.now c.in-Some-Some.progress.now c.is_next.result (calls_of-at c.args.parts.now entry.thread c.in-Some-Some.found.now at) (is_state.progress entry.thread c.in-Some-Some.progress.now at').made
    (subst (λ cs. (IsTrue c.is_next.result → (entry.index ≡ c.in-Some-Some.progress.now.made + 1) × (slice_get cs c.in-Some-Some.progress.now.made ≡ Some entry.call)) × ((entry.index ≡ c.in-Some-Some.progress.now.made + 1) × (slice_get cs c.in-Some-Some.progress.now.made ≡ Some entry.call) → IsTrue c.is_next.result)) c.as_slice-in-Some-Some.ensures c.is_next.ensures)

pub returns-in_default-2 : goal.returns-in_default-2
returns-in_default-2 c = λ entries place is_state. (
  λ yes. absurd (false≢true yes),
  λ next.
      let entry = c.args.entry.now in
      let look = c.in_default.ensures.lookup in
      absurd (no_calls c.args.parts.now entry.thread _ entry.call (omega (arith, ap length c.as_slice.ensures, ltb-false _ _ (sym look.0))) next.call),
)
