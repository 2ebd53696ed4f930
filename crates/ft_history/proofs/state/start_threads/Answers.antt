use Rattle.std.proofs.Common.{◌≡◌, List, length, Some, refl, sym, ap, subst, ◌∙◌, arith, inl, inr}
use Rattle.std.specs.Prelude.{slice_get}
use Rattle.std.proofs.lemmas.Option.{slice_get_read}
use Rattle.ft_model.specs.declared.script.Thread.{Thread}
use Rattle.ft_model.specs.Worlds.{start_hands}
use Rattle.ft_history.specs.declared.progress.ThreadProgress.{ThreadProgress}
use Rattle.ft_history.specs.Internal.States.{IsFreshProgress}
use Rattle.ft_history.proofs.HistoryPlaces.{slice_get_push}
use Rattle.ft_history.proofs.state.start_threads.Goals as goal

pub loop-thread-preserved : goal.loop-thread-preserved
loop-thread-preserved c =
    let all = c.loop-thread.all in
    let long : length all.items ≡ c.loop-thread.thread-index = omega (arith, all.ok.0, c.loop-thread.invariant.length) in
    let here : slice_get c.args.threads.now c.loop-thread.thread-index ≡ Some c.thread-item.result = slice_get_read c.args.threads.now (length c.args.threads.now) _ c.thread-item.result refl c.loop-thread-test.true c.thread-item.is in
    let born : ThreadProgress = record { made = 0; marks = 0; boxed = 0; hands = c.in_ok-start.field-0; sections = c.new.result } in
    let fresh : IsFreshProgress c.thread-item.result born = record { made = refl; marks = refl; boxed = refl; hands = c.in_ok-start.ensures ∙ ap start_hands c.len.ensures; sections = c.new.ensures.items } in
    record {
      length = omega (arith, c.in_ok-push.ensures.len, c.loop-thread.invariant.length);
      fresh = λ thread found progress at made.
          elim (slice_get_push all.items born thread progress (ap (λ (ps : List ThreadProgress). slice_get ps thread) (sym c.in_ok-push.ensures.items) ∙ made)) [
            | inl old ↦ c.loop-thread.invariant.fresh thread found progress at old
            | inr new ↦
                let same : c.thread-item.result ≡ found = let e : Some c.thread-item.result ≡ Some found = sym here ∙ ap (slice_get c.args.threads.now) (sym long ∙ sym new.0) ∙ at in cc in
                subst (IsFreshProgress found) new.1 (subst (λ (f : Thread). IsFreshProgress f born) same fresh)
          ];
    }
