-- One more event on a trace.
use Rattle.std.proofs.Common.{◌≡◌, ℕ, ◌^◌, ◌<◌, List, ◌∷◌, sym, ap, ◌∙◌, subst}
use Rattle.std.specs.Prelude.{slice_index, slice_set}
use Rattle.ft_trace.specs.declared.View.{View}
use Rattle.ft_trace.specs.declared.Act.{Act}
use Rattle.ft_trace.specs.Acts.{word_after, Reports, view_after}
use Rattle.ft_trace.specs.declared.Snap.{Snap}
use Rattle.ft_trace.specs.Traces.{Event, did, run, history, snap, Valid, Knows, IsReachable, ReadyAs, DoesAs, IsAwake}
use Rattle.ft_trace.proofs.Sizes.{set_at}

module _ (v : View) (id i : ℕ) (f : ℕ → ℕ) (act : ℕ → Snap → Act) (live : IsAwake v) (does : DoesAs v i f act) (ready : ReadyAs v i act) (es : List Event) (knows : Knows v es id)
    (small : slice_index (run v.shape es).words i < 2 ^ 64) where
  abbrev words : List ℕ
  words = (run v.shape es).words

  abbrev pub it : Act
  it = act (slice_index words i) (snap (run v.shape es) (history es))

  pub one_more_valid : Valid v.shape (did id v it ∷ es)
  one_more_valid =
      let r = ready es id knows small in
      let n = slice_index words i in
      let s = snap (run v.shape es) (history es) in
      (knows.0, (knows.1, live.0, subst (λ (j : ℕ). Reports it (slice_index words j)) (sym (does n s).0) r.0, r.1, live.1))

  pub one_more_words : (run v.shape (did id v it ∷ es)).words ≡ slice_set words i (f (slice_index words i))
  one_more_words =
      let n = slice_index words i in
      let s = snap (run v.shape es) (history es) in
      ap (λ (j : ℕ). slice_set words j (word_after v.number it (slice_index words j))) (does n s).0 ∙ ap (λ (x : ℕ). slice_set words i x) ((does n s).1 n)

  pub one_more_possible : IsReachable (view_after it v)
  one_more_possible = (did id v it ∷ es, id, (one_more_valid, set_at (run v.shape es).views id v (view_after it v) knows.1))
