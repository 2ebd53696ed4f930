-- That a pass writes one container at a time.
use Rattle.std.proofs.Common.{◌≡◌, ◌⊎◌, ℕ, true, false, List, [], ◌∷◌, sym, ap, ◌∙◌, inl, inr, ⊎_elim}
use mathlib.Core.Option.{some}
use mathlib.Core.Logic.{dite}
use native.Mathlib.Decide.{ℕ_discrete}
use lib.ListN.{get_elem?}
use Rattle.ft_model.specs.declared.call.Call.{Call}
use Rattle.ft_trace.specs.declared.Act.{Act}
use Rattle.ft_trace.specs.declared.Act.TheVariants.{StartWrite, StopWrite}
use Rattle.ft_trace.specs.declared.Shape.{Shape}
use Rattle.ft_trace.specs.declared.View.{View}
use Rattle.ft_trace.specs.Acts.{is_writing, is_writing_next, starter, view_after, maker, made, both, spent, sender, note}
use Rattle.ft_trace.specs.Traces.{Event, did, forked, joined, sent, run, history, May, Moment, Valid}
use Rattle.ft_trace.proofs.Cases.{hit, miss, off}
use Rattle.ft_trace.proofs.Sizes.{set_views, one_more, one_view}

-- who writes o after an action wrote it before, or begins with it
written : (o : ℕ) (v : View) (b : Act) → is_writing_next o b (is_writing o v.log) ≡ true → (is_writing o v.log ≡ true) ⊎ ((f : ℕ) × (b ≡ StartWrite o f))
written o v (StartWrite p f) mine = dite (ℕ_discrete p o) (λ (e : p ≡ o). inr (f, ap (λ (z : ℕ). StartWrite z f) e)) (λ ne. inl (sym (miss p o true (is_writing o v.log) ne) ∙ mine))
written o v (StopWrite p f) mine = dite (ℕ_discrete p o) (λ (e : p ≡ o). off (sym (ap (λ (z : ℕ). is_writing_next o (StopWrite z f) (is_writing o v.log)) e ∙ hit o false (is_writing o v.log)) ∙ mine)) (λ ne. inl (sym (miss p o false (is_writing o v.log) ne) ∙ mine))
written o v act mine = inl mine

abbrev One : ℕ → View → Type 0
One j u = (o p : ℕ) → is_writing o u.log ≡ true → is_writing p u.log ≡ true → o ≡ p

one_start : (k : Shape) (m : Moment) (cs : List Call) (v : View) (b : Act) (o p f : ℕ) → May k m cs v b → b ≡ StartWrite o f → is_writing p v.log ≡ true → o ≡ p
one_start k m cs v (StartWrite q g) o p f may is mine = off (sym (may.2 p) ∙ mine)
one_start k m cs v act o p f may is mine = absurd (cc)

one_act : (k : Shape) (m : Moment) (cs : List Call) (v : View) (b : Act) → May k m cs v b → One 0 v → One 0 (view_after b v)
one_act k m cs v b may old o p mine its =
    ⊎_elim
    (λ (x : is_writing o v.log ≡ true).
    ⊎_elim
    (λ (y : is_writing p v.log ≡ true). old o p x y)
    (λ (y : (f : ℕ) × (b ≡ StartWrite p f)). sym (one_start k m cs v b p o y.0 may y.1 x))
    (written p v b its))
    (λ (x : (f : ℕ) × (b ≡ StartWrite o f)).
    ⊎_elim
    (λ (y : is_writing p v.log ≡ true). one_start k m cs v b o p x.0 may x.1 y)
    (λ (y : (f : ℕ) × (b ≡ StartWrite p f)). same_start o p x.0 y.0 (sym x.1 ∙ y.1))
    (written p v b its))
    (written o v b mine)
  where
    same_start : (o p f g : ℕ) → StartWrite o f ≡ StartWrite p g → o ≡ p
    same_start o p f g e = cc

pub one_write : (k : Shape) (es : List Event) → Valid k es → (j : ℕ) (u : View) → get_elem? (run k es).views j ≡ some u → (o p : ℕ) → is_writing o u.log ≡ true → is_writing p u.log ≡ true → o ≡ p
one_write k [] valid = one_view One (starter k) (λ o p mine. off mine)
one_write k (did id v a ∷ es) valid = set_views One _ id (view_after a v) (one_act k (run k es) (history es) v a valid.1.3 (one_write k es valid.0 id v valid.1.0)) (λ j u _ e. one_write k es valid.0 j u e)
one_write k (forked id v ∷ es) valid =
    let old = one_write k es valid.0 in
    one_more One _ (made v) (λ o p mine. off mine) (set_views One _ id (maker v) (old id v valid.1.0) (λ j u _ e. old j u e))
one_write k (sent id v given ∷ es) valid =
    let old = one_write k es valid.0 in
    one_more One _ (note given v) (λ o p mine. off mine) (set_views One _ id (sender given v) (old id v valid.1.0) (λ j u _ e. old j u e))
one_write k (joined id v other w ∷ es) valid =
    let old = one_write k es valid.0 in
    set_views One _ other spent (λ o p mine. off mine) (λ j u _. set_views One _ id (both v w) (old id v valid.1.0) (λ j u _ e. old j u e) j u)
