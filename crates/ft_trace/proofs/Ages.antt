-- No table comes back to a root that dropped it before the reader announces.
use Rattle.std.proofs.Common.{◌≡◌, ◌⊎◌, ℕ, suc, eqb, ◌+◌, ◌-◌, ◌%◌, ◌≤◌, Bool, true, false, cond, List, [], ◌∷◌, ◌++◌, refl, sym, ◌∙◌, subst, inl, inr, ⊎_elim, arith, le_refl, le_trans}
use mathlib.Core.Option.{some}
use mathlib.Core.Logic.{dite}
use native.Mathlib.Decide.{ℕ_discrete}
use lib.ListN.{get_elem?}
use Rattle.ft_trace.specs.declared.Shape.{Shape}
use Rattle.ft_trace.specs.declared.View.{View}
use Rattle.ft_trace.specs.declared.Act.{Act}
use Rattle.ft_trace.specs.declared.Act.TheVariants.{TakeTable, GiveTable, PutRoot, Retire, ReadRoot, Announce}
use Rattle.ft_trace.specs.Bits.{bit}
use Rattle.ft_trace.specs.Addresses.{IsTableName, free_bit_of}
use Rattle.ft_trace.specs.Acts.{reads, starter, view_after, maker, made, both, spent, sender, note}
use Rattle.ft_trace.specs.Ages.{aged, age, gone_to, whose, seen, seen_next}
use Rattle.ft_trace.specs.Traces.{Event, did, forked, joined, sent, run, Valid}
use Rattle.ft_trace.proofs.Sizes.{set_at, set_views, one_more, one_view}
use Rattle.atomic_table.proofs.Lists.{set_else}
use Rattle.ft_trace.proofs.Cases.{hit, miss, here, off}
use Rattle.ft_trace.proofs.TablePlaces.{placed}
use Rattle.ft_trace.proofs.FoundTables.{safe}

-- one step of an age: up by one, or to the next multiple of 5
pub record Step (g h : ℕ) : Type 0 where
  pub up : g ≤ h
  pub small : (h ≤ g + 1) ⊎ (h % 5 ≡ 0)

step_same : (g : ℕ) → Step g g
step_same g = record { up = omega arith; small = inl (omega arith) }

step_one : (g : ℕ) → Step g (g + 1)
step_one g = record { up = omega arith; small = inl (omega arith) }

either_step : (b : Bool) (g x y : ℕ) → Step g x → Step g y → Step g (cond b x y)
either_step true g x y p q = p
either_step false g x y p q = q

pub ages_by : (a : Act) (t g : ℕ) → Step g (aged a t g)
ages_by (TakeTable p f s) t g = either_step (eqb p t) g (cond (eqb (bit (free_bit_of t) f) 1) (g + 1) g) g (either_step (eqb (bit (free_bit_of t) f) 1) g (g + 1) g (step_one g) (step_same g)) (step_same g)
ages_by (GiveTable p) t g = either_step (eqb p t) g (g + 5 - g % 5) g (record { up = omega arith; small = inr (omega arith) }) (step_same g)
ages_by (PutRoot o r old) t g = either_step (eqb r (suc t)) g (g + 1) (cond (eqb old (suc t)) (g + 1) g) (step_one g) (either_step (eqb old (suc t)) g (g + 1) g (step_one g) (step_same g))
ages_by (Retire p f) t g = either_step (eqb p t) g (g + 1) g (step_one g) (step_same g)
ages_by act t g = step_same g

pub ages_one : (e : Event) (es : List Event) (t : ℕ) → Step (age es t) (age (e ∷ es) t)
ages_one (did id v a) es t = ages_by a t (age es t)
ages_one (forked id v) es t = step_same (age es t)
ages_one (sent id v given) es t = step_same (age es t)
ages_one (joined id v other w) es t = step_same (age es t)

pub ages_rise : (newer older : List Event) (t : ℕ) → age older t ≤ age (newer ++ older) t
ages_rise [] older t = le_refl (age older t)
ages_rise (e ∷ newer) older t = le_trans (ages_rise newer older t) (ages_one e (newer ++ older) t).up

-- who has it changes only where the age does
same_two : (b c : Bool) (g x w : ℕ) → cond b (cond c (g + 1) g) g ≡ g → cond b (cond c x w) w ≡ w
same_two true true g x w e = absurd (omega (arith, e))
same_two true false g x w e = refl
same_two false c g x w e = refl

same_three : (b c : Bool) (g x y w : ℕ) → cond b (g + 1) (cond c (g + 1) g) ≡ g → cond b x (cond c y w) ≡ w
same_three true c g x y w e = absurd (omega (arith, e))
same_three false true g x y w e = absurd (omega (arith, e))
same_three false false g x y w e = refl

whose_by : (a : Act) (id t g w : ℕ) → aged a t g ≡ g → gone_to id a t w ≡ w
whose_by (TakeTable p f s) id t g w e = same_two (eqb p t) (eqb (bit (free_bit_of t) f) 1) g id w e
whose_by (PutRoot o r old) id t g w e = same_three (eqb r (suc t)) (eqb old (suc t)) g o id w e
whose_by act id t g w e = refl

whose_one : (e : Event) (es : List Event) (t : ℕ) → age (e ∷ es) t ≡ age es t → whose (e ∷ es) t ≡ whose es t
whose_one (did id v a) es t same = whose_by a id t (age es t) (whose es t) same
whose_one (forked id v) es t same = refl
whose_one (sent id v given) es t same = refl
whose_one (joined id v other w) es t same = refl

pub whose_same : (newer older : List Event) (t : ℕ) → age (newer ++ older) t ≡ age older t → whose (newer ++ older) t ≡ whose older t
whose_same [] older t same = refl
whose_same (e ∷ newer) older t same =
    let a = ages_rise newer older t in
    let b = (ages_one e (newer ++ older) t).up in
    let here : age (newer ++ older) t ≡ age older t = omega (arith, a, b, same) in
    whose_one e (newer ++ older) t (same ∙ sym here) ∙ whose_same newer older t here

-- what a pass has found in a root since it last announced was current then, and is current, taken out or retired now
abbrev pub Within : ℕ → ℕ → Type 0
Within s g = (s % 5 ≡ 2) × (s ≤ g) × (g ≤ s + 2)

abbrev Seen : List Event → ℕ → ℕ → View → Type 0
Seen es t j u = reads t u.log ≡ true → Within (seen es j t) (age es t)

next_within : (s g h : ℕ) → Step g h → 2 ≤ h % 5 → Within s g → Within s h
next_within s g h step two w =
    let up = step.up in
    let a = w.0 in
    let b = w.1 in
    let c = w.2 in
    (a, omega arith, ⊎_elim (λ (x : h ≤ g + 1). omega arith) (λ (x : h % 5 ≡ 0). absurd (omega arith)) step.small)

seen_mine : (k : Shape) (es : List Event) (id : ℕ) (v : View) (t : ℕ) → IsTableName k t → Seen es t id v → (a : Act) → Valid k (did id v a ∷ es) → (reads t (a ∷ v.log) ≡ true → 2 ≤ aged a t (age es t) % 5) → Seen (did id v a ∷ es) t id (view_after a v)
seen_mine k es id v t table old (Announce p x) ok two r = off r
seen_mine k es id v t table old (ReadRoot o f) ok two r =
    let s = seen es id t in
    let g = age es t in
    let b = reads t v.log in
    dite (ℕ_discrete f (suc t))
    (λ (is : f ≡ suc t).
    let now : seen (did id v (ReadRoot o f) ∷ es) id t ≡ cond b s g = hit id (cond (eqb f (suc t)) (cond b s g) s) s ∙ here f (suc t) (cond b s g) s is in
    let current = ((placed k es ok.0 t table).roots o ok.1.3.0 (sym ok.1.2 ∙ is)).0 in
    subst (λ (z : ℕ). Within z g) (sym now) (by_read b refl current))
    (λ far.
    let now : seen (did id v (ReadRoot o f) ∷ es) id t ≡ s = hit id (cond (eqb f (suc t)) (cond b s g) s) s ∙ miss f (suc t) (cond b s g) s far in
    subst (λ (z : ℕ). Within z g) (sym now) (old (sym (miss f (suc t) true b far) ∙ r)))
  where
    by_read : (b : Bool) → reads t v.log ≡ b → age es t % 5 ≡ 2 → Within (cond b (seen es id t) (age es t)) (age es t)
    by_read true e current = old e
    by_read false e current = (current, omega arith, omega arith)
seen_mine k es id v t table old act ok two r =
    let s = seen es id t in
    let now : seen (did id v act ∷ es) id t ≡ s = hit id s s in
    subst (λ (z : ℕ). Within z (aged act t (age es t))) (sym now) (next_within s (age es t) (aged act t (age es t)) (ages_by act t (age es t)) (two r) (old r))

pub within : (k : Shape) (es : List Event) → Valid k es → (t : ℕ) → IsTableName k t → (j : ℕ) (u : View) → get_elem? (run k es).views j ≡ some u → Seen es t j u
within k [] valid t table = one_view (Seen [] t) (starter k) (λ e. off e)
within k (did id v a ∷ es) valid t table =
    let old = within k es valid.0 t table in
    let now = safe k (did id v a ∷ es) valid t table in
    let two : (j : ℕ) (u : View) → get_elem? (run k (did id v a ∷ es)).views j ≡ some u → reads t u.log ≡ true → 2 ≤ aged a t (age es t) % 5 = λ j u e r. ((now j u e).read_is r).0 in
    set_views (Seen (did id v a ∷ es) t) _ id (view_after a v) (seen_mine k es id v t table (old id v valid.1.0) a valid (two id (view_after a v) (set_at (run k es).views id v (view_after a v) valid.1.0)))
    (λ j u ne e r.
    let s = seen es j t in
    let same : seen (did id v a ∷ es) j t ≡ s = miss id j (seen_next a (reads t v.log) t (age es t) s) s (λ z. ne (sym z)) in
    subst (λ (z : ℕ). Within z (aged a t (age es t))) (sym same) (next_within s (age es t) (aged a t (age es t)) (ages_by a t (age es t)) (two j u (set_else (run k es).views id j (view_after a v) ne ∙ e) r) (old j u e r)))
within k (forked id v ∷ es) valid t table =
    let old = within k es valid.0 t table in
    one_more (Seen es t) _ (made v) (λ e. off e) (set_views (Seen es t) _ id (maker v) (old id v valid.1.0) (λ j u _ e. old j u e))
within k (sent id v given ∷ es) valid t table =
    let old = within k es valid.0 t table in
    one_more (Seen es t) _ (note given v) (λ e. off e) (set_views (Seen es t) _ id (sender given v) (old id v valid.1.0) (λ j u _ e. old j u e))
within k (joined id v other w ∷ es) valid t table =
    let old = within k es valid.0 t table in
    set_views (Seen es t) _ other spent (λ e. off e) (λ j u _. set_views (Seen es t) _ id (both v w) (old id v valid.1.0) (λ j u _ e. old j u e) j u)
