-- The header of a retired table says its goal from the moment when the pass puts it there.
use Rattle.std.proofs.Common.{◌≡◌, ◌≢◌, ℕ, suc, ◌+◌, true, false, cond, eqb, List, [], ◌∷◌, refl, sym, ap, ◌∙◌, arith}
use mathlib.Core.Option.{some}
use mathlib.Core.Logic.{dite}
use native.Mathlib.Decide.{ℕ_discrete}
use lib.ListN.{get_elem?}
use Rattle.ft_trace.specs.declared.Act.{Act}
use Rattle.ft_trace.specs.declared.Act.TheVariants.{PutRoot, PutHeader, ReadHeader, TakeTable, GiveTable, Retire, TookOver}
use Rattle.ft_trace.specs.declared.Shape.{Shape}
use Rattle.ft_trace.specs.declared.View.{View}
use Rattle.ft_trace.specs.Addresses.{header, IsTableName, free_bit_of}
use Rattle.ft_trace.specs.Bits.{bit}
use Rattle.ft_trace.specs.Acts.{place, stage, stage_next, goal, goal_next, has_goal, has_goal_next, is_handed, hands_over, view_after, starter, maker, made, both, spent, sender, note}
use Rattle.ft_trace.specs.Traces.{Event, did, forked, joined, sent, run, word, history, May, Valid}
use Rattle.ft_trace.proofs.Sizes.{set_views, one_more, one_view}
use Rattle.ft_trace.proofs.Cases.{same_or, hit, miss, off}
use Rattle.ft_trace.proofs.OneWord.{stays, moves, loaded}
use Rattle.ft_trace.proofs.HandedOver.{either_way, where_true, where_false, handed_is, goal_of, no_goal}
use Rattle.ft_trace.proofs.TablePlaces.{placed}

abbrev Header : Shape → List Event → ℕ → ℕ → View → Type 0
Header k es t j u = has_goal t u.log ≡ true → (stage t u.log ≡ 4) × (word k es (header t) ≡ goal t u.log)

module _ (k : Shape) (es : List Event) (id : ℕ) (v : View) (t : ℕ) (table : IsTableName k t) (valid : Valid k es) (at : get_elem? (run k es).views id ≡ some v) (old : (j : ℕ) (u : View) → get_elem? (run k es).views j ≡ some u → Header k es t j u) where
  still : (a : Act) → May k (run k es) (history es) v a → place a ≢ header t → word k (did id v a ∷ es) (header t) ≡ word k es (header t)
  still a may ne = stays k es id v a may (header t) table ne

  abbrev Own : Act → Type 0
  Own a = May k (run k es) (history es) v a → has_goal_next t a (has_goal t v.log) ≡ true → (stage_next t a (stage t v.log) ≡ 4) × (word k (did id v a ∷ es) (header t) ≡ goal_next t a (goal t v.log))

  own : (a : Act) → Own a
  own (PutHeader p x) =
      same_or (λ (z : ℕ). Own (PutHeader z x)) p t (λ may s. (may.1, moves k es id v (PutHeader t x) may ∙ may.2))
      (λ ne may s. let h = old id v at (sym (miss p t true (has_goal t v.log) ne) ∙ s) in (h.0, still (PutHeader p x) may (λ e. ne (cc)) ∙ h.1))
  own (GiveTable p) =
      same_or (λ (z : ℕ). Own (GiveTable z)) p t (λ may s. off (sym (hit t false (has_goal t v.log)) ∙ s))
      (λ ne may s. let h = old id v at (sym (miss p t false (has_goal t v.log) ne) ∙ s) in (miss p t 0 (stage t v.log) ne ∙ h.0, still (GiveTable p) may (λ e. absurd (cc)) ∙ h.1))
  own (Retire p f) =
      same_or (λ (z : ℕ). Own (Retire z f)) p t (λ may s. let h = (old id v at s).0 in let three = may.1 in absurd (omega (arith, h, three)))
      (λ ne may s. let h = old id v at s in (miss p t 4 (stage t v.log) ne ∙ h.0, still (Retire p f) may (λ e. absurd (cc)) ∙ (h.1 ∙ sym (miss p t (f + 1) (goal t v.log) ne))))
  own (TakeTable p f s) =
      same_or (λ (z : ℕ). Own (TakeTable z f s)) p t (λ may is. let h = (old id v at is).0 in let none = may.1 in absurd (omega (arith, h, none)))
      (λ ne may is. let h = old id v at is in (miss p t (cond (eqb (bit (free_bit_of t) f) 1) 1 (stage t v.log)) (stage t v.log) ne ∙ h.0, still (TakeTable p f s) may (λ e. absurd (cc)) ∙ h.1))
  own (PutRoot o r past) = λ may s.
      let h = old id v at s in
      let n = stage t v.log in
      dite (ℕ_discrete r (suc t)) (λ (e : r ≡ suc t). let one = (may.3 t e).1 in let four = h.0 in absurd (omega (arith, one, four)))
      (λ ne.
      dite (ℕ_discrete past (suc t))
      (λ (e : past ≡ suc t).
      let its = placed k es valid t table in
      let four = h.0 in
      let a = (its.hands id v at (λ z. absurd (omega (arith, z, four)))).0 in
      let b = (its.roots o may.0 (sym may.2 ∙ e)).0 in
      absurd (omega (arith, a, b, four)))
      (λ far. (miss r (suc t) 0 (cond (eqb past (suc t)) 3 n) ne ∙ (miss past (suc t) 3 n far ∙ h.0), still (PutRoot o r past) may (λ e. absurd (cc)) ∙ h.1)))
  own (ReadHeader p f) = λ may s. let h = old id v at s in (h.0, loaded k es id v (ReadHeader p f) (λ n. refl) (header t) ∙ h.1)
  own (TookOver hs had found told) = λ may s. absurd may
  own act = λ may s. let h = old id v at s in (h.0, still act may (λ e. absurd (cc)) ∙ h.1)

  theirs : (a : Act) → May k (run k es) (history es) v a → (j : ℕ) (u : View) → j ≢ id → get_elem? (run k es).views j ≡ some u → Header k (did id v a ∷ es) t j u
  theirs (PutHeader p x) may j u ne e s =
      let h = old j u e s in
      dite (ℕ_discrete p t)
      (λ (same : p ≡ t).
      let its = placed k es valid t table in
      let four = h.0 in
      let mine = ap (λ (z : ℕ). stage z v.log) (sym same) ∙ may.1 in
      let a = (its.hands id v at (λ z. absurd (omega (arith, z, mine)))).1 in
      let b = (its.hands j u e (λ z. absurd (omega (arith, z, four)))).1 in
      absurd (ne (sym b ∙ a)))
      (λ far. (h.0, still (PutHeader p x) may (λ z. far (cc)) ∙ h.1))
  theirs (ReadHeader p f) may j u ne e s = let h = old j u e s in (h.0, loaded k es id v (ReadHeader p f) (λ n. refl) (header t) ∙ h.1)
  theirs act may j u ne e s = let h = old j u e s in (h.0, still act may (λ z. absurd (cc)) ∙ h.1)

pub goals_stand : (k : Shape) (es : List Event) → Valid k es → (t : ℕ) → IsTableName k t → (j : ℕ) (u : View) → get_elem? (run k es).views j ≡ some u → Header k es t j u
goals_stand k [] valid t table = one_view (Header k [] t) (starter k) (λ e. off e)
goals_stand k (did id v a ∷ es) valid t table =
    let old = goals_stand k es valid.0 t table in
    set_views (Header k (did id v a ∷ es) t) _ id (view_after a v) (own k es id v t table valid.0 valid.1.0 old a valid.1.3) (theirs k es id v t table valid.0 valid.1.0 old a valid.1.3)
goals_stand k (forked id v ∷ es) valid t table =
    let old = goals_stand k es valid.0 t table in
    one_more (Header k es t) _ (made v) (λ e. off e) (set_views (Header k es t) _ id (maker v) (old id v valid.1.0) (λ j u _ e. old j u e))
goals_stand k (sent id v given ∷ es) valid t table =
    let old = goals_stand k es valid.0 t table in
    one_more (Header k es t) _ (note given v) (λ e. off e) (set_views (Header k es t) _ id (sender given v) (old id v valid.1.0) (λ j u _ e. old j u e))
goals_stand k (joined id v other w ∷ es) valid t table =
    let old = goals_stand k es valid.0 t table in
    let b = is_handed t (hands_over w.log) in
    let n = stage t v.log in
    let mine : Header k es t id (both v w) = λ s.
    either_way b
    (λ there. (where_true b 4 n there, (old other w valid.1.2 (handed_is t w.log there).1).1 ∙ sym (goal_of t w.log (goal t v.log) there)))
    (λ none.
    let h = old id v valid.1.0 (sym (where_false b true (has_goal t v.log) none) ∙ s) in
    (where_false b 4 n none ∙ h.0, h.1 ∙ sym (no_goal t (hands_over w.log) (goal t v.log) none))) in
    set_views (Header k es t) _ other spent (λ e. off e) (λ j u _. set_views (Header k es t) _ id (both v w) mine (λ j u _ e. old j u e) j u)
