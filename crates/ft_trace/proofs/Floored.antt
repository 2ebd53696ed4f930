-- Who has the floor has all tokens and knows all words.
use Rattle.std.proofs.Common.{◌≡◌, ◌≢◌, ◌⊎◌, ℕ, eqb, Bool, true, false, cond, List, [], ◌∷◌, ◌++◌, refl, sym, ap, ◌∙◌, inl, inr, ⊎_elim, subst, arith, append-nil}
use Rattle.std.specs.Prelude.{slice_index, slice_set}
use mathlib.Core.Option.{some}
use mathlib.Core.Logic.{dite}
use native.Mathlib.Decide.{ℕ_discrete}
use lib.ListN.{get_elem?}
use lib.Seq.{set-get_or}
use Rattle.ft_trace.specs.declared.Shape.{Shape}
use Rattle.ft_trace.specs.declared.View.{View}
use Rattle.ft_trace.specs.declared.Act.{Act}
use Rattle.ft_trace.specs.declared.Act.TheVariants.{TakeFloor, TookOver}
use Rattle.ft_trace.specs.Addresses.{at, counter}
use Rattle.ft_trace.specs.Acts.{place, word_after, view_after, starter, maker, made, both, spent, sender, note, floor_words, floor_known, has_floor_next, Reports}
use Rattle.ft_trace.specs.Floors.{TokensAreAll, AllTokensAreAlone, FloorStands, FoundAsKnown, FloorTells}
use Rattle.ft_trace.specs.Traces.{Event, did, forked, joined, sent, run, word, history, May, Valid}
use Rattle.ft_trace.proofs.Sizes.{set_views, one_more, one_view, sized}
use Rattle.ft_trace.proofs.Cases.{off, here, miss}
use Rattle.ft_trace.proofs.Announcing.{fits}
use Rattle.ft_trace.proofs.Totals.{total_set, total_forked, total_joined, total_two}

abbrev tokens : View → ℕ
tokens u = u.tokens

pub tokens_total : TokensAreAll
tokens_total k [] valid = omega arith
tokens_total k (did id v a ∷ es) valid = let t = total_set tokens (run k es).views id v (view_after a v) valid.1.0 in let old = tokens_total k es valid.0 in omega (arith, t, old)
tokens_total k (forked id v ∷ es) valid = let may = valid.1.6 in total_forked tokens (run k es).views id v (maker v) (made v) valid.1.0 (omega (arith, may)) ∙ tokens_total k es valid.0
tokens_total k (sent id v given ∷ es) valid = let may = valid.1.2 in total_forked tokens (run k es).views id v (sender given v) (note given v) valid.1.0 (omega (arith, may)) ∙ tokens_total k es valid.0
tokens_total k (joined id v other w ∷ es) valid = total_joined tokens (run k es).views id other v w (both v w) spent valid.1.0 valid.1.1 valid.1.2 (omega arith) ∙ tokens_total k es valid.0

pub tokens_alone : AllTokensAreAlone
tokens_alone k es valid i j u w at there ne all =
    let two = total_two tokens (run k es).views i j u w ne at there in
    let sum = tokens_total k es valid in
    omega (arith, two, sum, all)

-- what a view says of the words
pub record Floored (k : Shape) (es : List Event) (j : ℕ) (u : View) : Type 0 where
  pub has : u.has_floor ≡ true → (u.tokens ≡ k.passes) × (floor_words k u.number u.log ≡ (run k es).words)
  pub given : u.floor ≢ [] → (u.tokens ≡ k.passes) × (u.floor ≡ (run k es).words)

module _ (k : Shape) (es : List Event) (id : ℕ) (v : View) where
  abbrev Own : Act → Type 0
  Own a = May k (run k es) (history es) v a → (v.has_floor ≡ true → (v.tokens ≡ k.passes) × (floor_words k v.number v.log ≡ (run k es).words)) → has_floor_next a v.has_floor ≡ true
      → (v.tokens ≡ k.passes) × (floor_words k v.number (a ∷ v.log) ≡ (run k (did id v a ∷ es)).words)

  -- the pass that acts
  own : (a : Act) → Own a
  own (TakeFloor f s) may old has = (may.0, ap (λ (z : _). z.words) may.1 ∙ sym (set-get_or (run k es).words (at k counter) 0))
  own (TookOver hs had found told) may old has = absurd may
  own act may old has =
      let before = old has in
      (before.0, ap (λ (ws : List ℕ). slice_set ws (at k (place act)) (word_after v.number act (slice_index ws (at k (place act))))) before.1)

by_flag : (T : Type 0) (b : Bool) (xs ys ws : List ℕ) → (b ≡ true → T × (xs ≡ ws)) → (ys ≢ [] → T × (ys ≡ ws)) → cond b xs ys ≢ [] → T × (cond b xs ys ≡ ws)
by_flag T true xs ys ws f g some_words = f refl
by_flag T false xs ys ws f g some_words = g some_words

some_of : (xs ys : List ℕ) → xs ++ ys ≢ [] → (xs ≢ []) ⊎ ((xs ≡ []) × (ys ≢ []))
some_of [] ys ne = inr (refl, ne)
some_of (x ∷ xs) ys ne = inl (λ e. absurd (cc))

no_words : (ys : List ℕ) → (ys ≢ [] → ⊥) → ys ≡ []
no_words [] never = refl
no_words (y ∷ ys) never = absurd (never (λ e. absurd (cc)))

module _ (k : Shape) (es : List Event) (id : ℕ) (v : View) where
  by_note : (given : ℕ) → Valid k (sent id v given ∷ es) → Floored k es id v → (note given v).floor ≢ [] → (given ≡ k.passes) × ((note given v).floor ≡ (run k es).words)
  by_note given valid mine some_words =
      dite (ℕ_discrete given v.tokens)
      (λ (e : given ≡ v.tokens).
      let is : (note given v).floor ≡ floor_known v = here given v.tokens (floor_known v) [] e in
      let same : v.shape ≡ k = sized k es valid.0 id v valid.1.0 valid.1.1 in
      let has : v.has_floor ≡ true → (v.tokens ≡ k.passes) × (floor_words v.shape v.number v.log ≡ (run k es).words) = λ h. let f = mine.has h in (f.0, ap (λ (z : Shape). floor_words z v.number v.log) same ∙ f.1) in
      let f = by_flag (v.tokens ≡ k.passes) v.has_floor (floor_words v.shape v.number v.log) v.floor (run k es).words has mine.given (λ z. some_words (is ∙ z)) in
      (e ∙ f.0, is ∙ f.1))
      (λ ne. absurd (some_words (miss given v.tokens (floor_known v) [] ne)))

  by_sender : (given : ℕ) → Floored k es id v → Floored k (sent id v given ∷ es) id (sender given v)
  by_sender given mine =
      dite (ℕ_discrete given 0)
      (λ (e : given ≡ 0).
      let is : (sender given v).has_floor ≡ v.has_floor = here given 0 v.has_floor false e in
      let words : (sender given v).floor ≡ v.floor = here given 0 v.floor [] e in
      record {
        has = λ h. let f = mine.has (sym is ∙ h) in let a = f.0 in (omega (arith, a, e), f.1);
        given = λ h. let f = mine.given (λ z. h (words ∙ z)) in let a = f.0 in (omega (arith, a, e), words ∙ f.1);
      })
      (λ ne. record { has = λ h. off (sym (miss given 0 v.has_floor false ne) ∙ h); given = λ h. absurd (h (miss given 0 v.floor [] ne)) })

  by_both : (other : ℕ) (w : View) → Valid k (joined id v other w ∷ es) → Floored k es id v → Floored k es other w → Floored k (joined id v other w ∷ es) id (both v w)
  by_both other w valid mine its = record {
    has = λ h.
        let f = mine.has h in
        let a = f.0 in
        let none = tokens_alone k es valid.0 id other v w valid.1.0 valid.1.2 (λ e. valid.1.1 (sym e)) a in
        (omega (arith, a, none), f.1);
    given = λ h.
        ⊎_elim
        (λ (some_words : w.floor ≢ []).
        let f = its.given some_words in
        let a = f.0 in
        let some_pass = (fits k es valid.0).some_pass in
        let none = tokens_alone k es valid.0 other id w v valid.1.2 valid.1.0 valid.1.1 a in
        let nil : v.floor ≡ [] = no_words v.floor (λ z. let b = (mine.given z).0 in omega (arith, b, none, some_pass)) in
        (omega (arith, a, none), ap (λ (l : List ℕ). w.floor ++ l) nil ∙ (append-nil w.floor ∙ f.1)))
        (λ (x : (w.floor ≡ []) × (v.floor ≢ [])).
        let f = mine.given x.1 in
        let a = f.0 in
        let none = tokens_alone k es valid.0 id other v w valid.1.0 valid.1.2 (λ e. valid.1.1 (sym e)) a in
        (omega (arith, a, none), ap (λ (l : List ℕ). l ++ v.floor) x.0 ∙ f.1))
        (some_of w.floor v.floor h);
  }

pub floored : (k : Shape) (es : List Event) → Valid k es → (j : ℕ) (u : View) → get_elem? (run k es).views j ≡ some u → Floored k es j u
floored k [] valid = one_view (Floored k []) (starter k) (record { has = λ no. off no; given = λ no. absurd (no refl) })
floored k (did id v a ∷ es) valid =
    let old = floored k es valid.0 in
    let token = valid.1.4 in
    -- another pass that had all tokens would leave none to this one
    let none : (j : ℕ) (u : View) → j ≢ id → get_elem? (run k es).views j ≡ some u → u.tokens ≡ k.passes → ⊥ = λ j u ne e all. let z = tokens_alone k es valid.0 j id u v e valid.1.0 ne all in omega (arith, z, token) in
    set_views (Floored k (did id v a ∷ es)) _ id (view_after a v)
    (record { has = λ has. own k es id v a valid.1.3 (old id v valid.1.0).has has; given = λ no. absurd (no refl) })
    (λ j u ne e. let o = old j u e in record { has = λ has. absurd (none j u ne e (o.has has).0); given = λ some_words. absurd (none j u ne e (o.given some_words).0) })
floored k (forked id v ∷ es) valid =
    let old = floored k es valid.0 in
    let P : ℕ → View → Type 0 = Floored k (forked id v ∷ es) in
    one_more P _ (made v) (record { has = λ no. off no; given = λ no. absurd (no refl) })
    (set_views P _ id (maker v) (record { has = λ no. off no; given = λ no. absurd (no refl) }) (λ j u _ e. let o = old j u e in record { has = o.has; given = o.given }))
floored k (sent id v given ∷ es) valid =
    let old = floored k es valid.0 in
    let mine = old id v valid.1.0 in
    let P : ℕ → View → Type 0 = Floored k (sent id v given ∷ es) in
    one_more P _ (note given v) (record { has = λ no. off no; given = λ some_words. by_note k es id v given valid mine some_words })
    (set_views P _ id (sender given v) (by_sender k es id v given mine) (λ j u _ e. let o = old j u e in record { has = o.has; given = o.given }))
floored k (joined id v other w ∷ es) valid =
    let old = floored k es valid.0 in
    let mine = old id v valid.1.0 in
    let its = old other w valid.1.2 in
    let P : ℕ → View → Type 0 = Floored k (joined id v other w ∷ es) in
    set_views P _ other spent (record { has = λ no. off no; given = λ no. absurd (no refl) })
    (λ j u _. set_views P _ id (both v w) (by_both k es id v other w valid mine its) (λ j u _ e. let o = old j u e in record { has = o.has; given = o.given }) j u)

pub floor_stands : FloorStands
floor_stands k es valid j u at = let f = floored k es valid j u at in (f.has, f.given)

-- ---- answers

abbrev Tells : Shape → ℕ → View → Type 0
Tells k j u = u.has_floor ≡ true → FoundAsKnown k u.number u.log

module _ (k : Shape) (es : List Event) (id : ℕ) (v : View) where
  tells_own : (a : Act) → Reports a (word k es (place a)) → (v.has_floor ≡ true → floor_words k v.number v.log ≡ (run k es).words) → Tells k id v → has_floor_next a v.has_floor ≡ true → FoundAsKnown k v.number (a ∷ v.log)
  tells_own (TakeFloor f s) found words old has = tt
  tells_own (TookOver hs had others told) found words old has = old has
  tells_own act found words old has = (subst (λ (ws : List ℕ). Reports act (slice_index ws (at k (place act)))) (sym (words has)) found, old has)

pub by_given : (b c : Bool) → cond b c false ≡ true → c ≡ true
by_given true c e = e
by_given false c e = off e

pub floor_tells : FloorTells
floor_tells k [] valid = one_view (Tells k) (starter k) (λ no. off no)
floor_tells k (did id v a ∷ es) valid =
    let old = floor_tells k es valid.0 in
    set_views (Tells k) _ id (view_after a v) (tells_own k es id v a valid.1.2 (λ has. ((floored k es valid.0 id v valid.1.0).has has).1) (old id v valid.1.0)) (λ j u _ e. old j u e)
floor_tells k (forked id v ∷ es) valid =
    let old = floor_tells k es valid.0 in
    one_more (Tells k) _ (made v) (λ no. off no) (set_views (Tells k) _ id (maker v) (λ no. off no) (λ j u _ e. old j u e))
floor_tells k (sent id v given ∷ es) valid =
    let old = floor_tells k es valid.0 in
    one_more (Tells k) _ (note given v) (λ no. off no) (set_views (Tells k) _ id (sender given v) (λ has. old id v valid.1.0 (by_given (eqb given 0) v.has_floor has)) (λ j u _ e. old j u e))
floor_tells k (joined id v other w ∷ es) valid =
    let old = floor_tells k es valid.0 in
    set_views (Tells k) _ other spent (λ no. off no) (λ j u _. set_views (Tells k) _ id (both v w) (old id v valid.1.0) (λ j u _ e. old j u e) j u)
