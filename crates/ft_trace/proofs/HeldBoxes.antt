-- The value in a box that a pass holds stays until the pass lets go of it.
use Rattle.std.proofs.Common.{◌≡◌, ◌≢◌, ℕ, List, [], ◌∷◌, ◌++◌, refl, sym, ap, ◌∙◌, arith}
use mathlib.Core.Option.{some}
use lib.ListN.{get_elem?}
use Rattle.ft_trace.specs.declared.Shape.{Shape}
use Rattle.ft_trace.specs.declared.View.{View}
use Rattle.ft_trace.specs.declared.Act.{Act}
use Rattle.ft_trace.specs.declared.Act.TheVariants.{TookOver}
use Rattle.std.specs.Prelude.{slice_index}
use Rattle.ft_trace.specs.Addresses.{box_word, at}
use Rattle.ft_trace.specs.Acts.{starter, view_after, maker, made, both, spent, sender, note, hands_over, tells}
use Rattle.ft_trace.specs.Owners.{had_locks, found_owners}
use Rattle.ft_trace.specs.Boxes.{references_held}
use Rattle.ft_trace.specs.BoxTraces.{references_held_by, references}
use Rattle.ft_trace.specs.HeldBoxes.{HeldSince, SameValue}
use Rattle.ft_trace.specs.Traces.{Event, did, forked, joined, sent, run, word, Valid}
use Rattle.ft_trace.proofs.Sizes.{set_views, one_more, one_view}
use Rattle.ft_trace.proofs.Sums.{total_at}
use Rattle.ft_trace.proofs.BoxValues.{value_stays}

abbrev rest_of : List Act → List Act
rest_of [] = []
rest_of (a ∷ l) = l

held_now : (k : Shape) (b : ℕ) (newer rest : List Act) → HeldSince k b newer rest → references_held k b (newer ++ rest) ≢ 0
held_now k b [] rest h = h
held_now k b (a ∷ newer) rest h = h.0

nothing : {A : Type 0} (a : Act) (l : List Act) → [] ≡ a ∷ l → A
nothing a l e = absurd (cc)

module _ (k : Shape) (b : ℕ) where
  -- for the view at seat j
  abbrev Same : List Event → ℕ → View → Type 0
  Same es j u = (newer rest : List Act) → u.log ≡ newer ++ rest → HeldSince k b newer rest → SameValue k b es j rest

  -- now
  at_once : (es : List Event) → Valid k es → (j : ℕ) (u : View) → get_elem? (run k es).views j ≡ some u → (rest : List Act) → u.log ≡ rest → SameValue k b es j rest
  at_once es valid j u there rest is = record { later = []; older = es; view = u; split = refl; valid = valid; there = there; log = is; kind = refl; payload = refl }

  -- one event later
  later_by : (e : Event) (es : List Event) (j : ℕ) (rest : List Act) → word k (e ∷ es) (box_word b 1) ≡ word k es (box_word b 1) → word k (e ∷ es) (box_word b 2) ≡ word k es (box_word b 2) → SameValue k b es j rest → SameValue k b (e ∷ es) j rest
  later_by e es j rest one two s = record { later = e ∷ s.later; older = s.older; view = s.view; split = ap (λ (l : List Event). e ∷ l) s.split; valid = s.valid; there = s.there; log = s.log; kind = one ∙ s.kind; payload = two ∙ s.payload }

  some_refs : (es : List Event) (j : ℕ) (u : View) → get_elem? (run k es).views j ≡ some u → references_held k b u.log ≢ 0 → references k b es ≢ 0
  some_refs es j u there h z = let t = total_at (references_held_by k b) (run k es).views j u there in h (omega (arith, t, z))

  -- an action while the view at some seat holds the box
  acted : (es : List Event) (id : ℕ) (v : View) (a : Act) → Valid k (did id v a ∷ es) → references k b es ≢ 0 → (j : ℕ) (rest : List Act) → SameValue k b es j rest → SameValue k b (did id v a ∷ es) j rest
  acted es id v a valid r j rest s =
      later_by (did id v a) es j rest
      (value_stays k es id v b 1 valid.0 valid.1.0 r (omega arith) (λ z. omega (arith, z)) (λ z. omega (arith, z)) a valid.1.3)
      (value_stays k es id v b 2 valid.0 valid.1.0 r (omega arith) (λ z. omega (arith, z)) (λ z. omega (arith, z)) a valid.1.3)
      s

  -- a view that has just begun
  begun : (es : List Event) → Valid k es → (j : ℕ) (u : View) → get_elem? (run k es).views j ≡ some u → u.log ≡ [] → Same es j u
  begun es valid j u there none [] rest is h = at_once es valid j u there rest is
  begun es valid j u there none (a ∷ newer) rest is h = nothing a (newer ++ rest) (sym none ∙ is)

  -- one that has its log still
  stayed : (e : Event) (es : List Event) → Valid k (e ∷ es) → (j : ℕ) (u w : View) → get_elem? (run k (e ∷ es)).views j ≡ some w → w.log ≡ u.log → (references_held k b u.log ≢ 0 → (rest : List Act) → SameValue k b es j rest → SameValue k b (e ∷ es) j rest) → Same es j u → Same (e ∷ es) j w
  stayed e es valid j u w there same step old [] rest is h = at_once (e ∷ es) valid j w there rest is
  stayed e es valid j u w there same step old (a ∷ newer) rest is h =
      let l : u.log ≡ a ∷ (newer ++ rest) = sym same ∙ is in
      let held_it : references_held k b u.log ≢ 0 = λ z. h.0 (ap (references_held k b) (sym l) ∙ z) in
      step held_it rest (old (a ∷ newer) rest l h)

  -- one that did something
  went_on : (e : Event) (es : List Event) → Valid k (e ∷ es) → (j : ℕ) (u w : View) (a : Act) → get_elem? (run k (e ∷ es)).views j ≡ some w → w.log ≡ a ∷ u.log → (references_held k b u.log ≢ 0 → (rest : List Act) → SameValue k b es j rest → SameValue k b (e ∷ es) j rest) → Same es j u → Same (e ∷ es) j w
  went_on e es valid j u w a there same step old [] rest is h = at_once (e ∷ es) valid j w there rest is
  went_on e es valid j u w a there same step old (c ∷ newer) rest is h =
      let l : u.log ≡ newer ++ rest = ap rest_of (sym same ∙ is) in
      let held_it : references_held k b u.log ≢ 0 = λ z. held_now k b newer rest h.1 (ap (references_held k b) (sym l) ∙ z) in
      step held_it rest (old newer rest l h.1)

  -- where no word changes
  no_step : (e : Event) (es : List Event) → (run k (e ∷ es)).words ≡ (run k es).words → (j : ℕ) (rest : List Act) → SameValue k b es j rest → SameValue k b (e ∷ es) j rest
  no_step e es same j rest s = later_by e es j rest (word_same 1) (word_same 2) s
    where
      word_same : (i : ℕ) → word k (e ∷ es) (box_word b i) ≡ word k es (box_word b i)
      word_same i = ap (λ (ws : List ℕ). slice_index ws (at k (box_word b i))) same

-- the value in a box stays while a pass holds a reference for it
pub held_long : (k : Shape) (b : ℕ) (es : List Event) → Valid k es → (j : ℕ) (u : View) → get_elem? (run k es).views j ≡ some u → Same k b es j u
held_long k b [] valid j u there = one_view (λ i w. get_elem? (run k []).views i ≡ some w → Same k b [] i w) (starter k) (λ x. begun k b [] valid 0 (starter k) x refl) j u there there
held_long k b (did id v a ∷ es) valid j u there =
    set_views (λ i w. get_elem? (run k (did id v a ∷ es)).views i ≡ some w → Same k b (did id v a ∷ es) i w) _ id (view_after a v)
    (λ x. went_on k b (did id v a) es valid id v (view_after a v) a x refl (λ h rest s. acted k b es id v a valid (some_refs k b es id v valid.1.0 h) id rest s) (held_long k b es valid.0 id v valid.1.0))
    (λ i w ne e x. stayed k b (did id v a) es valid i w w x refl (λ h rest s. acted k b es id v a valid (some_refs k b es i w e h) i rest s) (held_long k b es valid.0 i w e))
    j u there there
held_long k b (forked id v ∷ es) valid j u there =
    let P : ℕ → View → Type 0 = λ i w. get_elem? (run k (forked id v ∷ es)).views i ≡ some w → Same k b (forked id v ∷ es) i w in
    one_more P _ (made v) (λ x. begun k b (forked id v ∷ es) valid _ (made v) x refl)
    (set_views P _ id (maker v)
    (λ x. stayed k b (forked id v) es valid id v (maker v) x refl (λ h rest s. no_step k b (forked id v) es refl id rest s) (held_long k b es valid.0 id v valid.1.0))
    (λ i w ne e x. stayed k b (forked id v) es valid i w w x refl (λ h rest s. no_step k b (forked id v) es refl i rest s) (held_long k b es valid.0 i w e)))
    j u there there
held_long k b (sent id v given ∷ es) valid j u there =
    let P : ℕ → View → Type 0 = λ i w. get_elem? (run k (sent id v given ∷ es)).views i ≡ some w → Same k b (sent id v given ∷ es) i w in
    one_more P _ (note given v) (λ x. begun k b (sent id v given ∷ es) valid _ (note given v) x refl)
    (set_views P _ id (sender given v)
    (λ x. stayed k b (sent id v given) es valid id v (sender given v) x refl (λ h rest s. no_step k b (sent id v given) es refl id rest s) (held_long k b es valid.0 id v valid.1.0))
    (λ i w ne e x. stayed k b (sent id v given) es valid i w w x refl (λ h rest s. no_step k b (sent id v given) es refl i rest s) (held_long k b es valid.0 i w e)))
    j u there there
held_long k b (joined id v other w ∷ es) valid j u there =
    let P : ℕ → View → Type 0 = λ i x. get_elem? (run k (joined id v other w ∷ es)).views i ≡ some x → Same k b (joined id v other w ∷ es) i x in
    set_views P _ other spent (λ x. begun k b (joined id v other w ∷ es) valid other spent x refl)
    (λ i y _. set_views P _ id (both v w)
    (λ x. went_on k b (joined id v other w) es valid id v (both v w) (TookOver (hands_over w.log) (had_locks w.number w.log) (found_owners w.log) (tells w)) x refl (λ h rest s. no_step k b (joined id v other w) es refl id rest s) (held_long k b es valid.0 id v valid.1.0))
    (λ i2 y2 ne e x. stayed k b (joined id v other w) es valid i2 y2 y2 x refl (λ h rest s. no_step k b (joined id v other w) es refl i2 rest s) (held_long k b es valid.0 i2 y2 e)) i y)
    j u there there
