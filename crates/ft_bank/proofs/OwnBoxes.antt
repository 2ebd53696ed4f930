-- The boxes of a pass's own heap: nobody else makes boxes there, and the shared word tells in which state a box is.
use Rattle.std.proofs.Common.{◌≡◌, ◌≢◌, ◌⊎◌, ℕ, suc, ◌+◌, ◌*◌, ◌%◌, ◌^◌, eqb, cond, List, [], ◌∷◌, refl, sym, ap, ◌∙◌, inl, inr, ⊎_elim, arith}
use mathlib.Core.Option.{some}
use mathlib.Core.Logic.{dite}
use native.Mathlib.Decide.{ℕ_discrete}
use lib.ListN.{get_elem?}
use Rattle.ft_trace.specs.declared.Shape.{Shape}
use Rattle.ft_trace.specs.declared.View.{View}
use Rattle.ft_trace.specs.declared.Act.{Act}
use Rattle.ft_trace.specs.declared.Act.TheVariants.{TakePlace, PublishBox, MergeCounts}
use Rattle.ft_trace.specs.Addresses.{box_word, maker_of, IsBoxName}
use Rattle.ft_trace.specs.Acts.{starter, view_after, maker, made, both, spent, sender, note}
use Rattle.ft_trace.specs.Boxes.{made_state}
use Rattle.ft_trace.specs.BoxTraces.{box_state, has_in_default}
use Rattle.ft_trace.specs.Traces.{Event, did, forked, joined, sent, run, word, history, May, Valid}
use Rattle.ft_trace.proofs.Boxed.{boxed}
use Rattle.ft_trace.proofs.Cases.{here, miss}
use Rattle.ft_trace.proofs.Seats.{same_seat}
use Rattle.ft_trace.proofs.Sizes.{set_views, one_more, one_view}
use Rattle.ft_trace.proofs.Sums.{total_at}
use Rattle.ft_trace.proofs.Totals.{total_alone}

-- ---- whose boxes they are

module _ (k : Shape) (b : ℕ) where
  -- a pass that made a box here has the number of the heap
  abbrev Owns : View → Type 0
  Owns u = made_state b u.log ≢ 0 → u.number ≡ suc (maker_of b)

  same_name : (c x n : ℕ) → c ≢ b → cond (eqb c b) x n ≡ n
  same_name c x n ne = miss c b x n ne

  own_next : (es : List Event) (id : ℕ) (v : View) (a : Act) → May k (run k es) (history es) v a → Owns v → Owns (view_after a v)
  own_next es id v (TakePlace c f) may old =
      dite (ℕ_discrete c b)
      (λ (e : c ≡ b). λ _. may.1 ∙ ap (λ (z : ℕ). suc (maker_of z)) e)
      (λ ne. λ some_. old (λ z. some_ (same_name c _ (made_state b v.log) ne ∙ z)))
  own_next es id v (PublishBox c) may old =
      dite (ℕ_discrete c b)
      (λ (e : c ≡ b). λ _. old (λ z. let m = may.1 in let s : made_state c v.log ≡ made_state b v.log = ap (λ (y : ℕ). made_state y v.log) e in omega (arith, m, s, z)))
      (λ ne. λ some_. old (λ z. some_ (same_name c 2 (made_state b v.log) ne ∙ z)))
  own_next es id v (MergeCounts c d f) may old =
      dite (ℕ_discrete c b)
      (λ (e : c ≡ b). λ _. old (λ z. let m = may.1 in let s : made_state c v.log ≡ made_state b v.log = ap (λ (y : ℕ). made_state y v.log) e in omega (arith, m, s, z)))
      (λ ne. λ some_. old (λ z. some_ (same_name c 3 (made_state b v.log) ne ∙ z)))
  own_next es id v act may old = old

  begun : (u : View) → u.log ≡ [] → Owns u
  begun u e some_ = absurd (some_ (ap (made_state b) e))

  pub owned : (es : List Event) → Valid k es → (j : ℕ) (u : View) → get_elem? (run k es).views j ≡ some u → Owns u
  owned [] valid = one_view (λ j u. Owns u) (starter k) (begun (starter k) refl)
  owned (did id v a ∷ es) valid =
      let old = owned es valid.0 in
      set_views (λ j u. Owns u) _ id (view_after a v) (own_next es id v a valid.1.3 (old id v valid.1.0)) (λ j u ne e. old j u e)
  owned (forked id v ∷ es) valid =
      let old = owned es valid.0 in
      one_more (λ j u. Owns u) _ (made v) (begun (made v) refl) (set_views (λ j u. Owns u) _ id (maker v) (old id v valid.1.0) (λ j u _ e. old j u e))
  owned (sent id v given ∷ es) valid =
      let old = owned es valid.0 in
      one_more (λ j u. Owns u) _ (note given v) (begun (note given v) refl) (set_views (λ j u. Owns u) _ id (sender given v) (old id v valid.1.0) (λ j u _ e. old j u e))
  owned (joined id v other w ∷ es) valid =
      let old = owned es valid.0 in
      set_views (λ j u. Owns u) _ other spent (begun spent refl)
      (λ j u _. set_views (λ j u. Owns u) _ id (both v w) (old id v valid.1.0) (λ i2 y _ e. old i2 y e) j u)

-- ---- its state by its shared word

-- whether the two low bits are 0
low_default : (s : ℕ) → (4 * s + 2 ^ 63) % 2 ^ 64 % 4 ≡ 0
low_default s = omega arith

low_merged : (s : ℕ) → (4 * s + 3 + 2 ^ 63) % 2 ^ 64 % 4 ≡ 3
low_merged s = omega arith

module _ (k : Shape) (b : ℕ) (is : IsBoxName k b) (es : List Event) (valid : Valid k es) (j : ℕ) (u : View) (there : get_elem? (run k es).views j ≡ some u) where
  abbrev shared : ℕ
  shared = word k es (box_word b 0)

  -- it is in the default state where the low bits are 0, and else not
  state_by : ((shared % 4 ≡ 0) × (box_state b es ≡ 2)) ⊎ ((shared % 4 ≢ 0) × (box_state b es ≢ 2))
  state_by =
      let x = boxed k b es valid in
      dite (ℕ_discrete (box_state b es) 2)
      (λ (two : box_state b es ≡ 2).
      let w = (x.word is).default two in
      inl (ap (λ (z : ℕ). z % 4) w ∙ low_default _, two))
      (λ no.
      dite (ℕ_discrete (box_state b es) 3)
      (λ (three : box_state b es ≡ 3).
      let w = (x.word is).merged three in
      inr ((λ z. let l = sym (ap (λ (y : ℕ). y % 4) w ∙ low_merged _) ∙ z in absurd (omega (arith, l))), no))
      (λ not.
      let small = x.counts.small in
      let w = (x.word is).none (omega (arith, small, no, not)) in
      inr ((λ z. absurd (omega (arith, w, z))), no)))

  -- a pass of another number shares the box
  pub others_share : u.number ≢ suc (maker_of b) → made_state b u.log ≢ 2
  others_share other two = other (owned k b es valid j u there (λ z. omega (arith, z, two)))

  -- the pass of this heap has the box in the default state where the box is
  default_is_own : u.number ≡ suc (maker_of b) → box_state b es ≡ 2 → made_state b u.log ≡ 2
  default_is_own mine two =
      dite (ℕ_discrete (made_state b u.log) 2) (λ (z : made_state b u.log ≡ 2). z)
      (λ no.
      let none : has_in_default b u ≡ 0 = miss (made_state b u.log) 2 1 0 no in
      let one = (boxed k b es valid).counts.default two in
      let alone = total_alone (has_in_default b) (run k es).views j u there
      (λ i w ne at.
      dite (ℕ_discrete (made_state b w.log) 2)
      (λ (its : made_state b w.log ≡ 2).
      let number : w.number ≡ suc (maker_of b) = owned k b es valid i w at (λ z. omega (arith, z, its)) in
      absurd (ne (same_seat k es valid i j w u at there (λ z. absurd (omega (arith, z, number))) (number ∙ sym mine))))
      (λ not. miss (made_state b w.log) 2 1 0 not)) in
      absurd (omega (arith, one, alone, none)))

  pub own_state : u.number ≡ suc (maker_of b) → (shared % 4 ≡ 0 → made_state b u.log ≡ 2) × (shared % 4 ≢ 0 → made_state b u.log ≢ 2)
  own_state mine =
      ⊎_elim
      (λ (d : (shared % 4 ≡ 0) × (box_state b es ≡ 2)). ((λ _. default_is_own mine d.1), (λ no. absurd (no d.0))))
      (λ (d : (shared % 4 ≢ 0) × (box_state b es ≢ 2)). (
        (λ z. absurd (d.0 z)),
        (λ _ two.
            let one : has_in_default b u ≡ 1 = here (made_state b u.log) 2 1 0 two in
            let none = (boxed k b es valid).counts.other d.1 in
            let t = total_at (has_in_default b) (run k es).views j u there in
            omega (arith, one, none, t)),
      ))
      state_by
