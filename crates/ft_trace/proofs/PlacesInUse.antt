-- A place that is in use was stored by a write of its maker, or its maker alone has taken it.
use Rattle.std.proofs.Common.{◌≡◌, ◌≢◌, ◌⊎◌, ℕ, zero, suc, ◌<◌, true, false, List, [], ◌∷◌, refl, sym, ap, ◌∙◌, subst, inl, inr, ⊎_elim, arith}
use mathlib.Core.Option.{some, some-injective}
use mathlib.Core.Logic.{dite}
use native.Mathlib.Decide.{ℕ_discrete}
use lib.ListN.{get_elem?}
use Rattle.ft_trace.specs.declared.Shape.{Shape}
use Rattle.ft_trace.specs.declared.View.{View}
use Rattle.ft_trace.specs.Addresses.{maker_of, container_count}
use Rattle.ft_trace.specs.Acts.{is_writing}
use Rattle.ft_trace.specs.Boxes.{named_in_container, named_in_all, made_state, place_use, references_held}
use Rattle.ft_trace.specs.BoxLaws.{PlacesInUseWereStored, SeenBoxesWereStored, TakenPlacesAreTheMakers}
use Rattle.ft_trace.specs.BoxTraces.{box_state, was_stored, making_box, has_in_default, references_held_by, place_to_give_by, references}
use Rattle.ft_trace.specs.Entries.{total}
use Rattle.ft_trace.specs.Sums.{sum_to}
use Rattle.ft_trace.specs.Traces.{Event, run, Valid}
use Rattle.ft_trace.proofs.Boxed.{boxed}
use Rattle.ft_trace.proofs.Cases.{miss, off}
use Rattle.ft_trace.proofs.Seats.{same_seat}
use Rattle.ft_trace.proofs.Sums.{sum_none}
use Rattle.ft_trace.proofs.StoredBoxes.{Claims, Stored, Writes}
use Rattle.ft_trace.proofs.SeenNames.{stored_at, seen_were_stored}

-- where a sum over views isn't 0 one of them isn't
some_view : (f : View → ℕ) (views : List View) → total f views ≢ 0 → (j : ℕ) × (u : View) × (get_elem? views j ≡ some u) × (f u ≢ 0)
some_view f [] ne = absurd (ne refl)
some_view f (x ∷ xs) ne =
    dite (ℕ_discrete (f x) 0)
    (λ (none : f x ≡ 0). let h = some_view f xs (λ z. ne (omega (arith, none, z))) in (suc h.0, h.1, h.2, h.3))
    (λ some_. (0, x, refl, some_))

some_term : (f : ℕ → ℕ) (n : ℕ) → sum_to f n ≢ 0 → (i : ℕ) × (i < n) × (f i ≢ 0)
some_term f zero ne = absurd (ne refl)
some_term f (suc n) ne =
    dite (ℕ_discrete (f n) 0)
    (λ (none : f n ≡ 0). let h = some_term f n (λ z. ne (omega (arith, none, z))) in let low = h.1 in (h.0, omega (arith, low), h.2))
    (λ some_. (n, omega arith, some_))

abbrev InUse : Shape → ℕ → List Event → Type 0
InUse k b es =
    (was_stored b es ≡ true)
    ⊎ ((j : ℕ) × (u : View) × (get_elem? (run k es).views j ≡ some u) × (u.number ≡ suc (maker_of b))
    × (place_use b u.log ≡ 1))

module _ (k : Shape) (b : ℕ) (es : List Event) (valid : Valid k es) where
  abbrev all : Stored k b es
  all = stored_at k b es valid

  by_claims : (j : ℕ) (u : View) → get_elem? (run k es).views j ≡ some u → Claims b es u → InUse k b es
  by_claims j u at (inl e) = inl e
  by_claims j u at (inr one) = inr (j, u, at, (all.views j u at).maker (λ z. absurd (omega (arith, one, z))), one)

  by_named : (o : ℕ) → o < container_count k → named_in_container k b o (run k es).words ≢ 0 → InUse k b es
  by_named o low some_ = ⊎_elim (λ (e : was_stored b es ≡ true). inl e) (λ (w : Writes k b es o). by_claims w.0 w.1 w.2 (inr w.5)) (all.named o low some_)

  is_making : (u : View) → making_box b u ≢ 0 → made_state b u.log ≡ 1
  is_making u ne = dite (ℕ_discrete (made_state b u.log) 1) (λ (e : made_state b u.log ≡ 1). e) (λ far. absurd (ne (miss (made_state b u.log) 1 1 0 far)))

  is_default : (u : View) → has_in_default b u ≢ 0 → made_state b u.log ≡ 2
  is_default u ne = dite (ℕ_discrete (made_state b u.log) 2) (λ (e : made_state b u.log ≡ 2). e) (λ far. absurd (ne (miss (made_state b u.log) 2 1 0 far)))

  -- a box that is there
  in_use : box_state b es ≢ 0 → InUse k b es
  in_use there =
      let c = (boxed k b es valid).counts in
      dite (ℕ_discrete (box_state b es) 1)
      (λ (e : box_state b es ≡ 1).
      let n = c.making e in
      let h = some_view (making_box b) (run k es).views (λ z. absurd (omega (arith, n, z))) in
      by_claims h.0 h.1 h.2 ((all.views h.0 h.1 h.2).making (is_making h.1 h.3)))
      (λ not_one.
      dite (ℕ_discrete (box_state b es) 2)
      (λ (e : box_state b es ≡ 2).
      let n = c.default e in
      let h = some_view (has_in_default b) (run k es).views (λ z. absurd (omega (arith, n, z))) in
      by_claims h.0 h.1 h.2 ((all.views h.0 h.1 h.2).default (is_default h.1 h.3)))
      (λ not_two.
      let small = c.small in
      let three : box_state b es ≡ 3 = omega (arith, small, there, not_one, not_two) in
      dite (ℕ_discrete (named_in_all k b (run k es).words) 0)
      (λ (unnamed_ : named_in_all k b (run k es).words ≡ 0).
      dite (ℕ_discrete (total (references_held_by k b) (run k es).views) 0)
      (λ (unheld : total (references_held_by k b) (run k es).views ≡ 0).
      let n = c.dead three (omega (arith, unnamed_, unheld)) in
      let h = some_view (place_to_give_by b) (run k es).views (λ z. absurd (omega (arith, n, z))) in
      by_claims h.0 h.1 h.2 ((all.views h.0 h.1 h.2).gives h.3))
      (λ ne.
      let h = some_view (references_held_by k b) (run k es).views ne in
      by_claims h.0 h.1 h.2 ((all.views h.0 h.1 h.2).held h.3)))
      (λ ne. let h = some_term (λ o. named_in_container k b o (run k es).words) (container_count k) ne in by_named h.0 h.1 h.2)))

  -- whoever has to do with a place that was taken is its maker
  sole : (j : ℕ) (u : View) → get_elem? (run k es).views j ≡ some u → place_use b u.log ≡ 1 → (i : ℕ) (w : View) → get_elem? (run k es).views i ≡ some w → Claims b es w → w ≡ u
  sole j u at taken i w there (inl e) = let two = all.mine j u at ((all.views j u at).maker (λ z. absurd (omega (arith, taken, z)))) e in absurd (omega (arith, two, taken))
  sole j u at taken i w there (inr one) =
      let mine = (all.views j u at).maker (λ z. absurd (omega (arith, taken, z))) in
      let theirs = (all.views i w there).maker (λ z. absurd (omega (arith, one, z))) in
      let same = same_seat k es valid i j w u there at (λ z. absurd (omega (arith, z, theirs))) (theirs ∙ sym mine) in
      some-injective w u (sym there ∙ (ap (get_elem? (run k es).views) same ∙ at))

  alone : (j : ℕ) (u : View) → get_elem? (run k es).views j ≡ some u → place_use b u.log ≡ 1 → ((o : ℕ) → is_writing o u.log ≡ false) → references_held k b u.log ≡ 0 → references k b es ≡ 0
  alone j u at taken idle none =
      let unnamed_ : named_in_all k b (run k es).words ≡ 0 =
      sum_none (λ o. named_in_container k b o (run k es).words) (container_count k)
      (λ o low.
      dite (ℕ_discrete (named_in_container k b o (run k es).words) 0)
      (λ (z : named_in_container k b o (run k es).words ≡ 0). z)
      (λ ne.
      ⊎_elim
      (λ (e : was_stored b es ≡ true). let two = all.mine j u at ((all.views j u at).maker (λ z. absurd (omega (arith, taken, z)))) e in absurd (omega (arith, two, taken)))
      (λ (w : Writes k b es o). off (sym (idle o) ∙ subst (λ (z : View). is_writing o z.log ≡ true) (sole j u at taken w.0 w.1 w.2 (inr w.5)) w.3))
      (all.named o low ne))) in
      let unheld : total (references_held_by k b) (run k es).views ≡ 0 =
      dite (ℕ_discrete (total (references_held_by k b) (run k es).views) 0)
      (λ (z : total (references_held_by k b) (run k es).views ≡ 0). z)
      (λ ne.
      let h = some_view (references_held_by k b) (run k es).views ne in
      let same = sole j u at taken h.0 h.1 h.2 ((all.views h.0 h.1 h.2).held h.3) in
      absurd (h.3 (ap (λ (z : View). references_held k b z.log) same ∙ none))) in
      omega (arith, unnamed_, unheld)

pub places_in_use_were_stored : PlacesInUseWereStored
places_in_use_were_stored k b es valid name used =
    in_use k b es valid (λ none. let free = (boxed k b es valid).free name none in absurd (omega (arith, free, used)))

pub seen_boxes_were_stored : SeenBoxesWereStored
seen_boxes_were_stored k b es valid j u at saw = seen_were_stored k b es valid j u at saw

pub taken_places_are_the_makers : TakenPlacesAreTheMakers
taken_places_are_the_makers k b es valid j u at taken idle none = alone k b es valid j u at taken idle none
