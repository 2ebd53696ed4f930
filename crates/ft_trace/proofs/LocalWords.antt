-- The local count of a box is what its maker put there last: no other pass writes it.
use Rattle.std.proofs.Common.{◌≡◌, ◌≢◌, ◌⊎◌, ℕ, ◌^◌, ◌≤◌, eqb, cond, List, [], ◌∷◌, refl, sym, ap, ◌∙◌, inl, inr, ⊎_elim, arith}
use mathlib.Core.Option.{some}
use mathlib.Core.Logic.{dite}
use native.Mathlib.Decide.{ℕ_discrete}
use lib.ListN.{get_elem?}
use Rattle.ft_trace.specs.declared.Shape.{Shape}
use Rattle.ft_trace.specs.declared.View.{View}
use Rattle.ft_trace.specs.declared.Act.{Act}
use Rattle.ft_trace.specs.declared.Act.TheVariants.{TakePlace, PutBox, PublishBox, ReadBox, RaiseLocal, DropLocal, ClearLocal, MergeCounts, RaiseShared, RaiseKept, DropShared, GivePlace, PutTable, PutRoot}
use Rattle.ft_trace.specs.Bits.{bit}
use Rattle.ft_trace.specs.Addresses.{box_word, place_bit_of, IsBoxName}
use Rattle.ft_trace.specs.Acts.{place, word_after, starter, view_after, maker, made, both, spent, sender, note}
use Rattle.ft_trace.specs.Entries.{total}
use Rattle.ft_trace.specs.Boxes.{made_state, local_count}
use Rattle.ft_trace.specs.BoxTraces.{box_state, making_box, has_in_default}
use Rattle.ft_trace.specs.Traces.{Event, did, forked, joined, sent, run, word, history, May, Valid}
use Rattle.ft_trace.proofs.Sizes.{set_views, one_more, one_view}
use Rattle.ft_trace.proofs.Cases.{hit, miss, here}
use Rattle.ft_trace.proofs.OneWord.{stays, moves, loaded}
use Rattle.ft_trace.proofs.Totals.{total_two}
use Rattle.ft_trace.proofs.Sums.{total_at}
use Rattle.ft_trace.proofs.BoxActs.{on_box}
use Rattle.ft_trace.proofs.NamedBoxes.{IsPut}
use Rattle.ft_trace.proofs.Boxed.{boxed}

-- the pass knows the local count of the box
abbrev pub IsLocal : Shape → ℕ → List Event → View → Type 0
IsLocal k b es u = (made_state b u.log ≡ 1 → local_count b u.log ≢ 2 ^ 64 → word k es (box_word b 3) ≡ local_count b u.log) × (made_state b u.log ≡ 2 → word k es (box_word b 3) ≡ local_count b u.log)

-- the pass makes the box, or has it in the default state
abbrev pub IsMaker : ℕ → View → Type 0
IsMaker b u = (made_state b u.log ≡ 1) ⊎ (made_state b u.log ≡ 2)

-- no two passes do
pub one_maker : (k : Shape) (b : ℕ) (es : List Event) → Valid k es → (i j : ℕ) (u w : View) → i ≢ j → get_elem? (run k es).views i ≡ some u → get_elem? (run k es).views j ≡ some w → IsMaker b u → IsMaker b w → ⊥
one_maker k b es valid i j u w ne here_ there mine its =
    let c = (boxed k b es valid).counts in
    let M = total (making_box b) (run k es).views in
    let F = total (has_in_default b) (run k es).views in
    let two_m = total_two (making_box b) (run k es).views i j u w ne here_ there in
    let two_f = total_two (has_in_default b) (run k es).views i j u w ne here_ there in
    let m_u = total_at (making_box b) (run k es).views i u here_ in
    let m_w = total_at (making_box b) (run k es).views j w there in
    let f_u = total_at (has_in_default b) (run k es).views i u here_ in
    let f_w = total_at (has_in_default b) (run k es).views j w there in
    let m_low : M ≤ 1 = dite (ℕ_discrete (box_state b es) 1) (λ (z : box_state b es ≡ 1). let x = c.making z in omega (arith, x)) (λ no. let x = c.unmade no in omega (arith, x)) in
    let f_low : F ≤ 1 = dite (ℕ_discrete (box_state b es) 2) (λ (z : box_state b es ≡ 2). let x = c.default z in omega (arith, x)) (λ no. let x = c.other no in omega (arith, x)) in
    let no_both : M ≡ 1 → F ≡ 1 → ⊥ = λ x y.
    dite (ℕ_discrete (box_state b es) 1) (λ (z : box_state b es ≡ 1). let g = c.other (λ e. omega (arith, e, z)) in omega (arith, g, y)) (λ no. let g = c.unmade no in omega (arith, g, x)) in
    ⊎_elim
    (λ (a : made_state b u.log ≡ 1).
    let au : making_box b u ≡ 1 = here (made_state b u.log) 1 1 0 a in
    ⊎_elim
    (λ (d : made_state b w.log ≡ 1). let aw : making_box b w ≡ 1 = here (made_state b w.log) 1 1 0 d in omega (arith, two_m, au, aw, m_low))
    (λ (d : made_state b w.log ≡ 2). let aw : has_in_default b w ≡ 1 = here (made_state b w.log) 2 1 0 d in no_both (omega (arith, m_u, au, m_low)) (omega (arith, f_w, aw, f_low)))
    its)
    (λ (a : made_state b u.log ≡ 2).
    let au : has_in_default b u ≡ 1 = here (made_state b u.log) 2 1 0 a in
    ⊎_elim
    (λ (d : made_state b w.log ≡ 1). let aw : making_box b w ≡ 1 = here (made_state b w.log) 1 1 0 d in no_both (omega (arith, m_w, aw, m_low)) (omega (arith, f_u, au, f_low)))
    (λ (d : made_state b w.log ≡ 2). let aw : has_in_default b w ≡ 1 = here (made_state b w.log) 2 1 0 d in omega (arith, two_f, au, aw, f_low))
    its)
    mine

module _ (k : Shape) (es : List Event) (id : ℕ) (v : View) (b : ℕ) (is : IsBoxName k b) where
  -- an action on another word
  local_stays : (a : Act) → May k (run k es) (history es) v a → place a ≢ box_word b 3 → word k (did id v a ∷ es) (box_word b 3) ≡ word k es (box_word b 3)
  local_stays a may ne = stays k es id v a may (box_word b 3) (is, omega arith) ne

  not_three : ◌≡◌ {A = ℕ} 0 3 → ⊥
  not_three z = omega (arith, z)

  -- who changes the local count is the box's maker
  pub changes_local : (a : Act) → May k (run k es) (history es) v a → (IsMaker b v) ⊎ (word k (did id v a ∷ es) (box_word b 3) ≡ word k es (box_word b 3))
  changes_local (PutBox c n x) may =
      dite (ℕ_discrete c b) (λ (e : c ≡ b). inl (inl (ap (λ (z : ℕ). made_state z v.log) (sym e) ∙ may.2))) (λ ne. inr (local_stays (PutBox c n x) may (λ (e : box_word c n ≡ box_word b 3). ne (cc))))
  changes_local (RaiseLocal c x) may =
      dite (ℕ_discrete c b) (λ (e : c ≡ b). inl (inr (ap (λ (z : ℕ). made_state z v.log) (sym e) ∙ may.1))) (λ ne. inr (local_stays (RaiseLocal c x) may (λ (e : box_word c 3 ≡ box_word b 3). ne (cc))))
  changes_local (DropLocal c x) may =
      dite (ℕ_discrete c b) (λ (e : c ≡ b). inl (inr (ap (λ (z : ℕ). made_state z v.log) (sym e) ∙ may.1))) (λ ne. inr (local_stays (DropLocal c x) may (λ (e : box_word c 3 ≡ box_word b 3). ne (cc))))
  changes_local (ClearLocal c) may =
      dite (ℕ_discrete c b) (λ (e : c ≡ b). inl (inr (ap (λ (z : ℕ). made_state z v.log) (sym e) ∙ may.1))) (λ ne. inr (local_stays (ClearLocal c) may (λ (e : box_word c 3 ≡ box_word b 3). ne (cc))))
  changes_local (PublishBox c) may = inr (local_stays (PublishBox c) may (λ (e : box_word c 0 ≡ box_word b 3). not_three (cc)))
  changes_local (MergeCounts c d f) may = inr (local_stays (MergeCounts c d f) may (λ (e : box_word c 0 ≡ box_word b 3). not_three (cc)))
  changes_local (RaiseShared c old f) may = inr (local_stays (RaiseShared c old f) may (λ (e : box_word c 0 ≡ box_word b 3). not_three (cc)))
  changes_local (RaiseKept c f) may = inr (local_stays (RaiseKept c f) may (λ (e : box_word c 0 ≡ box_word b 3). not_three (cc)))
  changes_local (DropShared c f) may = inr (local_stays (DropShared c f) may (λ (e : box_word c 0 ≡ box_word b 3). not_three (cc)))
  changes_local (ReadBox c n f) may = inr (loaded k es id v (ReadBox c n f) (λ z. refl) (box_word b 3))
  changes_local act may = inr (local_stays act may (λ e. absurd (cc)))

-- a drop by another pass doesn't write the local count
pub others_leave_local : (k : Shape) (es : List Event) (id : ℕ) (v : View) (a : Act) → Valid k (did id v a ∷ es) → (b : ℕ) → IsBoxName k b → (j : ℕ) (u : View) → j ≢ id → get_elem? (run k es).views j ≡ some u → IsMaker b u → word k (did id v a ∷ es) (box_word b 3) ≡ word k es (box_word b 3)
others_leave_local k es id v a valid b is j u ne there mine =
    ⊎_elim (λ (x : IsMaker b v). absurd (one_maker k b es valid.0 j id u v ne there valid.1.0 mine x)) (λ y. y) (changes_local k es id v b is a valid.1.3)

-- ---- what its maker knows of it

module _ (k : Shape) (es : List Event) (id : ℕ) (v : View) (b : ℕ) (is : IsBoxName k b) (old : IsLocal k b es v) where
  abbrev Knows : Act → Type 0
  Knows a = May k (run k es) (history es) v a → IsLocal k b (did id v a ∷ es) (view_after a v)

  kept_word : (a : Act) → May k (run k es) (history es) v a → place a ≢ box_word b 3 → made_state b (a ∷ v.log) ≡ made_state b v.log → local_count b (a ∷ v.log) ≡ local_count b v.log → IsLocal k b (did id v a ∷ es) (view_after a v)
  kept_word a may ne o l =
      let w = stays k es id v a may (box_word b 3) (is, omega arith) ne in
      ((λ e n. w ∙ (old.0 (sym o ∙ e) (λ z. n (l ∙ z)) ∙ sym l)), (λ e. w ∙ (old.1 (sym o ∙ e) ∙ sym l)))

  put_local : (a : Act) (x : ℕ) → May k (run k es) (history es) v a → place a ≡ box_word b 3 → ((n : ℕ) → word_after v.number a n ≡ x) → local_count b (a ∷ v.log) ≡ x → IsLocal k b (did id v a ∷ es) (view_after a v)
  put_local a x may there after_ l =
      let m = moves k es id v a may in
      let w : word k (did id v a ∷ es) (box_word b 3) ≡ x = ap (word k (did id v a ∷ es)) (sym there) ∙ (m ∙ after_ (word k es (place a))) in
      ((λ _ _. w ∙ sym l), (λ _. w ∙ sym l))

  not_three_zero : ◌≡◌ {A = ℕ} 0 3 → ⊥
  not_three_zero z = omega (arith, z)

  take_known : (f : ℕ) → Knows (TakePlace b f)
  take_known f may =
      let a : Act = TakePlace b f in
      dite (ℕ_discrete (bit (place_bit_of b) f) 1)
      (λ (one : bit (place_bit_of b) f ≡ 1).
      let o : made_state b (a ∷ v.log) ≡ 1 = hit b (cond (eqb (bit (place_bit_of b) f) 1) 1 (made_state b v.log)) (made_state b v.log) ∙ here (bit (place_bit_of b) f) 1 1 (made_state b v.log) one in
      let l : local_count b (a ∷ v.log) ≡ 2 ^ 64 = hit b (cond (eqb (bit (place_bit_of b) f) 1) (2 ^ 64) (local_count b v.log)) (local_count b v.log) ∙ here (bit (place_bit_of b) f) 1 (2 ^ 64) (local_count b v.log) one in
      ((λ _ n. absurd (n l)), (λ e. absurd (omega (arith, e, o)))))
      (λ no.
      kept_word a may (λ e. absurd (cc))
      (hit b (cond (eqb (bit (place_bit_of b) f) 1) 1 (made_state b v.log)) (made_state b v.log) ∙ miss (bit (place_bit_of b) f) 1 1 (made_state b v.log) no)
      (hit b (cond (eqb (bit (place_bit_of b) f) 1) (2 ^ 64) (local_count b v.log)) (local_count b v.log) ∙ miss (bit (place_bit_of b) f) 1 (2 ^ 64) (local_count b v.log) no))

  fill_known : (i x : ℕ) → Knows (PutBox b i x)
  fill_known i x may =
      dite (ℕ_discrete i 3)
      (λ (e : i ≡ 3). put_local (PutBox b i x) x may (ap (box_word b) e) (λ n. refl) (hit b (cond (eqb i 3) x (local_count b v.log)) (local_count b v.log) ∙ here i 3 x (local_count b v.log) e))
      (λ ne. kept_word (PutBox b i x) may (λ (e : box_word b i ≡ box_word b 3). ne (cc)) refl (hit b (cond (eqb i 3) x (local_count b v.log)) (local_count b v.log) ∙ miss i 3 x (local_count b v.log) ne))

  open_known : Knows (PublishBox b)
  open_known may =
      let w = stays k es id v (PublishBox b) may (box_word b 3) (is, omega arith) (λ (e : box_word b 0 ≡ box_word b 3). not_three_zero (cc)) in
      let o : made_state b (PublishBox b ∷ v.log) ≡ 2 = hit b 2 (made_state b v.log) in
      let one = may.2 in
      ((λ e _. absurd (omega (arith, e, o))), (λ _. w ∙ old.0 may.1 (λ z. absurd (omega (arith, z, one)))))

  merge_known : (d f : ℕ) → Knows (MergeCounts b d f)
  merge_known d f may =
      let o : made_state b (MergeCounts b d f ∷ v.log) ≡ 3 = hit b 3 (made_state b v.log) in
      ((λ e _. absurd (omega (arith, e, o))), (λ e. absurd (omega (arith, e, o))))

  put_known : (a : Act) → IsPut a → Knows a
  put_known (PutTable o t i x) is_put may = kept_word (PutTable o t i x) may (λ e. absurd (cc)) refl refl
  put_known (PutRoot o r old_) is_put may = kept_word (PutRoot o r old_) may (λ e. absurd (cc)) refl refl
  put_known a is_put may = absurd is_put

  pub known_next : (a : Act) → Knows a
  known_next =
      on_box k es id v b Knows take_known fill_known open_known
      (λ x may. put_local (RaiseLocal b x) x may refl (λ n. refl) (hit b x (local_count b v.log)))
      (λ x may. put_local (DropLocal b x) x may refl (λ n. refl) (hit b x (local_count b v.log)))
      (λ may. put_local (ClearLocal b) 0 may refl (λ n. refl) (hit b 0 (local_count b v.log)))
      merge_known
      (λ before f may. kept_word (RaiseShared b before f) may (λ (e : box_word b 0 ≡ box_word b 3). not_three_zero (cc)) refl refl)
      (λ f may. kept_word (RaiseKept b f) may (λ (e : box_word b 0 ≡ box_word b 3). not_three_zero (cc)) refl refl)
      (λ f may. kept_word (DropShared b f) may (λ (e : box_word b 0 ≡ box_word b 3). not_three_zero (cc)) refl refl)
      (λ may. kept_word (GivePlace b) may (λ e. absurd (cc)) refl refl)
      put_known
      (λ a calm may.
      let c = calm may in
      let w = c.local_word is in
      let o = c.own_is (made_state b v.log) in
      let l = c.local_is (local_count b v.log) in
      ((λ e n. w ∙ (old.0 (sym o ∙ e) (λ z. n (l ∙ z)) ∙ sym l)), (λ e. w ∙ (old.1 (sym o ∙ e) ∙ sym l))))

not_begun : (k : Shape) (b : ℕ) (es : List Event) (u : View) → u.log ≡ [] → IsLocal k b es u
not_begun k b es u e =
    let o : made_state b u.log ≡ 0 = ap (made_state b) e in
    ((λ x _. absurd (omega (arith, x, o))), (λ x. absurd (omega (arith, x, o))))

-- the maker of a box knows its local count
pub local_known : (k : Shape) (b : ℕ) → IsBoxName k b → (es : List Event) → Valid k es → (j : ℕ) (u : View) → get_elem? (run k es).views j ≡ some u → IsLocal k b es u
local_known k b is [] valid = one_view (λ j u. IsLocal k b [] u) (starter k) (not_begun k b [] (starter k) refl)
local_known k b is (did id v a ∷ es) valid =
    let old = local_known k b is es valid.0 in
    set_views (λ j u. IsLocal k b (did id v a ∷ es) u) _ id (view_after a v) (known_next k es id v b is (old id v valid.1.0) a valid.1.3)
    (λ j u ne e.
    let h = old j u e in
    ((λ x n. others_leave_local k es id v a valid b is j u ne e (inl x) ∙ h.0 x n), (λ x. others_leave_local k es id v a valid b is j u ne e (inr x) ∙ h.1 x)))
local_known k b is (forked id v ∷ es) valid =
    let old = local_known k b is es valid.0 in
    let P : ℕ → View → Type 0 = λ j u. IsLocal k b (forked id v ∷ es) u in
    one_more P _ (made v) (not_begun k b (forked id v ∷ es) (made v) refl) (set_views P _ id (maker v) (old id v valid.1.0) (λ j u _ e. old j u e))
local_known k b is (sent id v given ∷ es) valid =
    let old = local_known k b is es valid.0 in
    let P : ℕ → View → Type 0 = λ j u. IsLocal k b (sent id v given ∷ es) u in
    one_more P _ (note given v) (not_begun k b (sent id v given ∷ es) (note given v) refl) (set_views P _ id (sender given v) (old id v valid.1.0) (λ j u _ e. old j u e))
local_known k b is (joined id v other w ∷ es) valid =
    let old = local_known k b is es valid.0 in
    let P : ℕ → View → Type 0 = λ j u. IsLocal k b (joined id v other w ∷ es) u in
    set_views P _ other spent (not_begun k b (joined id v other w ∷ es) spent refl)
    (λ j u _. set_views P _ id (both v w) (old id v valid.1.0) (λ i y _ e. old i y e) j u)
