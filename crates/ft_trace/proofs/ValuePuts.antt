-- What a table reads once one of its values, or another of its words, is put.
use Rattle.std.proofs.Common.{◌≡◌, ◌≢◌, ◌⊎◌, ℕ, zero, suc, ◌<◌, ◌≤◌, List, [], ◌∷◌, length, set, refl, sym, ap, ◌∙◌, subst, inl, inr, ⊎_elim, arith, length-set, get_or-set_other, get_or-set_same}
use mathlib.Core.Logic.{dite}
use native.Mathlib.Decide.{ℕ_discrete}
use Rattle.std.proofs.Math.Decide.{dec_lt}
use Rattle.std.specs.Prelude.{slice_index}
use Rattle.std.proofs.lemmas.List.{set_comm}
use Rattle.ft_model.specs.declared.script.Kind.{Kind}
use Rattle.ft_trace.specs.Boxes.{value_at}
use Rattle.ft_trace.specs.Unboxed.{unboxed_kind, unboxed_payload, with_value, unboxed_rows}
use Rattle.ft_trace.proofs.Unboxed.{value_apart}

set_twice : (l : List ℕ) (i a b : ℕ) → set (set l i a) i b ≡ set l i b
set_twice [] i a b = refl
set_twice (x ∷ l) zero a b = refl
set_twice (x ∷ l) (suc i) a b = ap (λ (r : List ℕ). x ∷ r) (set_twice l i a b)

-- a value put twice is the last one
pub with_twice : (p x y a b : ℕ) (t : List ℕ) → with_value p x y (with_value p a b t) ≡ with_value p x y t
with_twice p x y a b t =
    let one : set (set (set t p a) (suc p) b) p x ≡ set (set (set t p a) p x) (suc p) b = set_comm (set t p a) (suc p) p b x (λ z. omega (arith, z)) in
    let two : set (set t p a) p x ≡ set t p x = set_twice t p a x in
    ap (λ (l : List ℕ). set l (suc p) y) (one ∙ ap (λ (l : List ℕ). set l (suc p) b) two) ∙ set_twice (set t p x) (suc p) b y

-- two values that lie apart are put in either order
pub with_comm : (p q a b x y : ℕ) (t : List ℕ) → (suc p < q) ⊎ (suc q < p) → with_value q x y (with_value p a b t) ≡ with_value p a b (with_value q x y t)
with_comm p q a b x y t far =
    let a1 : suc p ≢ q = λ z. apart (λ h. omega (arith, z, h)) (λ h. omega (arith, z, h)) in
    let a2 : p ≢ q = λ z. apart (λ h. omega (arith, z, h)) (λ h. omega (arith, z, h)) in
    let a3 : suc p ≢ suc q = λ z. apart (λ h. omega (arith, z, h)) (λ h. omega (arith, z, h)) in
    let a4 : p ≢ suc q = λ z. apart (λ h. omega (arith, z, h)) (λ h. omega (arith, z, h)) in
    ap (λ (l : List ℕ). set l (suc q) y) (set_comm (set t p a) (suc p) q b x a1 ∙ ap (λ (l : List ℕ). set l (suc p) b) (set_comm t p q a x a2))
    ∙ (set_comm (set (set t q x) p a) (suc p) (suc q) b y a3
    ∙ ap (λ (l : List ℕ). set l (suc p) b) (set_comm (set t q x) p (suc q) a y a4))
  where
    apart : ((suc p < q) → ⊥) → ((suc q < p) → ⊥) → ⊥
    apart f g = ⊎_elim f g far

-- another word, and a value
pub with_other : (p i a b x : ℕ) (t : List ℕ) → i ≢ p → i ≢ suc p → with_value p a b (set t i x) ≡ set (with_value p a b t) i x
with_other p i a b x t n m =
    ap (λ (l : List ℕ). set l (suc p) b) (set_comm t i p x a n) ∙ set_comm (set t p a) i (suc p) x b m

module _ (box : ℕ → ℕ → ℕ) (kind : Kind) (class : ℕ) where
  abbrev Place : ℕ → ℕ
  Place p = value_at kind class p

  abbrev Rows : ℕ → List ℕ → List ℕ
  Rows n t = unboxed_rows box kind class n t

  places_apart : (p q : ℕ) → p ≢ q → (suc (Place p) < Place q) ⊎ (suc (Place q) < Place p)
  places_apart p q ne = dite (dec_lt p q) (λ less. inl (value_apart kind class p q less)) (λ no. inr (value_apart kind class q p (omega (arith, no, ne))))

  -- a word that lies elsewhere
  pub word_kept : (p q x y : ℕ) (t : List ℕ) → p ≢ q → (slice_index (with_value (Place p) x y t) (Place q) ≡ slice_index t (Place q)) × (slice_index (with_value (Place p) x y t) (suc (Place q)) ≡ slice_index t (suc (Place q)))
  word_kept p q x y t ne =
      let far = places_apart p q ne in
      let apart : ((suc (Place p) < Place q) → ⊥) → ((suc (Place q) < Place p) → ⊥) → ⊥ = λ f g. ⊎_elim f g far in
      let n1 : Place q ≢ suc (Place p) = λ z. apart (λ h. omega (arith, z, h)) (λ h. omega (arith, z, h)) in
      let n2 : Place q ≢ Place p = λ z. apart (λ h. omega (arith, z, h)) (λ h. omega (arith, z, h)) in
      let n3 : suc (Place q) ≢ suc (Place p) = λ z. apart (λ h. omega (arith, z, h)) (λ h. omega (arith, z, h)) in
      let n4 : suc (Place q) ≢ Place p = λ z. apart (λ h. omega (arith, z, h)) (λ h. omega (arith, z, h)) in (
        get_or-set_other (set t (Place p) x) (suc (Place p)) (Place q) y 0 n1 ∙ get_or-set_other t (Place p) (Place q) x 0 n2,
        get_or-set_other (set t (Place p) x) (suc (Place p)) (suc (Place q)) y 0 n3 ∙ get_or-set_other t (Place p) (suc (Place q)) x 0 n4,
      )

  -- the value of one row is put: the table reads what that value reads
  value_below : (n p x y : ℕ) (t : List ℕ) → n ≤ p → Rows n (with_value (Place p) x y t) ≡ with_value (Place p) x y (Rows n t)
  value_below zero p x y t low = refl
  value_below (suc q) p x y t low =
      let rest = value_below q p x y t (omega (arith, low)) in
      let same = word_kept p q x y t (λ z. omega (arith, z, low)) in
      let a : ℕ = unboxed_kind box (slice_index t (Place q)) (slice_index t (suc (Place q))) in
      let b : ℕ = unboxed_payload box (slice_index t (Place q)) (slice_index t (suc (Place q))) in
      (λ d. with_value (Place q) (unboxed_kind box (same.0 d) (same.1 d)) (unboxed_payload box (same.0 d) (same.1 d)) (rest d))
      ∙ with_comm (Place p) (Place q) x y a b (Rows q t) (places_apart p q (λ z. omega (arith, z, low)))

  pub value_put : (n p x y : ℕ) (t : List ℕ) → p < n → suc (Place p) < length t → Rows n (with_value (Place p) x y t) ≡ with_value (Place p) (unboxed_kind box x y) (unboxed_payload box x y) (Rows n t)
  value_put zero p x y t low long = absurd (omega (arith, low))
  value_put (suc q) p x y t low long =
      dite (ℕ_discrete p q)
      (λ (e : p ≡ q).
      let at_q : Rows (suc p) (with_value (Place p) x y t) ≡ with_value (Place p) (unboxed_kind box x y) (unboxed_payload box x y) (Rows (suc p) t) =
      (let rest = value_below p p x y t (omega arith) in
      let l : length (set t (Place p) x) ≡ length t = length-set t (Place p) x in
      let one : slice_index (with_value (Place p) x y t) (Place p) ≡ x = get_or-set_other (set t (Place p) x) (suc (Place p)) (Place p) y 0 (λ z. omega (arith, z)) ∙ get_or-set_same t (Place p) x 0 (omega (arith, long)) in
      let two : slice_index (with_value (Place p) x y t) (suc (Place p)) ≡ y = get_or-set_same (set t (Place p) x) (suc (Place p)) y 0 (omega (arith, l, long)) in
      let a : ℕ = unboxed_kind box x y in
      let b : ℕ = unboxed_payload box x y in
      let c : ℕ = unboxed_kind box (slice_index t (Place p)) (slice_index t (suc (Place p))) in
      let f : ℕ = unboxed_payload box (slice_index t (Place p)) (slice_index t (suc (Place p))) in
      (λ d. with_value (Place p) (unboxed_kind box (one d) (two d)) (unboxed_payload box (one d) (two d)) (rest d))
      ∙ (with_twice (Place p) a b x y (Rows p t) ∙ sym (with_twice (Place p) a b c f (Rows p t)))) in
      subst (λ (z : ℕ). Rows (suc z) (with_value (Place p) x y t) ≡ with_value (Place p) (unboxed_kind box x y) (unboxed_payload box x y) (Rows (suc z) t)) e at_q)
      (λ ne.
      let rest = value_put q p x y t (omega (arith, low, ne)) long in
      let same = word_kept p q x y t ne in
      let a : ℕ = unboxed_kind box (slice_index t (Place q)) (slice_index t (suc (Place q))) in
      let b : ℕ = unboxed_payload box (slice_index t (Place q)) (slice_index t (suc (Place q))) in
      (λ d. with_value (Place q) (unboxed_kind box (same.0 d) (same.1 d)) (unboxed_payload box (same.0 d) (same.1 d)) (rest d))
      ∙ with_comm (Place p) (Place q) (unboxed_kind box x y) (unboxed_payload box x y) a b (Rows q t) (places_apart p q ne))

  -- a word that is no value's
  pub word_put : (n i x : ℕ) (t : List ℕ) → ((q : ℕ) → q < n → (i ≢ Place q) × (i ≢ suc (Place q))) → Rows n (set t i x) ≡ set (Rows n t) i x
  word_put zero i x t far = refl
  word_put (suc q) i x t far =
      let rest = word_put q i x t (λ r less. far r (omega (arith, less))) in
      let n = far q (omega arith) in
      let one : slice_index (set t i x) (Place q) ≡ slice_index t (Place q) = get_or-set_other t i (Place q) x 0 (λ z. n.0 (sym z)) in
      let two : slice_index (set t i x) (suc (Place q)) ≡ slice_index t (suc (Place q)) = get_or-set_other t i (suc (Place q)) x 0 (λ z. n.1 (sym z)) in
      let a : ℕ = unboxed_kind box (slice_index t (Place q)) (slice_index t (suc (Place q))) in
      let b : ℕ = unboxed_payload box (slice_index t (Place q)) (slice_index t (suc (Place q))) in
      (λ d. with_value (Place q) (unboxed_kind box (one d) (two d)) (unboxed_payload box (one d) (two d)) (rest d))
      ∙ with_other (Place q) i a b x (Rows q t) n.0 n.1
