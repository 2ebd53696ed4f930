-- Views in which one changed, and the sizes.
use Rattle.std.proofs.Common.{◌≡◌, ◌≢◌, ◌⊎◌, ℕ, zero, suc, List, [], ◌∷◌, ◌++◌, length, set, refl, sym, ap, subst, inl, inr, ⊎_elim}
use mathlib.Core.Option.{some, some-ne-none, some-injective}
use lib.ListN.{get_elem?}
use Rattle.atomic_table.proofs.Lists.{at_set}
use Rattle.ft_trace.specs.declared.Shape.{Shape}
use Rattle.ft_trace.specs.declared.View.{View}
use Rattle.ft_trace.specs.Acts.{starter, view_after, maker, made, both, spent, sender, note}
use Rattle.ft_trace.specs.Traces.{Event, did, forked, joined, sent, run, Valid}

at_end : (l : List View) (a b : View) (j : ℕ) → get_elem? (l ++ a ∷ []) j ≡ some b → (get_elem? l j ≡ some b) ⊎ ((j ≡ length l) × (a ≡ b))
at_end [] a b zero e = inr (refl, some-injective a b e)
at_end [] a b (suc j) e = absurd (some-ne-none b (sym e))
at_end (x ∷ xs) a b zero e = inl e
at_end (x ∷ xs) a b (suc j) e = ⊎_elim inl (λ (t : (j ≡ length xs) × (a ≡ b)). inr (ap suc t.0, t.1)) (at_end xs a b j e)

module _ (P : ℕ → View → Type 0) (views : List View) where
  -- the other views stay
  abbrev pub Others : ℕ → Type 0
  Others id = (j : ℕ) (u : View) → j ≢ id → get_elem? views j ≡ some u → P j u

  pub set_views : (id : ℕ) (w : View) → P id w → Others id → (j : ℕ) (u : View) → get_elem? (set views id w) j ≡ some u → P j u
  set_views id w mine others j u e =
      ⊎_elim
      (λ (x : (j ≡ id) × (w ≡ u)). subst (λ (y : ℕ × View). P y.0 y.1) (λ i. (sym x.0 i, x.1 i)) mine)
      (λ (x : (j ≢ id) × (get_elem? views j ≡ some u)). others j u x.0 x.1)
      (at_set views id j w u e)

  pub one_more : (w : View) → P (length views) w → ((j : ℕ) (u : View) → get_elem? views j ≡ some u → P j u) → (j : ℕ) (u : View) → get_elem? (views ++ w ∷ []) j ≡ some u → P j u
  one_more w mine others j u e = ⊎_elim (λ was. others j u was) (λ (x : (j ≡ length views) × (w ≡ u)). subst (λ (y : ℕ × View). P y.0 y.1) (λ i. (sym x.0 i, x.1 i)) mine) (at_end views w u j e)

pub one_view : (P : ℕ → View → Type 0) (w : View) → P 0 w → (j : ℕ) (u : View) → get_elem? (w ∷ []) j ≡ some u → P j u
one_view P w mine zero u e = subst (P 0) (some-injective w u e) mine
one_view P w mine (suc j) u e = absurd (some-ne-none u (sym e))

-- a live view knows how many containers there are
pub sized : (k : Shape) (es : List Event) → Valid k es → (j : ℕ) (u : View) → get_elem? (run k es).views j ≡ some u → u.number ≢ 0 → u.shape ≡ k
sized k [] valid = one_view (λ j u. u.number ≢ 0 → u.shape ≡ k) (starter k) (λ _. refl)
sized k (did id v a ∷ es) valid = set_views (λ j u. u.number ≢ 0 → u.shape ≡ k) _ id (view_after a v) (λ live. sized k es valid.0 id v valid.1.0 live) (λ j u _ e. sized k es valid.0 j u e)
sized k (forked id v ∷ es) valid =
    one_more (λ j u. u.number ≢ 0 → u.shape ≡ k) _ (made v) (λ live. sized k es valid.0 id v valid.1.0 valid.1.1)
    (set_views (λ j u. u.number ≢ 0 → u.shape ≡ k) _ id (maker v) (λ live. sized k es valid.0 id v valid.1.0 live) (λ j u _ e. sized k es valid.0 j u e))
sized k (sent id v given ∷ es) valid =
    one_more (λ j u. u.number ≢ 0 → u.shape ≡ k) _ (note given v) (λ live. absurd (live refl))
    (set_views (λ j u. u.number ≢ 0 → u.shape ≡ k) _ id (sender given v) (λ live. sized k es valid.0 id v valid.1.0 live) (λ j u _ e. sized k es valid.0 j u e))
sized k (joined id v other w ∷ es) valid =
    set_views (λ j u. u.number ≢ 0 → u.shape ≡ k) _ other spent (λ live. absurd (live refl))
    (λ j u _. set_views (λ j u. u.number ≢ 0 → u.shape ≡ k) _ id (both v w) (λ live. sized k es valid.0 id v valid.1.0 live) (λ j u _ e. sized k es valid.0 j u e) j u)

pub set_at : {A : Type 0} (l : List A) (i : ℕ) (a b : A) → get_elem? l i ≡ some a → get_elem? (set l i b) i ≡ some b
set_at [] i a b e = absurd (some-ne-none a (sym e))
set_at (x ∷ xs) zero a b e = refl
set_at (x ∷ xs) (suc i) a b e = set_at xs i a b e
