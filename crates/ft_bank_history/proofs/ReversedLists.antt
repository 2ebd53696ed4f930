-- Lists that are turned round, and what holds of all of their elements.
use Rattle.std.proofs.Common.{◌≡◌, ℕ, zero, suc, Bool, true, false, List, [], ◌∷◌, ◌++◌, map, reverse, take, drop, refl, sym, ap, ◌∙◌, subst, append_assoc}
use Rattle.std.specs.Prelude.{All, ◌||◌, Some, slice_get}
use Rattle.std.specs.List.{list_any}
use Rattle.std.proofs.lemmas.List.Elements.{All-nil, All-cons, All-head, All-tail}
use Rattle.std.proofs.lemmas.List.Folds.{list_any-append}
use Rattle.std.proofs.lemmas.List.{map-append}
use mathlib.Core.List.{reverse-cons}

module _ {A : Type 0} where
  pub at_split : (xs : List A) (i : ℕ) (x : A) → slice_get xs i ≡ Some x → xs ≡ take i xs ++ x ∷ drop (suc i) xs
  at_split [] i x e = absurd (cc)
  at_split (y ∷ ys) zero x e = ap (λ z. z ∷ ys) (let same : y ≡ x = cc in same)
  at_split (y ∷ ys) (suc i) x e = ap (λ l. y ∷ l) (at_split ys i x e)

  pub all_parts : (P : A → Type 0) (xs ys : List A) → All P (xs ++ ys) → All P xs × All P ys
  all_parts P [] ys all = (All-nil P, all)
  all_parts P (x ∷ xs) ys all = let r = all_parts P xs ys (All-tail P x (xs ++ ys) all) in (All-cons P x xs (All-head P x (xs ++ ys) all) r.0, r.1)

  pub all_at : (P : A → Type 0) (xs : List A) (i : ℕ) (x : A) → slice_get xs i ≡ Some x → All P xs → P x
  all_at P xs i x e all = All-head P x (drop (suc i) xs) (all_parts P (take i xs) (x ∷ drop (suc i) xs) (subst (All P) (at_split xs i x e) all)).1

module _ {A B : Type 0} (f : A → B) where
  -- turned round, one element first
  pub turned : (x : A) (xs : List A) (ys : List B) → reverse (map f (x ∷ xs)) ++ ys ≡ reverse (map f xs) ++ f x ∷ ys
  turned x xs ys = ap (λ l. l ++ ys) (reverse-cons (f x) (map f xs)) ∙ append_assoc (reverse (map f xs)) (f x ∷ []) ys

  pub all_back : (P : B → Type 0) (xs : List A) → All P (reverse (map f xs)) → All (λ x. P (f x)) xs
  all_back P [] all = All-nil (λ x. P (f x))
  all_back P (x ∷ xs) all =
      let r = all_parts P (reverse (map f xs)) (f x ∷ []) (subst (All P) (reverse-cons (f x) (map f xs)) all) in
      All-cons (λ x. P (f x)) x xs (All-head P (f x) [] r.1) (all_back P xs r.0)

  pub any_back : (test : B → Bool) (xs : List A) → list_any test (reverse (map f xs)) ≡ true → list_any (λ x. test (f x)) xs ≡ true
  any_back test [] e = e
  any_back test (x ∷ xs) e =
      let there : (list_any test (reverse (map f xs)) || (test (f x) || false)) ≡ true = sym (ap (list_any test) (reverse-cons (f x) (map f xs)) ∙ list_any-append test (reverse (map f xs)) (f x ∷ [])) ∙ e in
      by (test (f x)) (list_any test (reverse (map f xs))) there (any_back test xs)
    where
      by : (b c : Bool) → (c || (b || false)) ≡ true → (c ≡ true → list_any (λ x. test (f x)) xs ≡ true) → (b || list_any (λ x. test (f x)) xs) ≡ true
      by true c e more = refl
      by false true e more = more refl
      by false false e more = absurd (cc)

  pub map_back : (xs : List A) → map f (reverse xs) ≡ reverse (map f xs)
  map_back [] = refl
  map_back (x ∷ xs) =
      ap (map f) (reverse-cons x xs) ∙ (map-append f (reverse xs) (x ∷ []) ∙ (ap (λ l. l ++ f x ∷ []) (map_back xs) ∙ sym (reverse-cons (f x) (map f xs))))
