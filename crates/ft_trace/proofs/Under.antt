-- What a content has under a key, in words.
use Rattle.std.proofs.Common.{◌≡◌, suc, zero, Bool, true, false, List, [], ◌∷◌, ◌++◌, Some, None, refl, ap, ◌∙◌, arith, cond}
use Rattle.std.specs.Prelude.{All}
use Rattle.std.specs.List.{find}

module _ {A : Type 0} (is : A → Bool) where
  rest_of : (x : A) (xs : List A) → All (λ other. is other ≡ false) (x ∷ xs) → All (λ other. is other ≡ false) xs
  rest_of x xs all i d low = all (suc i) d (omega arith)

  first_of : (x : A) (xs : List A) → All (λ other. is other ≡ false) (x ∷ xs) → is x ≡ false
  first_of x xs all = all zero x (omega arith)

  skip : (x : A) (xs : List A) → is x ≡ false → find is (x ∷ xs) ≡ find is xs
  skip x xs fails = ap (λ (b : Bool). cond b (Some x) (find is xs)) fails

  pub find_first : (before : List A) (x : A) (after : List A) → All (λ other. is other ≡ false) before → is x ≡ true → find is (before ++ x ∷ after) ≡ Some x
  find_first [] x after none hits = ap (λ (b : Bool). cond b (Some x) (find is after)) hits
  find_first (y ∷ ys) x after none hits = skip y (ys ++ x ∷ after) (first_of y ys none) ∙ find_first ys x after (rest_of y ys none) hits

  pub find_none : (xs : List A) → All (λ other. is other ≡ false) xs → find is xs ≡ None
  find_none [] none = refl
  find_none (y ∷ ys) none = skip y ys (first_of y ys none) ∙ find_none ys (rest_of y ys none)
