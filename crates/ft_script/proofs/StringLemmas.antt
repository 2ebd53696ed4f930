-- A table's strings by their numbers.
use Rattle.std.proofs.Common.{◌≡◌, ℕ, ◌+◌, Bool, false, not, eqb, cond, List, [], ◌∷◌, ◌++◌, map, Option, None, refl, sym, ap, ◌∙◌}
use Rattle.std.specs.List.{position, prefix_len, list_any}
use Rattle.std.specs.Cmp.Lexicographic.{pointwise}
use Rattle.std.proofs.lemmas.List.{length-map, map-append}
use Rattle.std.proofs.lemmas.List.Folds.{list_any_none}
use Rattle.ft_script.specs.Drafts.{text_place}
use Rattle.ft_script.proofs.DistinctNames.{missing}

module _ {X : Type 0} (bytes : X → List ℕ) (text : List ℕ) where
  abbrev is_text : X → Bool
  is_text x = pointwise eqb text (bytes x)

  first-map : (xs : List X) → prefix_len (λ (other : List ℕ). not (pointwise eqb text other)) (map bytes xs) ≡ prefix_len (λ (x : X). not (is_text x)) xs
  first-map [] = refl
  first-map (x ∷ xs) = ap (λ (n : ℕ). cond (not (is_text x)) (1 + n) 0) (first-map xs)

  place-map : (xs : List X) → text_place (map bytes xs) text ≡ position is_text xs
  place-map xs = rw (first-map xs, length-map xs bytes) refl

  pub place_found : (found : Option ℕ) (xs : List X) (table : List (List ℕ)) → found ≡ position is_text xs → map bytes xs ≡ table → found ≡ text_place table text
  place_found found xs table is same = is ∙ sym (place-map xs) ∙ ap (λ (l : List (List ℕ)). text_place l text) same

  pub added : (xs ys : List X) (y : X) (table : List (List ℕ)) → text_place table text ≡ None → map bytes xs ≡ table → bytes y ≡ text
      → ys ≡ cond (list_any (λ x. pointwise eqb (bytes y) (bytes x)) xs) xs (xs ++ y ∷ []) → map bytes ys ≡ table ++ text ∷ []
  added xs ys y table absent same own grown =
      let none : position is_text xs ≡ None = sym (place-map xs) ∙ ap (λ (l : List (List ℕ)). text_place l text) same ∙ absent in
      let fails : list_any is_text xs ≡ false = list_any_none is_text xs (missing is_text xs none) in
      let longer : ys ≡ xs ++ y ∷ [] = rw (own, fails) at grown in
      ap (map bytes) longer ∙ map-append bytes xs (y ∷ []) ∙ ap (λ (l : List (List ℕ)). l ++ bytes y ∷ []) same ∙ ap (λ (t : List ℕ). table ++ t ∷ []) own
