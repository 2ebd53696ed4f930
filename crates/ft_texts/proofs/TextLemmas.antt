-- Texts that are looked for and added.
use Rattle.std.proofs.Common.{◌≡◌, ℕ, ◌+◌, ◌<◌, Bool, true, false, not, eqb, cond, List, [], ◌∷◌, ◌++◌, map, length, Option, Some, None, inl, inr, arith, refl, sym, ap, ◌∙◌}
use Rattle.std.specs.Prelude.{All}
use Rattle.std.specs.List.{position, position_or_len, prefix_len, list_any}
use Rattle.std.specs.Cmp.Lexicographic.{bytes_decides, pointwise}
use Rattle.std.specs.Str.{bytes_eq}
use Rattle.std.proofs.lemmas.List.{length-map, length_push, map-append}
use Rattle.std.proofs.lemmas.Bool.{cases_lt, lt-ltb}
use Rattle.std.proofs.lemmas.List.Folds.{list_any_none, position_or_len_push}
use Rattle.std.proofs.lemmas.List.Sums.{prefix_len-le-length}
use Rattle.std.proofs.lemmas.List.Sums.{fails_before_first}
use Rattle.ft_texts.specs.Numbered.{text_place}

-- all fail where none has a place
missing : {X : Type 0} (p : X → Bool) (xs : List X) → position p xs ≡ None → All (λ x. p x ≡ false) xs
missing p xs none =
    elim (cases_lt (position_or_len p xs) (length xs)) [
      | inl lt ↦ absurd (let some : Some (position_or_len p xs) ≡ None = rw (lt-ltb _ _ lt) at none in cc)
      | inr le ↦ λ k d low. fails_before_first p xs k d (omega arith)
    ]

-- what goes last has the last place where it had none
placed : {X : Type 0} (p : X → Bool) (xs : List X) (y : X) → p y ≡ true → position p xs ≡ None → position p (xs ++ y ∷ []) ≡ Some (length xs)
placed p xs y is none =
    elim (cases_lt (position_or_len p xs) (length xs)) [
      | inl lt ↦ absurd (let some : Some (position_or_len p xs) ≡ None = rw (lt-ltb _ _ lt) at none in cc)
      | inr le ↦
          let most = prefix_len-le-length (λ x. not (p x)) xs in
          let all : position_or_len p xs ≡ length xs = omega (arith, le, most) in
          let long : length (xs ++ y ∷ []) ≡ length xs + 1 = length_push xs y in
          let pushed = position_or_len_push p xs y in
          let same : position_or_len p (xs ++ y ∷ []) ≡ length xs = (let q = rw (is, all) at pushed in grind (arith, q)) in
          let lower : length xs < length (xs ++ y ∷ []) = omega (arith, long) in
          rw (same, lt-ltb _ _ lower) refl
    ]

pub text_placed : (texts : List (List ℕ)) (text : List ℕ) → text_place texts text ≡ None → text_place (texts ++ text ∷ []) text ≡ Some (length texts)
text_placed texts text none = placed (λ other. bytes_eq text other) texts text ((bytes_decides text text).1 refl) none

module _ {X : Type 0} (bytes : X → List ℕ) (text : List ℕ) where
  abbrev is_text : X → Bool
  is_text x = pointwise eqb text (bytes x)

  first-map : (xs : List X) → prefix_len (λ (other : List ℕ). not (pointwise eqb text other)) (map bytes xs) ≡ prefix_len (λ (x : X). not (is_text x)) xs
  first-map [] = refl
  first-map (x ∷ xs) = ap (λ (n : ℕ). cond (not (is_text x)) (1 + n) 0) (first-map xs)

  place-map : (xs : List X) → text_place (map bytes xs) text ≡ position is_text xs
  place-map xs = rw (first-map xs, length-map xs bytes) refl

  pub place_found : (found : Option ℕ) (xs : List X) (table : List (List ℕ)) → found ≡ position is_text xs → map bytes xs ≡ table → found ≡ text_place table text
  place_found found xs table is same = is ∙ sym (place-map xs) ∙ ap (λ (l : List (List ℕ)). text_place l text) same

  pub added : (xs ys : List X) (y : X) (table : List (List ℕ)) → text_place table text ≡ None → map bytes xs ≡ table → bytes y ≡ text
      → ys ≡ cond (list_any (λ x. pointwise eqb (bytes y) (bytes x)) xs) xs (xs ++ y ∷ []) → map bytes ys ≡ table ++ text ∷ []
  added xs ys y table absent same own grown =
      let none : position is_text xs ≡ None = sym (place-map xs) ∙ ap (λ (l : List (List ℕ)). text_place l text) same ∙ absent in
      let fails : list_any is_text xs ≡ false = list_any_none is_text xs (missing is_text xs none) in
      let longer : ys ≡ xs ++ y ∷ [] = rw (own, fails) at grown in
      ap (map bytes) longer ∙ map-append bytes xs (y ∷ []) ∙ ap (λ (l : List (List ℕ)). l ++ bytes y ∷ []) same ∙ ap (λ (t : List ℕ). table ++ t ∷ []) own
