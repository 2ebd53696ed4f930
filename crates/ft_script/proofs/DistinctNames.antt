-- A name or a string that is added differs from those that stand above.
use Rattle.std.proofs.Common.{◌≡◌, ◌≢◌, ℕ, ◌<◌, Bool, false, List, [], ◌∷◌, ◌++◌, length, get_or, Some, None, sym, ◌∙◌, inl, inr, arith}
use Rattle.std.specs.Prelude.{All, AllPairs}
use Rattle.std.specs.List.{position, position_or_len}
use Rattle.std.specs.Str.{bytes_eq}
use Rattle.std.specs.Cmp.Lexicographic.{bytes_decides}
use Rattle.std.proofs.lemmas.Bool.{cases_lt, lt-ltb, le-ltb, false≢true}
use Rattle.std.proofs.lemmas.List.Quantifiers.{all_pairs_push}
use Rattle.std.proofs.lemmas.List.Sums.{fails_before_first}

-- no element passes where none has a place
pub missing : {X : Type 0} (p : X → Bool) (xs : List X) → position p xs ≡ None → All (λ x. p x ≡ false) xs
missing p xs none =
    elim (cases_lt (position_or_len p xs) (length xs)) [
      | inl lt ↦ absurd (let some : Some (position_or_len p xs) ≡ None = rw (lt-ltb _ _ lt) at none in cc)
      | inr le ↦ λ k d low. fails_before_first p xs k d (omega arith)
    ]

module _ {X : Type 0} (name : X → List ℕ) where
  -- where no such name stands above, all others differ
  pub absent : (xs : List X) (new : List ℕ) → position (λ x. bytes_eq (name x) new) xs ≡ None → All (λ x. name x ≢ new) xs
  absent xs new none k d low same =
      false≢true (sym (missing (λ x. bytes_eq (name x) new) xs none k d low) ∙ (bytes_decides (name (get_or xs k d)) new).1 same)

  pub absent_text : (xs : List X) (new : List ℕ) → position (λ x. bytes_eq new (name x)) xs ≡ None → All (λ x. name x ≢ new) xs
  absent_text xs new none k d low same =
      false≢true (sym (missing (λ x. bytes_eq new (name x)) xs none k d low) ∙ (bytes_decides new (name (get_or xs k d))).1 (sym same))

  pub differ_push : (xs : List X) (x : X) → AllPairs (λ a b. name a ≢ name b) xs → All (λ y. name y ≢ name x) xs → AllPairs (λ a b. name a ≢ name b) (xs ++ x ∷ [])
  differ_push xs x differ others = all_pairs_push (λ a b. name a ≢ name b) xs x differ (λ k d low. others k d low)

-- a place that was found is within the list
pub place_within : {X : Type 0} (p : X → Bool) (xs : List X) (n : ℕ) → position p xs ≡ Some n → n < length xs
place_within p xs n found =
    elim (cases_lt (position_or_len p xs) (length xs)) [
      | inl lt ↦ (let some : Some (position_or_len p xs) ≡ Some n = rw (lt-ltb _ _ lt) at found in let same : position_or_len p xs ≡ n = cc in omega arith)
      | inr le ↦ absurd (let none : None ≡ Some n = rw (le-ltb _ _ le) at found in cc)
    ]
