-- Lists of tokens, and what stands before and after a word in them.
use Rattle.std.proofs.Common.{◌≡◌, ℕ, ◌+◌, ◌-◌, ◌≤◌, Bool, true, cond, not, List, [], ◌∷◌, ◌++◌, length, take, drop, map, Some, None, Bor, refl, sym, ap, ◌∙◌, inl, inr, arith}
use Rattle.std.specs.List.{position, position_or_len, list_all, before_first, after_first}
use Rattle.std.specs.Str.{bytes_eq}
use Rattle.std.proofs.Math.ListN.{drop_of_length-le}
use Rattle.std.proofs.Math.Seq.{take-append_seam, drop-append-add, take-length}
use Rattle.std.proofs.lemmas.Bool.{cases_lt, lt-ltb, le-ltb, and_parts}
use Rattle.std.proofs.lemmas.List.{length-map, length-drop, take_all, take-map, drop-map}
use Rattle.ft_script.specs.Internal.Tokens.{before_word, after_word}

abbrev pub shown : List (Bor (List ℕ)) → List (List ℕ)
shown tokens = map (λ (token : Bor (List ℕ)). token.now) tokens

module _ (word : List ℕ) where
  abbrev is_it : Bor (List ℕ) → Bool
  is_it token = bytes_eq token.now word

  same_place : (tokens : List (Bor (List ℕ))) → position_or_len (λ (t : List ℕ). bytes_eq t word) (shown tokens) ≡ position_or_len is_it tokens
  same_place [] = refl
  same_place (token ∷ tokens) = ap (λ (n : ℕ). cond (not (is_it token)) (1 + n) 0) (same_place tokens)

  place_is : (tokens : List (Bor (List ℕ))) (place : ℕ) → position is_it tokens ≡ Some place → position_or_len (λ (t : List ℕ). bytes_eq t word) (shown tokens) ≡ place
  place_is tokens place found =
      elim (cases_lt (position_or_len is_it tokens) (length tokens)) [
        | inl lt ↦
            let some : Some (position_or_len is_it tokens) ≡ Some place = rw (lt-ltb _ _ lt) at found in
            let e : position_or_len is_it tokens ≡ place = cc in
            same_place tokens ∙ e
        | inr le ↦ absurd (let none : None ≡ Some place = rw (le-ltb _ _ le) at found in cc)
      ]

  no_place : (tokens : List (Bor (List ℕ))) → position is_it tokens ≡ None → length tokens ≤ position_or_len (λ (t : List ℕ). bytes_eq t word) (shown tokens)
  no_place tokens missing =
      elim (cases_lt (position_or_len is_it tokens) (length tokens)) [
        | inl lt ↦ absurd (let some : Some (position_or_len is_it tokens) ≡ None = rw (lt-ltb _ _ lt) at missing in cc)
        | inr le ↦ let e = same_place tokens in omega arith
      ]

  pub before_found : (tokens : List (Bor (List ℕ))) (place : ℕ) → position is_it tokens ≡ Some place → shown (take place tokens) ≡ before_word word (shown tokens)
  before_found tokens place found = sym (take-map (λ (t : Bor (List ℕ)). t.now) place tokens) ∙ ap (λ (n : ℕ). take n (shown tokens)) (sym (place_is tokens place found))

  pub after_found : (tokens : List (Bor (List ℕ))) (place : ℕ) → position is_it tokens ≡ Some place → shown (take (length tokens - (place + 1)) (drop (place + 1) tokens)) ≡ after_word word (shown tokens)
  after_found tokens place found =
      ap shown (take_all (length tokens - (place + 1)) (drop (place + 1) tokens) (omega (arith, length-drop (place + 1) tokens)))
      ∙ sym (drop-map (λ (t : Bor (List ℕ)). t.now) (place + 1) tokens) ∙ ap (λ (n : ℕ). drop (n + 1) (shown tokens)) (sym (place_is tokens place found))

  pub before_missing : (tokens : List (Bor (List ℕ))) → position is_it tokens ≡ None → shown tokens ≡ before_word word (shown tokens)
  before_missing tokens missing =
      let long = no_place tokens missing in
      sym (take_all _ (shown tokens) (omega (arith, length-map tokens (λ (t : Bor (List ℕ)). t.now))))

  pub after_missing : (tokens : List (Bor (List ℕ))) → position is_it tokens ≡ None → shown (take (length tokens - length tokens) (drop (length tokens) tokens)) ≡ after_word word (shown tokens)
  after_missing tokens missing =
      let long = no_place tokens missing in
      let nothing : take (length tokens - length tokens) (drop (length tokens) tokens) ≡ [] = ap (take (length tokens - length tokens)) (drop_of_length-le tokens (omega arith)) ∙ take_all _ [] (omega arith) in
      ap shown nothing ∙ sym (drop_of_length-le (shown tokens) (omega (arith, length-map tokens (λ (t : Bor (List ℕ)). t.now))))

-- ---- where the first that passes stands

module _ {X : Type 0} (p : X → Bool) where
  abbrev pub AllFail : List X → Type 0
  AllFail xs = list_all (λ x. not (p x)) xs ≡ true

  nowhere : (front : List X) → AllFail front → position_or_len p front ≡ length front
  nowhere [] none = refl
  nowhere (x ∷ front) none =
      let parts = and_parts (not (p x)) (list_all (λ y. not (p y)) front) none in
      rw parts.0 (omega (arith, nowhere front parts.1))

  first_at : (front : List X) (x : X) (back : List X) → AllFail front → p x ≡ true → position_or_len p (front ++ x ∷ back) ≡ length front
  first_at [] x back none is = rw is refl
  first_at (y ∷ front) x back none is =
      let parts = and_parts (not (p y)) (list_all (λ z. not (p z)) front) none in
      rw parts.0 (omega (arith, first_at front x back parts.1 is))

  pub before_at : (front : List X) (x : X) (back : List X) → AllFail front → p x ≡ true → before_first p (front ++ x ∷ back) ≡ front
  before_at front x back none is = ap (λ (n : ℕ). take n (front ++ x ∷ back)) (first_at front x back none is) ∙ take-append_seam front (x ∷ back)

  pub after_at : (front : List X) (x : X) (back : List X) → AllFail front → p x ≡ true → after_first p (front ++ x ∷ back) ≡ back
  after_at front x back none is = ap (λ (n : ℕ). drop (n + 1) (front ++ x ∷ back)) (first_at front x back none is) ∙ drop-append-add front (x ∷ back) 1

  pub before_none : (front : List X) → AllFail front → before_first p front ≡ front
  before_none front none = ap (λ (n : ℕ). take n front) (nowhere front none) ∙ take-length front

  pub after_none : (front : List X) → AllFail front → after_first p front ≡ []
  after_none front none = ap (λ (n : ℕ). drop (n + 1) front) (nowhere front none) ∙ drop_of_length-le front (omega arith)

  place_of_first : (xs : List X) (i : ℕ) → position p xs ≡ Some i → position_or_len p xs ≡ i
  place_of_first xs i found =
      elim (cases_lt (position_or_len p xs) (length xs)) [
        | inl lt ↦ (let some : Some (position_or_len p xs) ≡ Some i = rw (lt-ltb _ _ lt) at found in cc)
        | inr le ↦ absurd (let none : None ≡ Some i = rw (le-ltb _ _ le) at found in cc)
      ]

  no_first : (xs : List X) → position p xs ≡ None → length xs ≤ position_or_len p xs
  no_first xs missing =
      elim (cases_lt (position_or_len p xs) (length xs)) [
        | inl lt ↦ absurd (let some : Some (position_or_len p xs) ≡ None = rw (lt-ltb _ _ lt) at missing in cc)
        | inr le ↦ le
      ]

  pub before_some : (xs : List X) (i : ℕ) → position p xs ≡ Some i → take i xs ≡ before_first p xs
  before_some xs i found = ap (λ (n : ℕ). take n xs) (sym (place_of_first xs i found))

  pub after_some : (xs : List X) (i : ℕ) → position p xs ≡ Some i → take (length xs - (i + 1)) (drop (i + 1) xs) ≡ after_first p xs
  after_some xs i found = take_all (length xs - (i + 1)) (drop (i + 1) xs) (omega (arith, length-drop (i + 1) xs)) ∙ ap (λ (n : ℕ). drop (n + 1) xs) (sym (place_of_first xs i found))

  pub before_no : (xs : List X) → position p xs ≡ None → xs ≡ before_first p xs
  before_no xs missing = sym (take_all (position_or_len p xs) xs (no_first xs missing))

  pub after_no : (xs : List X) → position p xs ≡ None → take (length xs - length xs) (drop (length xs) xs) ≡ after_first p xs
  after_no xs missing =
      let long : length xs ≤ position_or_len p xs = no_first xs missing in
      take_all (length xs - length xs) (drop (length xs) xs) (omega (arith, length-drop (length xs) xs)) ∙ drop_of_length-le xs (omega arith) ∙ sym (drop_of_length-le xs (omega arith))

-- what stands after the first two of some tokens
pub after_two : (tokens : List (Bor (List ℕ))) → drop 2 (shown tokens) ≡ shown (take (length tokens - 2) (drop 2 tokens))
after_two tokens = drop-map (λ (t : Bor (List ℕ)). t.now) 2 tokens ∙ ap shown (sym (take_all (length tokens - 2) (drop 2 tokens) (omega (arith, length-drop 2 tokens))))
