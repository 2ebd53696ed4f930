-- Cutting a text into lines and a line into words.
use Rattle.std.proofs.Common.{◌≡◌, ℕ, ◌+◌, ◌-◌, ◌<◌, Bool, true, false, eqb, cond, List, [], ◌∷◌, ◌++◌, length, take, drop, Some, None, refl, sym, ap, ◌∙◌, inl, inr, arith}
use Rattle.std.specs.Prelude.{All}
use Rattle.std.specs.List.{position, position_or_len, before_first, after_first}
use Rattle.std.proofs.lemmas.Bool.{cases_lt, lt-ltb, le-ltb}
use Rattle.std.proofs.lemmas.List.{take_all, length-drop}
use Rattle.std.proofs.lemmas.List.Elements.{All-head, All-tail}
use Rattle.std.proofs.lemmas.List.Sums.{fails_before_first, passes_at_first, split_at_first}
use Rattle.std.proofs.lemmas.Grind.{common_steps}
use Rattle.ft_script.specs.Lines.{with_first, lines_of}

abbrev is_feed : ℕ → Bool
is_feed b = eqb b 10

pub lines_cons : (b : ℕ) (bytes : List ℕ) (is : Bool) → eqb b 10 ≡ is → lines_of (b ∷ bytes) ≡ cond is ([] ∷ lines_of bytes) (with_first b (lines_of bytes))
unfolding lines_of
lines_cons b bytes is same = rw same refl

pub no_lines : lines_of [] ≡ []
unfolding lines_of
no_lines = refl

-- a line ends at the first feed
lines_at : (front : List ℕ) (feed : ℕ) (rest : List ℕ) → All (λ b. is_feed b ≡ false) front → is_feed feed ≡ true → lines_of (front ++ feed ∷ rest) ≡ front ∷ lines_of rest
lines_at [] feed rest none is = lines_cons feed rest true is
lines_at (b ∷ front) feed rest none is =
    lines_cons b (front ++ feed ∷ rest) false (All-head (λ b. is_feed b ≡ false) b front none)
    ∙ ap (with_first b) (lines_at front feed rest (All-tail (λ b. is_feed b ≡ false) b front none) is)

-- where there is none, the text is the last line
lines_last : (b : ℕ) (bytes : List ℕ) → All (λ b. is_feed b ≡ false) (b ∷ bytes) → lines_of (b ∷ bytes) ≡ (b ∷ bytes) ∷ []
lines_last b [] none = lines_cons b [] false (All-head (λ b. is_feed b ≡ false) b [] none) ∙ ap (with_first b) no_lines
lines_last b (c ∷ bytes) none =
    lines_cons b (c ∷ bytes) false (All-head (λ b. is_feed b ≡ false) b (c ∷ bytes) none)
    ∙ ap (with_first b) (lines_last c bytes (All-tail (λ b. is_feed b ≡ false) b (c ∷ bytes) none))

lines_first : (xs : List ℕ) → position_or_len is_feed xs < length xs → lines_of xs ≡ before_first is_feed xs ∷ lines_of (after_first is_feed xs)
lines_first xs low =
    let front : All (λ x. is_feed x ≡ false) (before_first is_feed xs) = λ k e m. let k' = fails_before_first is_feed xs k e (grind (arith, common_steps)) in grind (arith, common_steps) in
    ap lines_of (split_at_first is_feed xs 0 low) ∙ lines_at (before_first is_feed xs) _ (after_first is_feed xs) front (passes_at_first is_feed xs 0 low)

rest_all : (xs : List ℕ) (i : ℕ) → take (length xs - i) (drop i xs) ≡ drop i xs
rest_all xs i = take_all _ _ (omega (arith, length-drop i xs))

pub line_found : (i : ℕ) (xs : List ℕ) → position is_feed xs ≡ Some i → lines_of xs ≡ take i xs ∷ lines_of (take (length xs - (i + 1)) (drop (i + 1) xs))
line_found i xs found =
    elim (cases_lt (position_or_len is_feed xs) (length xs)) [
      | inl lt ↦
          let some : Some (position_or_len is_feed xs) ≡ Some i = rw (lt-ltb _ _ lt) at found in
          let same : position_or_len is_feed xs ≡ i = cc in
          let e : lines_of xs ≡ take (position_or_len is_feed xs) xs ∷ lines_of (drop (position_or_len is_feed xs + 1) xs) = lines_first xs lt in
          rw (rest_all xs (i + 1)) (rw same at e)
      | inr le ↦ absurd (let none : None ≡ Some i = rw (le-ltb _ _ le) at found in cc)
    ]

pub line_missing : (xs : List ℕ) → 0 < length xs → position is_feed xs ≡ None → lines_of xs ≡ xs ∷ lines_of (take (length xs - length xs) (drop (length xs) xs))
line_missing [] some missing = absurd (omega arith)
line_missing (b ∷ bytes) some missing =
    let xs : List ℕ = b ∷ bytes in
    let nothing : take (length xs - length xs) (drop (length xs) xs) ≡ [] = grind (arith, common_steps) in
    elim (cases_lt (position_or_len is_feed xs) (length xs)) [
      | inl lt ↦ absurd (let found : Some (position_or_len is_feed xs) ≡ None = rw (lt-ltb _ _ lt) at missing in cc)
      | inr le ↦ lines_last b bytes (λ k d low. fails_before_first is_feed xs k d (omega arith)) ∙ ap (λ (rest : List (List ℕ)). xs ∷ rest) (sym (ap lines_of nothing ∙ no_lines))
    ]
