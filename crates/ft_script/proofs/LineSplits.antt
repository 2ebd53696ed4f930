-- The first line of a text, with its line feed.
use Rattle.std.proofs.Common.{◌≡◌, ℕ, suc, ◌+◌, ◌-◌, ◌<◌, Bool, true, false, not, eqb, cond, List, [], ◌∷◌, ◌++◌, length, take, drop, get_or, Some, None, refl, sym, ap, ◌∙◌, inl, inr, arith}
use Rattle.std.specs.List.{list_all, prefix_len, position, position_or_len}
use Rattle.std.proofs.lemmas.Bool.{cases_lt, lt-ltb, le-ltb, eqb-true, and_from}
use Rattle.std.proofs.lemmas.List.{take_all, take_more, length-drop, take-append-drop}
use Rattle.std.proofs.lemmas.List.Sums.{passes_at_first}
use Rattle.ft_script.specs.Internal.Readers.{IsLine, is_feedless}

abbrev is_feed : ℕ → Bool
is_feed b = eqb b 10

abbrev is_other : ℕ → Bool
is_other b = not (eqb b 10)

front_by : (b : ℕ) (bytes : List ℕ) (other : Bool) → is_other b ≡ other → list_all is_other (take (prefix_len is_other bytes) bytes) ≡ true → list_all is_other (take (cond other (1 + prefix_len is_other bytes) 0) (b ∷ bytes)) ≡ true
front_by b bytes true is h = let next : 1 + prefix_len is_other bytes ≡ suc (prefix_len is_other bytes) = omega arith in rw next (and_from (is_other b) (list_all is_other (take (prefix_len is_other bytes) bytes)) is h)
front_by b bytes false is h = refl

front_feedless : (text : List ℕ) → list_all is_other (take (prefix_len is_other text) text) ≡ true
front_feedless [] = refl
front_feedless (b ∷ bytes) = front_by b bytes (is_other b) refl (front_feedless bytes)

pub split_found : (text : List ℕ) (i : ℕ) → position is_feed text ≡ Some i → (text ≡ take (i + 1) text ++ take (length text - (i + 1)) (drop (i + 1) text)) × IsLine (take (i + 1) text)
split_found text i found =
    elim (cases_lt (position_or_len is_feed text) (length text)) [
      | inl lt ↦
          let some : Some (position_or_len is_feed text) ≡ Some i = rw (lt-ltb _ _ lt) at found in
          let same : position_or_len is_feed text ≡ i = cc in
          let low : i < length text = omega arith in
          let feed : get_or text i 0 ≡ 10 = ap (λ (n : ℕ). get_or text n 0) (sym same) ∙ eqb-true _ _ (passes_at_first is_feed text 0 lt) in
          let line : take (i + 1) text ≡ take i text ++ 10 ∷ [] = take_more text i 0 low ∙ ap (λ (b : ℕ). take i text ++ b ∷ []) feed in
          let all : take (length text - (i + 1)) (drop (i + 1) text) ≡ drop (i + 1) text = take_all (length text - (i + 1)) (drop (i + 1) text) (omega (arith, length-drop (i + 1) text)) in
          let feedless : is_feedless (take i text) ≡ true = ap (λ (n : ℕ). is_feedless (take n text)) (sym same) ∙ front_feedless text in
          (sym (take-append-drop (i + 1) text) ∙ ap (λ (t : List ℕ). take (i + 1) text ++ t) (sym all), (take i text, line, feedless))
      | inr le ↦ absurd (let none : None ≡ Some i = rw (le-ltb _ _ le) at found in cc)
    ]

pub split_missing : (text : List ℕ) → position is_feed text ≡ None → is_feedless text ≡ true
split_missing text missing =
    elim (cases_lt (position_or_len is_feed text) (length text)) [
      | inl lt ↦ absurd (let some : Some (position_or_len is_feed text) ≡ None = rw (lt-ltb _ _ lt) at missing in cc)
      | inr le ↦ ap is_feedless (sym (take_all (position_or_len is_feed text) text le)) ∙ front_feedless text
    ]
