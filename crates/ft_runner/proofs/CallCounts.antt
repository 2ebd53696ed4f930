-- Which words are a number of calls.
use Rattle.std.proofs.Common.{◌≡◌, ◌∙◌, cond, ℕ, ◌<◌, ◌≤◌, ◌^◌, Bool, true, false, leb, ◌&&◌, List, [], ◌∷◌, Some, None, Result, Ok, Err, refl, sym, ap, subst, arith}
use Rattle.std.specs.Prelude.{nat_le}
use Rattle.std.specs.List.{list_all}
use Rattle.std.specs.Result.{result_ok}
use Rattle.std.specs.Str.Parse.{digits_value, without_leading_plus, IsNumeral, ParsesUnsigned}
use Rattle.std.proofs.lemmas.Bool.{and_parts, and_from, leb-true, le-leb, ne_eqb, false≢true}
use Rattle.std.proofs.lemmas.Result.{OkIff-at_ok, OkIff-at_err}
use Rattle.ft_model.specs.Names.{is_digit}
use Rattle.ft_script.specs.LineWords.{is_positive}
use Rattle.ft_script.proofs.WordLemmas.{own}
use Rattle.ft_runner.specs.Commands.{calls_in_word}

-- such a word is a numeral, before which no plus stands
record IsCount (word : List ℕ) : Type 0 where
  numeral : IsNumeral 10 (without_leading_plus word)
  plain : without_leading_plus word ≡ word

counts : (word : List ℕ) → is_positive word ≡ true → IsCount word
counts [] positive = absurd (false≢true positive)
counts (d ∷ ds) positive =
    let low = and_parts (leb 49 d && leb d 57) (list_all is_digit ds) positive in
    let ends = and_parts (leb 49 d) (leb d 57) low.0 in
    let from : 49 ≤ d = leb-true 49 d ends.0 in
    let digits : list_all is_digit (d ∷ ds) ≡ true = and_from (is_digit d) (list_all is_digit ds) (and_from (leb 48 d) (leb d 57) (le-leb 48 d (omega (arith, from))) ends.1) low.1 in
    let plain : without_leading_plus (d ∷ ds) ≡ d ∷ ds = rw (ne_eqb d 43 (λ same. absurd (omega (arith, from, same)))) refl in
    record {
      numeral = subst (IsNumeral 10) (sym plain) (omega arith, own.to (d ∷ ds) digits);
      plain = plain;
    }

calls_by : (word : List ℕ) (few : Bool) → is_positive word ≡ true → nat_le (digits_value 10 word) 100000 ≡ few → calls_in_word word ≡ cond few (Some (digits_value 10 word)) None
calls_by word few positive is = rw (positive, is) refl

pub no_calls : (word : List ℕ) → is_positive word ≡ false → None ≡ calls_in_word word
no_calls word other = rw other refl

module _ {E : Type 0} (word : List ℕ) (positive : is_positive word ≡ true) where
  -- a number that is too great for 32 bits is too great
  pub great_calls : (r : Result ℕ E) → ParsesUnsigned 32 10 word r → result_ok r ≡ None → None ≡ calls_in_word word
  great_calls (Ok n) parses none = absurd cc
  great_calls (Err e) parses none =
      let count = counts word positive in
      let refused = OkIff-at_err {E = E} (Err e) (IsNumeral 10 (without_leading_plus word) × (digits_value 10 (without_leading_plus word) < 2 ^ 32)) (digits_value 10 (without_leading_plus word)) e parses refl in
      let value : digits_value 10 (without_leading_plus word) ≡ digits_value 10 word = ap (digits_value 10) count.plain in
      elim (nat_le (digits_value 10 word) 100000) as (λ b. nat_le (digits_value 10 word) 100000 ≡ b → None ≡ calls_in_word word) [
        | true ↦ λ few. absurd (refused (count.numeral, omega (arith, value, leb-true (digits_value 10 word) 100000 few)))
        | false ↦ λ many. sym (calls_by word false positive many)
      ] refl

  pub parsed_calls : (r : Result ℕ E) (n : ℕ) → ParsesUnsigned 32 10 word r → result_ok r ≡ Some n → n ≡ digits_value 10 word
  parsed_calls (Ok m) n parses some =
      let count = counts word positive in
      let both = OkIff-at_ok {E = E} (Ok m) (IsNumeral 10 (without_leading_plus word) × (digits_value 10 (without_leading_plus word) < 2 ^ 32)) (digits_value 10 (without_leading_plus word)) m parses refl in
      let same : m ≡ n = cc in
      sym same ∙ both.1 ∙ ap (digits_value 10) count.plain
  parsed_calls (Err e) n parses some = absurd cc

pub few_calls : (word : List ℕ) (n : ℕ) → is_positive word ≡ true → n ≡ digits_value 10 word → n ≤ 100000 → Some n ≡ calls_in_word word
few_calls word n positive is few = ap (λ (m : ℕ). Some m) is ∙ sym (calls_by word true positive (le-leb (digits_value 10 word) 100000 (omega (arith, is, few))))

pub many_calls : (word : List ℕ) (n : ℕ) → is_positive word ≡ true → n ≡ digits_value 10 word → 100000 < n → None ≡ calls_in_word word
many_calls word n positive is many =
    elim (nat_le (digits_value 10 word) 100000) as (λ b. nat_le (digits_value 10 word) 100000 ≡ b → None ≡ calls_in_word word) [
      | true ↦ λ few. absurd (omega (arith, is, many, leb-true (digits_value 10 word) 100000 few))
      | false ↦ λ more. sym (calls_by word false positive more)
    ] refl
