-- Which words are names and integers.
use Rattle.std.proofs.Common.{◌≡◌, ◌⊎◌, cond, ℕ, ℤ, pos, negsuc, ◌-◌, ◌^◌, ◌<◌, ◌≤◌, zero, suc, Bool, true, false, eqb, leb, ◌&&◌, List, [], ◌∷◌, length, get_or, take, drop, Some, None, Result, Ok, Err, refl, sym, ap, ◌∙◌, inl, inr, arith, rules, FitsSigned, lit<, Bor}
use Rattle.std.specs.Prelude.{int_le}
use Rattle.std.specs.Int.{w64}
use Rattle.std.specs.List.{list_all}
use Rattle.std.specs.Str.{IsAscii, IsUtf8}
use Rattle.std.specs.Result.{MatchResult, result_ok}
use Rattle.std.specs.Str.Parse.{digits_value, signed_digits_value, without_leading_sign, IsNumeral, ParsesSigned}
use Rattle.std.proofs.lemmas.Bool.{cases_eq, and_parts, and_from, leb-true, le-leb, eqb-true, ne_eqb}
use Rattle.std.proofs.lemmas.Fmt.{IsAscii-from_digits}
use Rattle.std.proofs.lemmas.List.{take_all, length-drop, get_or_past}
use Rattle.std.proofs.lemmas.Result.{OkIff-at_ok, OkIff-at_err}
use Rattle.std.proofs.lemmas.Str.{IsUtf8-from_ascii}
use Rattle.std.proofs.lemmas.Str.Parse.{IsNumeralModel, numerals_by_value}
use Rattle.ft_model.specs.Names.{is_digit, is_container_byte, is_container_name, is_thread_byte, is_thread_name}
use Rattle.ft_script.specs.LineWords.{is_positive, is_integer, is_wide, integer_of}

rest_all : (xs : List ℕ) (i : ℕ) → take (length xs - i) (drop i xs) ≡ drop i xs
rest_all xs i = take_all _ _ (omega (arith, length-drop i xs))

-- ---- names

pub is_container_name-rest : (word : List ℕ) (b : Bool) → 1 ≤ length word → 97 ≤ get_or word 0 0 → get_or word 0 0 ≤ 122 → b ≡ list_all is_container_byte (take (length word - 1) (drop 1 word)) → b ≡ true → leb (length (take (length word - 1) (drop 1 word))) 31 ≡ is_container_name word
is_container_name-rest [] b some low high all passed = absurd (omega arith)
is_container_name-rest (c ∷ cs) b some low high all passed =
    let e : take (length (c ∷ cs) - 1) (drop 1 (c ∷ cs)) ≡ cs = rest_all (c ∷ cs) 1 in
    let passes : list_all is_container_byte cs ≡ true = rw e at (sym all ∙ passed) in
    rw e (rw (le-leb 97 c low, le-leb c 122 high, passes) refl)

pub is_thread_name-rest : (word : List ℕ) (b : Bool) → 1 ≤ length word → 65 ≤ get_or word 0 0 → get_or word 0 0 ≤ 90 → b ≡ list_all is_thread_byte (take (length word - 1) (drop 1 word)) → b ≡ true → leb (length (take (length word - 1) (drop 1 word))) 31 ≡ is_thread_name word
is_thread_name-rest [] b some low high all passed = absurd (omega arith)
is_thread_name-rest (c ∷ cs) b some low high all passed =
    let e : take (length (c ∷ cs) - 1) (drop 1 (c ∷ cs)) ≡ cs = rest_all (c ∷ cs) 1 in
    let passes : list_all is_thread_byte cs ≡ true = rw e at (sym all ∙ passed) in
    rw e (rw (le-leb 65 c low, le-leb c 90 high, passes) refl)

pub is_positive-rest : (word : List ℕ) (b : Bool) → 1 ≤ length word → 49 ≤ get_or word 0 0 → get_or word 0 0 ≤ 57 → b ≡ list_all is_digit (take (length word - 1) (drop 1 word)) → b ≡ is_positive word
is_positive-rest [] b some low high all = absurd (omega arith)
is_positive-rest (c ∷ cs) b some low high all =
    let e : take (length (c ∷ cs) - 1) (drop 1 (c ∷ cs)) ≡ cs = rest_all (c ∷ cs) 1 in
    rw (le-leb 49 c low, le-leb c 57 high) (rw e at all)

-- ---- integers

abbrev pub AreDigits : List ℕ → Type 0
AreDigits ds = list_all is_digit ds ≡ true

pub own : IsNumeralModel AreDigits (digits_value 10)
own = numerals_by_value AreDigits (search rules)

record IsPositive (ds : List ℕ) : Type 0 where
  digits : AreDigits ds
  first : 48 < get_or ds 0 0
  some : 0 < length ds

positive : (ds : List ℕ) → is_positive ds ≡ true → IsPositive ds
positive [] h = absurd cc
positive (d ∷ ds) h =
    let low = and_parts (leb 49 d && leb d 57) (list_all is_digit ds) h in
    let ends = and_parts (leb 49 d) (leb d 57) low.0 in
    let from : 49 ≤ d = leb-true _ _ ends.0 in
    let to : d ≤ 57 = leb-true _ _ ends.1 in
    record {
      digits = and_from (is_digit d) (list_all is_digit ds) (and_from (leb 48 d) (leb d 57) (le-leb 48 d (omega arith)) ends.1) low.1;
      first = omega arith;
      some = omega arith;
    }

is_ascii-positive : (ds : List ℕ) → is_positive ds ≡ true → IsAscii ds
is_ascii-positive ds h = IsAscii-from_digits ds (own.to ds (positive ds h).digits)

is_ascii-cons : (b : ℕ) (bs : List ℕ) → b < 128 → IsAscii bs → IsAscii (b ∷ bs)
is_ascii-cons b bs low rest zero = low
is_ascii-cons b bs low rest (suc i) = rest i

pub is_ascii-integer : (word : List ℕ) → is_integer word ≡ true → IsAscii word
is_ascii-integer [] h = absurd cc
is_ascii-integer (b ∷ bs) h =
    elim (cases_eq b 48) [
      | inl is_zero ↦
          let e : eqb (length bs) 0 ≡ true = rw is_zero at h in
          let none : length bs ≡ 0 = eqb-true _ _ e in
          rw is_zero (is_ascii-cons 48 bs (lit< tt) (λ i. rw (get_or_past bs i 0 (omega arith)) (lit< tt)))
      | inr not_zero ↦ elim (cases_eq b 45) [
        | inl minus ↦
            let p : is_positive bs ≡ true = rw minus at h in
            rw minus (is_ascii-cons 45 bs (lit< tt) (is_ascii-positive bs p))
        | inr plain ↦
            let p : is_positive (b ∷ bs) ≡ true = rw (ne_eqb b 48 not_zero, ne_eqb b 45 plain) at h in
            is_ascii-positive (b ∷ bs) p
      ]
    ]

-- an integer's text is UTF-8
pub never_fails : {E : Type 0} (bytes : List ℕ) (r : Result (Bor (List ℕ)) E) (P : Bor (List ℕ) → Type 0) (Q : E → Type 0) → is_integer bytes ≡ true → MatchResult r P (λ e. (¬ (IsUtf8 bytes)) × Q e) → result_ok r ≡ None → ⊥
never_fails bytes (Ok s) P Q h cases none = absurd cc
never_fails bytes (Err e) P Q h cases none = cases.0 (IsUtf8-from_ascii bytes (is_ascii-integer bytes h))

pub same_text : {E : Type 0} (bytes : List ℕ) (text : Bor (List ℕ)) (r : Result (Bor (List ℕ)) E) (Q : E → Type 0) → MatchResult r (λ s. (s.now ≡ bytes) × IsUtf8 bytes) Q → result_ok r ≡ Some text → text.now ≡ bytes
same_text bytes text (Ok s) Q cases some =
    let e : s ≡ text = cc in
    ap (λ (t : Bor (List ℕ)). t.now) (sym e) ∙ cases.0
same_text bytes text (Err e) Q cases some = absurd cc

bool_cases : (b : Bool) → (b ≡ true) ⊎ (b ≡ false)
bool_cases true = inl refl
bool_cases false = inr refl

zero_numeral : (bs : List ℕ) → length bs ≡ 0 → IsNumeral 10 (without_leading_sign (48 ∷ bs))
zero_numeral [] none = (lit< tt, (lit< tt, tt))
zero_numeral (b ∷ bs) none = absurd (omega arith)

-- an integer's digits are a numeral
numeral : (word : List ℕ) → is_integer word ≡ true → IsNumeral 10 (without_leading_sign word)
numeral [] h = absurd cc
numeral (b ∷ bs) h =
    elim (cases_eq b 48) [
      | inl is_zero ↦
          let e : eqb (length bs) 0 ≡ true = rw is_zero at h in
          rw is_zero (zero_numeral bs (eqb-true _ _ e))
      | inr not_zero ↦ elim (cases_eq b 45) [
        | inl minus ↦
            let p : is_positive bs ≡ true = rw minus at h in
            rw minus ((positive bs p).some, own.to bs (positive bs p).digits)
        | inr plain ↦
            let p : is_positive (b ∷ bs) ≡ true = rw (ne_eqb b 48 not_zero, ne_eqb b 45 plain) at h in
            let q : IsPositive (b ∷ bs) = positive (b ∷ bs) p in
            let above : 48 < b = q.first in
            rw (ne_eqb b 45 plain, ne_eqb b 43 (λ e. absurd (omega arith))) (q.some, own.to (b ∷ bs) q.digits)
      ]
    ]

wide_fits : (n : ℤ) → is_wide n ≡ true → FitsSigned w64 n
wide_fits (pos n) h = let e : n ≤ 2 ^ 63 - 1 = leb-true n (2 ^ 63 - 1) (and_parts (int_le (negsuc (2 ^ 63 - 1)) (pos n)) (int_le (pos n) (pos (2 ^ 63 - 1))) h).1 in record { sfits = omega arith }
wide_fits (negsuc n) h = let e : n ≤ 2 ^ 63 - 1 = leb-true n (2 ^ 63 - 1) (and_parts (int_le (negsuc (2 ^ 63 - 1)) (negsuc n)) (int_le (negsuc n) (pos (2 ^ 63 - 1))) h).0 in record { sfits = omega arith }

pub fits_wide : (n : ℤ) → FitsSigned w64 n → is_wide n ≡ true
fits_wide (pos n) fits = let e : n < 2 ^ 63 = fits.sfits in and_from (int_le (negsuc (2 ^ 63 - 1)) (pos n)) (int_le (pos n) (pos (2 ^ 63 - 1))) refl (le-leb n (2 ^ 63 - 1) (omega arith))
fits_wide (negsuc n) fits = let e : n < 2 ^ 63 = fits.sfits in and_from (int_le (negsuc (2 ^ 63 - 1)) (negsuc n)) (int_le (negsuc n) (pos (2 ^ 63 - 1))) (le-leb n (2 ^ 63 - 1) (omega arith)) refl

-- what is parsed of an integer's text
pub integer_by : (word : List ℕ) (form wide : Bool) → is_integer word ≡ form → is_wide (signed_digits_value 10 word) ≡ wide → integer_of word ≡ cond (form && wide) (Some (signed_digits_value 10 word)) None
unfolding integer_of
integer_by word form wide is_form is_in = rw (is_form, is_in) refl

pub no_integer : (word : List ℕ) → is_integer word ≡ false → None ≡ integer_of word
no_integer word h = sym (integer_by word false (is_wide (signed_digits_value 10 word)) h refl)

pub parsed : {E : Type 0} (word : List ℕ) (r : Result ℤ E) → is_integer word ≡ true → ParsesSigned w64 10 word r → result_ok r ≡ integer_of word
parsed {E = E} word (Ok n) h parses =
    let both = OkIff-at_ok {E = E} (Ok n) (IsNumeral 10 (without_leading_sign word) × FitsSigned w64 (signed_digits_value 10 word)) (signed_digits_value 10 word) n parses refl in
    ap (λ (m : ℤ). Some m) both.1 ∙ sym (integer_by word true true h (fits_wide (signed_digits_value 10 word) both.0.1))
parsed {E = E} word (Err e) h parses =
    let none = OkIff-at_err {E = E} (Err e) (IsNumeral 10 (without_leading_sign word) × FitsSigned w64 (signed_digits_value 10 word)) (signed_digits_value 10 word) e parses refl in
    elim (bool_cases (is_wide (signed_digits_value 10 word))) [
      | inl wide ↦ absurd (none (numeral word h, wide_fits (signed_digits_value 10 word) wide))
      | inr narrow ↦ sym (integer_by word true false h narrow)
    ]
