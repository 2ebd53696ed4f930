-- Numbers of up to 18 digits.
use Rattle.std.proofs.Common.{◌≡◌, ◌∙◌, cond, ℕ, ℤ, pos, to_z, ◌+◌, ◌*◌, ◌-◌, ◌^◌, ◌<◌, ◌≤◌, Bool, true, false, eqb, leb, ltb, ◌&&◌, List, [], ◌∷◌, length, take, get_or, Option, Some, None, refl, sym, ap, arith}
use Rattle.std.specs.Char.{digit_value}
use Rattle.std.specs.List.{list_all}
use Rattle.std.specs.Int.{w64}
use Rattle.std.specs.Str.Parse.{digits_value, signed_digits_value}
use Rattle.std.proofs.lemmas.Bool.{and_parts, and_from, leb-true, le-leb, lt-ltb, ne_eqb}
use Rattle.std.proofs.lemmas.Int.{to_z_pos}
use Rattle.std.proofs.lemmas.Int.Digits.{digits_value_more}
use Rattle.std.proofs.lemmas.List.{length-take, take_all}
use Rattle.std.proofs.lemmas.List.Folds.{list_all_at, list_all_more}
use Rattle.std.proofs.lemmas.Str.{digit_value_digit}
use Rattle.std.proofs.lemmas.Str.Parse.{digits_value_short}
use Rattle.ft_model.specs.Names.{is_digit}
use Rattle.ft_script.specs.LineWords.{is_integer, is_wide, integer_of}
use Rattle.ft_script.specs.Internal.Candidates.{is_decimal, natural_in}
use Rattle.ft_script.proofs.NumberLemmas.{natural_by}
use Rattle.ft_script.proofs.WordLemmas.{AreDigits, own, fits_wide, integer_by, no_integer}

-- the digits up to a place were read, and this is their value
pub record IsReadTo (digits : List ℕ) (i value : ℕ) : Type 0 where
  pub all : AreDigits (take i digits)
  pub is : value ≡ digits_value 10 (take i digits)

pub none_read : (digits : List ℕ) → IsReadTo digits 0 0
none_read digits = record { all = refl; is = refl }

value_at : (b : ℕ) → is_digit b ≡ true → digit_value b ≡ b - 48
value_at b h =
    let ends = and_parts (leb 48 b) (leb b 57) h in
    let from : 48 ≤ b = leb-true _ _ ends.0 in
    let to : b ≤ 57 = leb-true _ _ ends.1 in
    omega (arith, digit_value_digit b (from, to))

pub one_read : (digits : List ℕ) (i value : ℕ) → i < length digits → is_digit (get_or digits i 0) ≡ true → IsReadTo digits i value → IsReadTo digits (i + 1) (value * 10 + (get_or digits i 0 - 48))
one_read digits i value low h so_far = record {
  all = list_all_more is_digit digits i 0 low ∙ and_from (list_all is_digit (take i digits)) (is_digit (get_or digits i 0)) so_far.all h;
  is = rw (so_far.is, ← value_at (get_or digits i 0) h) (sym (digits_value_more 10 digits i low));
}

pub value_low : (digits : List ℕ) (i value k : ℕ) → i ≤ k → IsReadTo digits i value → value < 10 ^ k
value_low digits i value k low so_far =
    rw so_far.is (digits_value_short own (take i digits) k so_far.all (omega (arith, length-take i digits)))

abbrev pub value_of : List ℕ → Option ℕ
value_of digits = cond (list_all is_digit digits) (Some (digits_value 10 digits)) None

pub no_value : (digits : List ℕ) (i : ℕ) → i < length digits → is_digit (get_or digits i 0) ≡ false → None ≡ value_of digits
no_value digits i low h = rw (list_all_at is_digit digits i 0 low h) refl

pub all_read : (digits : List ℕ) (i value : ℕ) → length digits ≤ i → IsReadTo digits i value → Some value ≡ value_of digits
all_read digits i value past so_far =
    let whole : take i digits ≡ digits = take_all i digits past in
    let all : list_all is_digit digits ≡ true = rw whole at so_far.all in
    let is : value ≡ digits_value 10 digits = rw whole at so_far.is in
    rw (all, is) refl

-- ---- numbers of a transcript

natural_at : (token : List ℕ) (all : Bool) → list_all is_digit token ≡ all → is_decimal token ≡ all → length token ≤ 18 → cond all (Some (digits_value 10 token)) None ≡ natural_in token
natural_at token true all form few = sym (natural_by token true true form (lt-ltb _ _ (omega (arith, digits_value_short own token 18 all few))))
natural_at token false all form few = sym (natural_by token false (ltb (digits_value 10 token) (2 ^ 64)) form refl)

pub short_natural : (token : List ℕ) → 1 ≤ length token → length token ≤ 18 → value_of token ≡ natural_in token
short_natural [] some few = absurd (omega arith)
short_natural (b ∷ bytes) some few = natural_at (b ∷ bytes) (list_all is_digit (b ∷ bytes)) refl refl few

-- ---- integers

-- a word that begins with a digit from 1 to 9 is read as its digits are
record IsShort (word : List ℕ) : Type 0 where
  few : length word ≤ 18
  form : is_integer word ≡ list_all is_digit word
  signed : signed_digits_value 10 word ≡ pos (digits_value 10 word)

is_short : (word : List ℕ) → 1 ≤ length word → length word ≤ 18 → 49 ≤ get_or word 0 0 → get_or word 0 0 ≤ 57 → IsShort word
is_short [] some few low high = absurd (omega arith)
is_short (b ∷ bytes) some few low high =
    let from : leb 49 b ≡ true = le-leb 49 b low in
    let from_zero : leb 48 b ≡ true = le-leb 48 b (omega arith) in
    let to : leb b 57 ≡ true = le-leb b 57 high in
    let no_zero : eqb b 48 ≡ false = ne_eqb b 48 (λ e. absurd (omega arith)) in
    let no_minus : eqb b 45 ≡ false = ne_eqb b 45 (λ e. absurd (omega arith)) in
    let no_plus : eqb b 43 ≡ false = ne_eqb b 43 (λ e. absurd (omega arith)) in
    record {
      few = few;
      form = rw (no_zero, no_minus, from, from_zero, to) refl;
      signed = rw (no_minus, no_plus) refl;
    }

none_at : (word : List ℕ) (all : Bool) → list_all is_digit word ≡ all → IsShort word → cond all (Some (digits_value 10 word)) None ≡ None → None ≡ integer_of word
none_at word true all short none = absurd cc
none_at word false all short none = no_integer word (short.form ∙ all)

some_at : (word : List ℕ) (value : ℕ) (all : Bool) → list_all is_digit word ≡ all → IsShort word → cond all (Some (digits_value 10 word)) None ≡ Some value → Some (pos value) ≡ integer_of word
some_at word value true all short is =
    let low : digits_value 10 word < 10 ^ 18 = digits_value_short own word 18 all short.few in
    let wide : is_wide (signed_digits_value 10 word) ≡ true = rw short.signed (fits_wide (pos (digits_value 10 word)) (record { sfits = omega arith })) in
    let same : digits_value 10 word ≡ value = cc in
    ap (λ (n : ℕ). Some (pos n)) (sym same) ∙ ap (λ (z : ℤ). Some z) (sym short.signed) ∙ sym (integer_by word true true (short.form ∙ all) wide)
some_at word value false all short is = absurd cc

pub no_short_integer : (word : List ℕ) → 1 ≤ length word → length word ≤ 18 → 49 ≤ get_or word 0 0 → get_or word 0 0 ≤ 57 → value_of word ≡ None → None ≡ integer_of word
no_short_integer word some few low high none = none_at word (list_all is_digit word) refl (is_short word some few low high) none

pub short_integer : (word : List ℕ) (value : ℕ) → 1 ≤ length word → length word ≤ 18 → 49 ≤ get_or word 0 0 → get_or word 0 0 ≤ 57 → value < 10 ^ 18 → value_of word ≡ Some value → Some (to_z w64 value) ≡ integer_of word
short_integer word value some few low high small is =
    ap (λ (z : ℤ). Some z) (to_z_pos w64 value (omega arith)) ∙ some_at word value (list_all is_digit word) refl (is_short word some few low high) is
