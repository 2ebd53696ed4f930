-- Numbers that are printed, and read back.
use Rattle.std.proofs.Common.{◌≡◌, cond, ℕ, ◌^◌, ◌<◌, ◌≤◌, Bool, true, false, leb, ltb, ◌&&◌, List, [], ◌∷◌, length, Some, None, Result, Ok, Err, refl, sym, ap, ◌∙◌, inl, inr, arith, Bor}
use Rattle.std.specs.List.{list_all}
use Rattle.std.specs.Str.{IsUtf8}
use Rattle.std.specs.Result.{MatchResult, result_ok}
use Rattle.std.specs.Str.Parse.{digits_value, ParsesUnsigned}
use Rattle.std.proofs.lemmas.Bool.{cases_lt, and_from, and_parts, leb-true, le-leb, lt-ltb, le-ltb, ltb-false}
use Rattle.std.proofs.lemmas.Fmt.{IsAscii-from_digits}
use Rattle.std.proofs.lemmas.Result.{OkIff-at_ok, OkIff-at_err}
use Rattle.std.proofs.lemmas.Str.{IsUtf8-from_ascii}
use Rattle.std.proofs.lemmas.Str.Parse.{parse_digits}
use Rattle.ft_model.specs.Names.{is_digit}
use Rattle.ft_script.specs.Arguments.{read_call_index}
use Rattle.ft_script.specs.declared.fault.Fault.{Fault}
use Rattle.ft_script.specs.declared.fault.Fault.TheVariants as fault
use Rattle.ft_script.specs.LineWords.{is_positive}
use Rattle.ft_script.specs.Internal.Candidates.{is_decimal, natural_in, read_u32, read_u64}
use Rattle.ft_script.proofs.WordLemmas.{AreDigits, own}

pub natural_by : (token : List ℕ) (form low : Bool) → is_decimal token ≡ form → ltb (digits_value 10 token) (2 ^ 64) ≡ low → natural_in token ≡ cond (form && low) (Some (digits_value 10 token)) None
unfolding natural_in
natural_by token form low is_form is_low = rw (is_form, is_low) refl

pub no_natural : (token : List ℕ) → is_decimal token ≡ false → None ≡ natural_in token
no_natural token h = sym (natural_by token false (ltb (digits_value 10 token) (2 ^ 64)) h refl)

-- digits are UTF-8
digits : (token : List ℕ) → is_decimal token ≡ true → AreDigits token
digits [] h = absurd cc
digits (b ∷ bytes) h = h

pub decimal_by : (token : List ℕ) (all : Bool) → 1 ≤ length token → all ≡ list_all is_digit token → all ≡ is_decimal token
decimal_by [] all some is = absurd (omega arith)
decimal_by (b ∷ bytes) all some is = is

decimal_text : (token : List ℕ) → is_decimal token ≡ true → IsUtf8 token
decimal_text token h = IsUtf8-from_ascii token (IsAscii-from_digits token (own.to token (digits token h)))

pub never_fails : {E : Type 0} (token : List ℕ) (r : Result (Bor (List ℕ)) E) (P : Bor (List ℕ) → Type 0) (Q : E → Type 0) → is_decimal token ≡ true → MatchResult r P (λ e. (¬ (IsUtf8 token)) × Q e) → result_ok r ≡ None → ⊥
never_fails token (Ok s) P Q h cases none = absurd cc
never_fails token (Err e) P Q h cases none = cases.0 (decimal_text token h)

some_digits : (token : List ℕ) → is_decimal token ≡ true → 0 < length token
some_digits [] h = absurd cc
some_digits (b ∷ token) h = omega arith

pub parsed : {E : Type 0} (token : List ℕ) (r : Result ℕ E) → is_decimal token ≡ true → ParsesUnsigned 64 10 token r → result_ok r ≡ natural_in token
parsed {E = E} token (Ok n) h parses =
    let both = OkIff-at_ok {E = E} (Ok n) ((0 < length token) × (digits_value 10 token < 2 ^ 64)) (digits_value 10 token) n (parse_digits own {E = E} 64 token (Ok n) parses (digits token h)) refl in
    ap (λ (m : ℕ). Some m) both.1 ∙ sym (natural_by token true true h (lt-ltb _ _ both.0.1))
parsed {E = E} token (Err e) h parses =
    let none = OkIff-at_err {E = E} (Err e) ((0 < length token) × (digits_value 10 token < 2 ^ 64)) (digits_value 10 token) e (parse_digits own {E = E} 64 token (Err e) parses (digits token h)) refl in
    elim (cases_lt (digits_value 10 token) (2 ^ 64)) [
      | inl low ↦ absurd (none (some_digits token h, low))
      | inr high ↦ sym (natural_by token true false h (le-ltb _ _ high))
    ]

-- ---- indexes of calls

positive_form : (digits : List ℕ) → is_positive digits ≡ true → is_decimal digits ≡ true
positive_form [] h = absurd cc
positive_form (d ∷ ds) h =
    let low = and_parts (leb 49 d && leb d 57) (list_all is_digit ds) h in
    let ends = and_parts (leb 49 d) (leb d 57) low.0 in
    let from : 49 ≤ d = leb-true 49 d ends.0 in
    and_from (is_digit d) (list_all is_digit ds) (and_from (leb 48 d) (leb d 57) (le-leb 48 d (omega arith)) ends.1) low.1

u32_by : (digits : List ℕ) (wide low : Bool) → is_positive digits ≡ true → ltb (digits_value 10 digits) (2 ^ 64) ≡ wide → ltb (digits_value 10 digits) (2 ^ 32) ≡ low → (wide ≡ false → low ≡ false) → read_u32 digits ≡ cond low (Ok (digits_value 10 digits)) (Err fault.Number)
unfolding read_u32 read_u64
u32_by digits true low form is_wide is_low narrow = rw (natural_by digits true true (positive_form digits form) is_wide, is_low) refl
u32_by digits false low form is_wide is_low narrow = rw (natural_by digits true false (positive_form digits form) is_wide, narrow refl) refl

narrow_by : (n : ℕ) → ltb n (2 ^ 64) ≡ false → ltb n (2 ^ 32) ≡ false
narrow_by n high = let past : 2 ^ 64 ≤ n = ltb-false n (2 ^ 64) high in le-ltb n (2 ^ 32) (omega arith)

u32_is : (digits : List ℕ) → is_positive digits ≡ true → read_u32 digits ≡ cond (ltb (digits_value 10 digits) (2 ^ 32)) (Ok (digits_value 10 digits)) (Err fault.Number)
u32_is digits form = u32_by digits (ltb (digits_value 10 digits) (2 ^ 64)) (ltb (digits_value 10 digits) (2 ^ 32)) form refl refl (narrow_by (digits_value 10 digits))

abbrev awaited : Result ℕ Fault → Result ℕ Fault
awaited (Ok index) = Ok index
awaited (Err found) = Err fault.Await

awaited_by : (low : Bool) (n : ℕ) → awaited (cond low (Ok n) (Err fault.Number)) ≡ cond low (Ok n) (Err fault.Await)
awaited_by true n = refl
awaited_by false n = refl

pub index_is : (digits : List ℕ) (read : Result ℕ Fault) → is_positive digits ≡ true → read ≡ read_u32 digits → awaited read ≡ read_call_index digits
unfolding read_call_index
index_is digits read form is = ap awaited (is ∙ u32_is digits form) ∙ awaited_by (ltb (digits_value 10 digits) (2 ^ 32)) (digits_value 10 digits)
