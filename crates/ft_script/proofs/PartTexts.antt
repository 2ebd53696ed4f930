-- Names, numbers, keys and values that are printed, and read back.
use Rattle.std.proofs.Common.{◌≡◌, ◌≢◌, ◌⊎◌, cond, ℕ, ℤ, pos, negsuc, neg_ℤ, suc, ◌-◌, ◌^◌, ◌<◌, ◌≤◌, Bool, true, false, not, eqb, ltb, leb, ◌&&◌, ◌||◌, List, [], ◌∷◌, length, get_or, take, Option, Some, None, Result, Ok, Err, refl, sym, ap, ◌∙◌, inl, inr, arith}
use Rattle.std.specs.Prelude.{AllPairs, codes, slice_index_or}
use Rattle.std.specs.List.{list_all, position, position_or_len}
use Rattle.std.specs.Fmt.{decimal, signed_decimal}
use Rattle.std.specs.Str.{bytes_eq}
use Rattle.std.specs.Str.Parse.{digits_value, signed_digits_value}
use Rattle.std.specs.Cmp.Lexicographic.{bytes_decides}
use Rattle.std.proofs.lemmas.Bool.{cases_eq, and_parts, and_from, leb-true, le-leb, lt-ltb, le-ltb, ne_eqb, eqb-true}
use Rattle.std.proofs.lemmas.Fmt.{decimal_is_IsNumeral, decimal_digit, first_decimal}
use Rattle.std.proofs.lemmas.List.{length-take, get_or-take}
use Rattle.std.proofs.lemmas.List.Sums.{position_or_len_is}
use Rattle.ft_model.specs.declared.data.Key.{Key}
use Rattle.ft_model.specs.declared.data.Key.TheVariants as key
use Rattle.ft_model.specs.declared.data.Value.{Value}
use Rattle.ft_model.specs.declared.data.Value.TheVariants as value
use Rattle.ft_model.specs.Names.{is_digit, is_lower, is_upper, is_container_byte, is_container_name, is_thread_byte, is_thread_name}
use Rattle.ft_model.specs.Scripts.{IsKeyOf, IsValueOf}
use Rattle.ft_model.specs.Keys.{as_value}
use Rattle.ft_script.specs.declared.fault.Fault.{Fault}
use Rattle.ft_script.specs.declared.fault.Fault.TheVariants as fault
use Rattle.ft_script.specs.Arguments.{read_index}
use Rattle.ft_script.specs.Internal.Candidates.{is_decimal, natural_in, read_u64, read_u32, known_key, known_value, known_pair}
use Rattle.ft_script.specs.Drafts.{◌>>=◌, or_fault, text_place}
use Rattle.ft_script.specs.Texts.{quoted, key_text, value_text}
use Rattle.ft_script.specs.Transcripts.{IsWideKey, IsWideValue}
use Rattle.ft_script.specs.LineWords.{is_positive, is_integer, is_wide, integer_of, is_string, text_of}
use Rattle.ft_script.proofs.NumberLemmas.{natural_by}
use Rattle.ft_script.proofs.TokenTexts.{is_part, IsWord, IsCut, word_is_cut, string_is_cut, text_of_quoted}
use Rattle.ft_script.proofs.WordLemmas.{AreDigits, own, integer_by}

-- ---- bytes

part_by : (b : ℕ) → b ≢ 32 → b ≢ 44 → b ≢ 10 → b ≢ 58 → b ≢ 91 → b ≢ 93 → b ≢ 123 → b ≢ 125 → is_part b ≡ true
part_by b h1 h2 h3 h4 h5 h6 h7 h8 = rw (ne_eqb b 32 h1, ne_eqb b 44 h2, ne_eqb b 10 h3, ne_eqb b 58 h4, ne_eqb b 91 h5, ne_eqb b 93 h6, ne_eqb b 123 h7, ne_eqb b 125 h8) refl

pub low_part : (b : ℕ) → 45 ≤ b → b ≤ 57 → is_part b ≡ true
low_part b low high = part_by b (λ e. omega arith) (λ e. omega arith) (λ e. omega arith) (λ e. omega arith) (λ e. omega arith) (λ e. omega arith) (λ e. omega arith) (λ e. omega arith)

upper_part : (b : ℕ) → 65 ≤ b → b ≤ 90 → is_part b ≡ true
upper_part b low high = part_by b (λ e. omega arith) (λ e. omega arith) (λ e. omega arith) (λ e. omega arith) (λ e. omega arith) (λ e. omega arith) (λ e. omega arith) (λ e. omega arith)

lower_part : (b : ℕ) → 97 ≤ b → b ≤ 122 → is_part b ≡ true
lower_part b low high = part_by b (λ e. omega arith) (λ e. omega arith) (λ e. omega arith) (λ e. omega arith) (λ e. omega arith) (λ e. omega arith) (λ e. omega arith) (λ e. omega arith)

between : (b low high : ℕ) → (leb low b && leb b high) ≡ true → (low ≤ b) × (b ≤ high)
between b low high h = let both = and_parts (leb low b) (leb b high) h in (leb-true low b both.0, leb-true b high both.1)

digit_part : (b : ℕ) → is_digit b ≡ true → is_part b ≡ true
digit_part b h = let both = between b 48 57 h in low_part b (let l : 48 ≤ b = both.0 in omega arith) both.1

container_part : (b : ℕ) (lower digit line : Bool) → is_lower b ≡ lower → is_digit b ≡ digit → eqb b 95 ≡ line → ((lower || digit) || line) ≡ true → is_part b ≡ true
container_part b true digit line l d u h = let both = between b 97 122 l in lower_part b both.0 both.1
container_part b false true line l d u h = digit_part b d
container_part b false false true l d u h = rw (eqb-true b 95 u) refl
container_part b false false false l d u h = absurd cc

thread_part : (b : ℕ) (lower upper digit line : Bool) → is_lower b ≡ lower → is_upper b ≡ upper → is_digit b ≡ digit → eqb b 95 ≡ line → (((lower || upper) || digit) || line) ≡ true → is_part b ≡ true
thread_part b true upper digit line l c d u h = let both = between b 97 122 l in lower_part b both.0 both.1
thread_part b false true digit line l c d u h = let both = between b 65 90 c in upper_part b both.0 both.1
thread_part b false false true line l c d u h = digit_part b d
thread_part b false false false true l c d u h = rw (eqb-true b 95 u) refl
thread_part b false false false false l c d u h = absurd cc

pub all_parts : (p : ℕ → Bool) (bytes : List ℕ) → ((b : ℕ) → p b ≡ true → is_part b ≡ true) → list_all p bytes ≡ true → list_all is_part bytes ≡ true
all_parts p [] h all = refl
all_parts p (b ∷ bytes) h all =
    let both = and_parts (p b) (list_all p bytes) all in
    and_from (is_part b) (list_all is_part bytes) (h b both.0) (all_parts p bytes h both.1)

-- ---- names

-- a word's first byte is a lower-case letter
abbrev pub BeginsLow : List ℕ → Type 0
BeginsLow [] = ⊥
BeginsLow (b ∷ bytes) = (97 ≤ b) × (b ≤ 122)

pub container_word : (name : List ℕ) → is_container_name name ≡ true → IsWord name × BeginsLow name
container_word [] h = absurd cc
container_word (b ∷ bytes) h =
    let all = and_parts (is_lower b && list_all is_container_byte bytes) (leb (length bytes) 31) h in
    let parts = and_parts (is_lower b) (list_all is_container_byte bytes) all.0 in
    let ends = between b 97 122 parts.0 in
    let low : 97 ≤ b = ends.0 in
    ((ne_eqb b 34 (λ e. omega arith), and_from (is_part b) (list_all is_part bytes) (lower_part b ends.0 ends.1) (all_parts is_container_byte bytes (λ c k. container_part c (is_lower c) (is_digit c) (eqb c 95) refl refl refl k) parts.1)), ends)

-- a word's first byte is a capital letter
abbrev pub BeginsHigh : List ℕ → Type 0
BeginsHigh [] = ⊥
BeginsHigh (b ∷ bytes) = (65 ≤ b) × (b ≤ 90)

pub thread_word : (name : List ℕ) → is_thread_name name ≡ true → IsWord name × BeginsHigh name
thread_word [] h = absurd cc
thread_word (b ∷ bytes) h =
    let all = and_parts (is_upper b && list_all is_thread_byte bytes) (leb (length bytes) 31) h in
    let parts = and_parts (is_upper b) (list_all is_thread_byte bytes) all.0 in
    let ends = between b 65 90 parts.0 in
    let low : 65 ≤ b = ends.0 in
    ((ne_eqb b 34 (λ e. omega arith), and_from (is_part b) (list_all is_part bytes) (upper_part b ends.0 ends.1) (all_parts is_thread_byte bytes (λ c k. thread_part c (is_lower c) (is_upper c) (is_digit c) (eqb c 95) refl refl refl refl k) parts.1)), ends)

-- no byte of a thread's name is a dot
dotless_by : (b : ℕ) (lower upper digit line : Bool) → is_lower b ≡ lower → is_upper b ≡ upper → is_digit b ≡ digit → eqb b 95 ≡ line → (((lower || upper) || digit) || line) ≡ true → not (eqb b 46) ≡ true
dotless_by b true upper digit line l c d u h = let both = between b 97 122 l in let low : 97 ≤ b = both.0 in rw (ne_eqb b 46 (λ e. omega arith)) refl
dotless_by b false true digit line l c d u h = let both = between b 65 90 c in let low : 65 ≤ b = both.0 in rw (ne_eqb b 46 (λ e. omega arith)) refl
dotless_by b false false true line l c d u h = let both = between b 48 57 d in let low : 48 ≤ b = both.0 in rw (ne_eqb b 46 (λ e. omega arith)) refl
dotless_by b false false false true l c d u h = rw (eqb-true b 95 u) refl
dotless_by b false false false false l c d u h = absurd cc

dotless_rest : (bytes : List ℕ) → list_all is_thread_byte bytes ≡ true → list_all (λ b. not (eqb b 46)) bytes ≡ true
dotless_rest [] h = refl
dotless_rest (b ∷ bytes) h =
    let both = and_parts (is_thread_byte b) (list_all is_thread_byte bytes) h in
    and_from (not (eqb b 46)) (list_all (λ c. not (eqb c 46)) bytes) (dotless_by b (is_lower b) (is_upper b) (is_digit b) (eqb b 95) refl refl refl refl both.0) (dotless_rest bytes both.1)

pub dotless : (name : List ℕ) → is_thread_name name ≡ true → list_all (λ b. not (eqb b 46)) name ≡ true
dotless [] h = refl
dotless (b ∷ bytes) h =
    let all = and_parts (is_upper b && list_all is_thread_byte bytes) (leb (length bytes) 31) h in
    let parts = and_parts (is_upper b) (list_all is_thread_byte bytes) all.0 in
    let ends = between b 65 90 parts.0 in
    let low : 65 ≤ b = ends.0 in
    and_from (not (eqb b 46)) (list_all (λ c. not (eqb c 46)) bytes) (rw (ne_eqb b 46 (λ e. omega arith)) refl) (dotless_rest bytes parts.1)

-- ---- numbers

-- a word's first byte stands before all letters, and is no quotation mark
abbrev pub BeginsNumber : List ℕ → Type 0
BeginsNumber [] = ⊥
BeginsNumber (b ∷ bytes) = (45 ≤ b) × (b ≤ 57)

digits_word : (ds : List ℕ) → 0 < length ds → AreDigits ds → IsWord ds × BeginsNumber ds
digits_word [] some h = absurd (omega arith)
digits_word (d ∷ ds) some h =
    let parts = and_parts (is_digit d) (list_all is_digit ds) h in
    let ends = between d 48 57 parts.0 in
    let low : 48 ≤ d = ends.0 in
    ((ne_eqb d 34 (λ e. omega arith), all_parts is_digit (d ∷ ds) digit_part h), (omega arith, ends.1))

pub are_digits : (n : ℕ) → n < 2 ^ 64 → AreDigits (decimal n)
are_digits n low = own.from (decimal n) (decimal_is_IsNumeral n low).0.1

some_digits : (n : ℕ) → n < 2 ^ 64 → 0 < length (decimal n)
some_digits n low = (decimal_is_IsNumeral n low).0.0

pub decimal_word : (n : ℕ) → n < 2 ^ 64 → IsWord (decimal n) × BeginsNumber (decimal n)
decimal_word n low = digits_word (decimal n) (some_digits n low) (are_digits n low)

pub decimal_parts : (n : ℕ) → n < 2 ^ 64 → list_all is_part (decimal n) ≡ true
decimal_parts n low = all_parts is_digit (decimal n) digit_part (are_digits n low)

is_decimal_by : (ds : List ℕ) → 0 < length ds → AreDigits ds → is_decimal ds ≡ true
is_decimal_by [] some h = absurd (omega arith)
is_decimal_by (d ∷ ds) some h = h

pub natural_decimal : (n : ℕ) → n < 2 ^ 64 → natural_in (decimal n) ≡ Some n
natural_decimal n low =
    let v : digits_value 10 (decimal n) ≡ n = (decimal_is_IsNumeral n low).1 in
    natural_by (decimal n) true true (is_decimal_by (decimal n) (some_digits n low) (are_digits n low)) (rw v (lt-ltb n (2 ^ 64) low)) ∙ ap (λ (m : ℕ). Some m) v

abbrev good : {X : Type 0} → X → Result X Fault
good x = Ok x

pub u64_decimal : (n : ℕ) → n < 2 ^ 64 → read_u64 (decimal n) ≡ Ok n
unfolding read_u64
u64_decimal n low = ap (or_fault fault.Number) (natural_decimal n low)

abbrev below_32 : ℕ → Result ℕ Fault
below_32 n = cond (ltb n (2 ^ 32)) (Ok n) (Err fault.Number)

pub u32_decimal : (n : ℕ) → n < 2 ^ 32 → read_u32 (decimal n) ≡ Ok n
unfolding read_u32
u32_decimal n low = ap (λ (r : Result ℕ Fault). r >>= below_32) (u64_decimal n (omega arith)) ∙ ap (λ (b : Bool). cond b (good n) (Err fault.Number)) (lt-ltb n (2 ^ 32) low)

-- ---- integers

positive_digits : (ds : List ℕ) → 0 < length ds → AreDigits ds → 48 < get_or ds 0 0 → is_positive ds ≡ true
positive_digits [] some h first = absurd (omega arith)
positive_digits (d ∷ ds) some h first =
    let parts = and_parts (is_digit d) (list_all is_digit ds) h in
    let ends = between d 48 57 parts.0 in
    and_from (leb 49 d && leb d 57) (list_all is_digit ds) (and_from (leb 49 d) (leb d 57) (le-leb 49 d (omega arith)) (le-leb d 57 ends.1)) parts.1

positive_integer : (ds : List ℕ) → is_positive ds ≡ true → is_integer ds ≡ true
positive_integer [] h = h
positive_integer (d ∷ ds) h =
    let parts = and_parts (leb 49 d && leb d 57) (list_all is_digit ds) h in
    let ends = between d 49 57 parts.0 in
    let low : 49 ≤ d = ends.0 in
    rw (ne_eqb d 48 (λ e. omega arith), ne_eqb d 45 (λ e. omega arith)) h

pub positive_decimal : (n : ℕ) → 0 < n → n < 2 ^ 64 → is_positive (decimal n) ≡ true
positive_decimal n some low = positive_digits (decimal n) (some_digits n low) (are_digits n low) (first_decimal n some low)

decimal_integer : (n : ℕ) → n < 2 ^ 64 → is_integer (decimal n) ≡ true
decimal_integer n low =
    elim (cases_eq n 0) [
      | inl none ↦ rw none (rw (decimal_digit 0 (omega arith)) refl)
      | inr some ↦ positive_integer (decimal n) (positive_decimal n (omega arith) low)
    ]

signless : (ds : List ℕ) → 0 < length ds → AreDigits ds → signed_digits_value 10 ds ≡ pos (digits_value 10 ds)
signless [] some h = absurd (omega arith)
signless (d ∷ ds) some h =
    let parts = and_parts (is_digit d) (list_all is_digit ds) h in
    let ends = between d 48 57 parts.0 in
    let low : 48 ≤ d = ends.0 in
    rw (ne_eqb d 45 (λ e. omega arith), ne_eqb d 43 (λ e. omega arith)) refl

minus : (ds : List ℕ) (n : ℕ) → digits_value 10 ds ≡ suc n → signed_digits_value 10 (45 ∷ ds) ≡ negsuc n
minus ds n is = ap (λ (m : ℕ). neg_ℤ (pos m)) is

pub wide_low : (n : ℕ) → is_wide (pos n) ≡ true → n < 2 ^ 64
wide_low n h = let e : n ≤ 2 ^ 63 - 1 = leb-true n (2 ^ 63 - 1) h in omega arith

pub wide_negative : (n : ℕ) → is_wide (negsuc n) ≡ true → suc n < 2 ^ 64
wide_negative n h = let e : n ≤ 2 ^ 63 - 1 = leb-true n (2 ^ 63 - 1) (and_parts (leb n (2 ^ 63 - 1)) true h).0 in omega arith

signed_integer : (n : ℤ) → is_wide n ≡ true → is_integer (signed_decimal n) ≡ true
signed_integer (pos n) h = decimal_integer n (wide_low n h)
signed_integer (negsuc n) h = positive_decimal (suc n) (omega arith) (wide_negative n h)

signed_value : (n : ℤ) → is_wide n ≡ true → signed_digits_value 10 (signed_decimal n) ≡ n
signed_value (pos n) h = signless (decimal n) (some_digits n (wide_low n h)) (are_digits n (wide_low n h)) ∙ ap (λ (m : ℕ). pos m) (decimal_is_IsNumeral n (wide_low n h)).1
signed_value (negsuc n) h = minus (decimal (suc n)) n (decimal_is_IsNumeral (suc n) (wide_negative n h)).1

integer_signed : (n : ℤ) → is_wide n ≡ true → integer_of (signed_decimal n) ≡ Some n
integer_signed n h =
    let v : signed_digits_value 10 (signed_decimal n) ≡ n = signed_value n h in
    integer_by (signed_decimal n) true true (signed_integer n h) (ap is_wide v ∙ h) ∙ ap (λ (m : ℤ). Some m) v

pub index_signed : (n : ℤ) → is_wide n ≡ true → read_index (signed_decimal n) ≡ Ok n
unfolding read_index
index_signed n h = ap (or_fault fault.Number) (integer_signed n h)

pub signed_word : (n : ℤ) → is_wide n ≡ true → IsWord (signed_decimal n) × BeginsNumber (signed_decimal n)
signed_word (pos n) h = decimal_word n (wide_low n h)
signed_word (negsuc n) h = ((refl, decimal_parts (suc n) (wide_negative n h)), (omega arith, omega arith))

-- ---- what stands where

pub bytes_same : (a b : List ℕ) → a ≡ b → bytes_eq a b ≡ true
bytes_same a b is = (bytes_decides a b).1 is

unlike : (b : Bool) → (b ≡ true → ⊥) → b ≡ false
unlike true h = absurd (h refl)
unlike false h = refl

pub bytes_differ : (a b : List ℕ) → a ≢ b → bytes_eq a b ≡ false
bytes_differ a b other = unlike (bytes_eq a b) (λ e. other ((bytes_decides a b).0 e))

pub position_at : {X : Type 0} (p : X → Bool) (xs : List X) (i : ℕ) (d : X) → i < length xs → ((k : ℕ) → k < i → p (get_or xs k d) ≡ false) → p (get_or xs i d) ≡ true → position p xs ≡ Some i
position_at p xs i d low before at =
    let e : position_or_len p xs ≡ i = position_or_len_is p xs i d (omega arith) before (λ _. at) in
    rw e (rw (lt-ltb i (length xs) low) refl)

pub text_place_at : (strings : List (List ℕ)) (i : ℕ) → AllPairs (λ a b. a ≢ b) strings → i < length strings → text_place strings (slice_index_or strings i []) ≡ Some i
text_place_at strings i differ low =
    let text : List ℕ = slice_index_or strings i [] in
    position_at (λ other. bytes_eq text other) strings i [] low (λ k below. bytes_differ text (get_or strings k []) (λ same. differ k i [] below low (sym same))) (bytes_same text text refl)

-- ---- keys and values

pub numbers_are_no_strings : (word : List ℕ) → BeginsNumber word → is_string word ≡ false
numbers_are_no_strings [] h = absurd h
numbers_are_no_strings (b ∷ bytes) h = let low : 45 ≤ b = h.0 in ne_eqb b 34 (λ e. omega arith)

pub numbers_are_not_none : (word : List ℕ) → BeginsNumber word → bytes_eq word (codes "None") ≡ false
numbers_are_not_none [] h = absurd h
numbers_are_not_none (b ∷ bytes) h = let high : b ≤ 57 = h.1 in rw (ne_eqb b 78 (λ e. omega arith)) refl

abbrev key_by : List (List ℕ) → List ℕ → Bool → Result Key Fault
key_by strings token is = cond is (or_fault fault.String (text_place strings (text_of token)) >>= λ place. Ok (key.Text (record { 0 = place }))) (read_index token >>= λ n. Ok (key.Int n))

key_is : (strings : List (List ℕ)) (token : List ℕ) (is : Bool) → is_string token ≡ is → known_key strings token ≡ key_by strings token is
unfolding known_key
key_is strings token is same = rw same refl

abbrev text_key : ℕ → Result Key Fault
text_key place = Ok (key.Text (record { 0 = place }))

abbrev int_key : ℤ → Result Key Fault
int_key n = Ok (key.Int n)

pub key_back : (strings : List (List ℕ)) (found : Key) → AllPairs (λ a b. a ≢ b) strings → IsKeyOf (length strings) found → IsWideKey found → known_key strings (key_text strings found) ≡ Ok found
key_back strings (key.Int n) differ of wide =
    key_is strings (signed_decimal n) false (numbers_are_no_strings (signed_decimal n) (signed_word n wide).1) ∙ ap (λ (r : Result ℤ Fault). r >>= int_key) (index_signed n wide)
key_back strings (key.Text symbol) differ of wide =
    let text : List ℕ = slice_index_or strings symbol.0 [] in
    key_is strings (quoted text) true refl
    ∙ ap (λ (t : List ℕ). or_fault fault.String (text_place strings t) >>= text_key) (text_of_quoted text)
    ∙ ap (λ (o : Option ℕ). or_fault fault.String o >>= text_key) (text_place_at strings symbol.0 differ of)

abbrev value_by : List (List ℕ) → List ℕ → Bool → Result Value Fault
value_by strings token is = cond is (Ok value.Nothing) (known_key strings token >>= λ found. Ok (as_value found))

value_is : (strings : List (List ℕ)) (token : List ℕ) (is : Bool) → bytes_eq token (codes "None") ≡ is → known_value strings token ≡ value_by strings token is
unfolding known_value
value_is strings token is same = rw same refl

abbrev key_value : Key → Result Value Fault
key_value found = Ok (as_value found)

pub value_back : (strings : List (List ℕ)) (found : Value) → AllPairs (λ a b. a ≢ b) strings → IsValueOf (length strings) found → IsWideValue found → known_value strings (value_text strings found) ≡ Ok found
value_back strings value.Nothing differ of wide = value_is strings (codes "None") true refl
value_back strings (value.Int n) differ of wide =
    value_is strings (signed_decimal n) false (numbers_are_not_none (signed_decimal n) (signed_word n wide).1) ∙ ap (λ (r : Result Key Fault). r >>= key_value) (key_back strings (key.Int n) differ tt wide)
value_back strings (value.Text symbol) differ of wide =
    value_is strings (quoted (slice_index_or strings symbol.0 [])) false refl ∙ ap (λ (r : Result Key Fault). r >>= key_value) (key_back strings (key.Text symbol) differ of tt)

abbrev with_second : List (List ℕ) → List ℕ → Key → Result (Key × Value) Fault
with_second strings second found = known_value strings second >>= λ stored. Ok (found, stored)

abbrev with_key : Key → Value → Result (Key × Value) Fault
with_key found stored = Ok (found, stored)

pub pair_back : (strings : List (List ℕ)) (found : Key) (stored : Value) → AllPairs (λ a b. a ≢ b) strings → IsKeyOf (length strings) found → IsWideKey found → IsValueOf (length strings) stored → IsWideValue stored →
    known_pair strings (key_text strings found) (value_text strings stored) ≡ Ok (found, stored)
unfolding known_pair
pair_back strings found stored differ kof kwide vof vwide =
    ap (λ (r : Result Key Fault). r >>= with_second strings (value_text strings stored)) (key_back strings found differ kof kwide)
    ∙ ap (λ (r : Result Value Fault). r >>= with_key found) (value_back strings stored differ vof vwide)

-- ---- their tokens

pub key_is_cut : (strings : List (List ℕ)) (found : Key) → IsWideKey found → IsCut (key_text strings found) (key_text strings found ∷ [])
key_is_cut strings (key.Int n) wide = word_is_cut (signed_decimal n) (signed_word n wide).0
key_is_cut strings (key.Text symbol) wide = string_is_cut (slice_index_or strings symbol.0 [])

pub value_is_cut : (strings : List (List ℕ)) (found : Value) → IsWideValue found → IsCut (value_text strings found) (value_text strings found ∷ [])
value_is_cut strings value.Nothing wide = word_is_cut (codes "None") (refl, refl)
value_is_cut strings (value.Int n) wide = word_is_cut (signed_decimal n) (signed_word n wide).0
value_is_cut strings (value.Text symbol) wide = string_is_cut (slice_index_or strings symbol.0 [])

-- a key or a value begins with a digit, a minus, a quotation mark or an `N`
abbrev pub BeginsShown : List ℕ → Type 0
BeginsShown [] = ⊥
BeginsShown (b ∷ bytes) = (b ≤ 57) ⊎ (b ≡ 78)

pub number_shown : (word : List ℕ) → BeginsNumber word → BeginsShown word
number_shown [] h = h
number_shown (b ∷ bytes) h = inl h.1

pub key_begins : (strings : List (List ℕ)) (found : Key) → IsWideKey found → BeginsShown (key_text strings found)
key_begins strings (key.Int n) wide = number_shown (signed_decimal n) (signed_word n wide).1
key_begins strings (key.Text symbol) wide = inl (omega arith)

pub value_begins : (strings : List (List ℕ)) (found : Value) → IsWideValue found → BeginsShown (value_text strings found)
value_begins strings value.Nothing wide = inr refl
value_begins strings (value.Int n) wide = number_shown (signed_decimal n) (signed_word n wide).1
value_begins strings (value.Text symbol) wide = inl (omega arith)

-- ---- a text that stands in no place yet

pub position_none : {X : Type 0} (p : X → Bool) (xs : List X) (d : X) → ((k : ℕ) → k < length xs → p (get_or xs k d) ≡ false) → position p xs ≡ None
position_none p xs d fails =
    let e : position_or_len p xs ≡ length xs = position_or_len_is p xs (length xs) d (omega arith) fails (λ low. absurd (omega arith)) in
    rw e (rw (le-ltb (length xs) (length xs) (omega arith)) refl)

pub text_missing : (strings : List (List ℕ)) (i : ℕ) (d text : List ℕ) → AllPairs (λ a b. a ≢ b) strings → i < length strings → text ≡ get_or strings i d → text_place (take i strings) text ≡ None
text_missing strings i d text differ low is =
    let short : length (take i strings) ≡ i = omega (arith, length-take i strings) in
    position_none (λ other. bytes_eq text other) (take i strings) d (λ k below.
    let at : get_or (take i strings) k d ≡ get_or strings k d = get_or-take i strings k d (omega arith) in
    bytes_differ text (get_or (take i strings) k d) (λ same. differ k i d (omega arith) low (sym at ∙ sym same ∙ is)))
