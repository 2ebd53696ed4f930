-- What the words of a line say.
use Rattle.std.specs.Prelude.{ℕ, ℤ, ◌-◌, ◌^◌, Bool, true, false, ◌==◌, ◌&&◌, nat_le, negsuc, int_le, pos, List, [], ◌∷◌, length, drop, Option, Some, None, if◌then◌else◌}
use Rattle.std.specs.List.{list_all}
use Rattle.std.specs.Str.Parse.{signed_digits_value}
use Rattle.ft_model.specs.Names.{is_digit}

-- ---- integers

-- a digit from 1 to 9, and then digits
abbrev pub is_positive : List ℕ → Bool
is_positive [] = false
is_positive (b ∷ bytes) = nat_le 49 b && nat_le b 57 && list_all is_digit bytes

-- an integer in decimal, however large: `0`, or digits that don't begin with `0`, maybe after `-` (profile)
abbrev pub is_integer : List ℕ → Bool
is_integer [] = false
is_integer (b ∷ bytes) =
    if b == 48 then length bytes == 0 else (if b == 45 then is_positive bytes else is_positive (b ∷ bytes))

-- from -2^63 to 2^63 - 1
abbrev pub is_wide : ℤ → Bool
is_wide n = int_le (negsuc (2 ^ 63 - 1)) n && int_le n (pos (2 ^ 63 - 1))

-- the integer of 64 bits that a word is
unfoldable pub integer_of : List ℕ → Option ℤ
integer_of word =
    if is_integer word && is_wide (signed_digits_value 10 word) then Some (signed_digits_value 10 word) else None

-- the number that a word is
abbrev pub natural_of : ℤ → ℕ
natural_of (pos n) = n
natural_of (negsuc n) = 0

-- ---- strings

-- a word that is a string
abbrev pub is_string : List ℕ → Bool
is_string [] = false
is_string (b ∷ bytes) = b == 34

-- the byte that stands after a backslash as this
abbrev pub unescaped : ℕ → ℕ
unescaped b = if b == 110 then 10 else (if b == 116 then 9 else b)

-- the bytes up to the next mark, or from after a backslash on
abbrev pub text_from : Bool → List ℕ → List ℕ
text_from after [] = []
text_from true (b ∷ bytes) = unescaped b ∷ text_from false bytes
text_from false (b ∷ bytes) =
    if b == 92 then text_from true bytes else (if b == 34 then [] else b ∷ text_from false bytes)

-- what a string says: the bytes between its marks, each escape being one byte
unfoldable pub text_of : List ℕ → List ℕ
text_of word = text_from false (drop 1 word)
