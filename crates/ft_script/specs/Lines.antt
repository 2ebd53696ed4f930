-- The lines of a text, and the words of a line. (profile)
use Rattle.std.specs.Prelude.{ℕ, Bool, true, false, ◌||◌, ◌==◌, nat_lt, not, ◌&&◌, List, [], ◌∷◌, length, codes, Option, option_map, Some, None, if◌then◌else◌}
use Rattle.std.specs.List.{find, slice_split}
use Rattle.std.specs.Str.{bytes_eq}
use Rattle.ft_script.specs.declared.lines.Place.{Place}
use Rattle.ft_script.specs.declared.lines.Place.TheVariants as place

-- ---- lines

-- a byte in front of the first of some lists
abbrev pub with_first : ℕ → List (List ℕ) → List (List ℕ)
with_first b [] = (b ∷ []) ∷ []
with_first b (first ∷ others) = (b ∷ first) ∷ others

-- each line ends with a line feed, which may be missing at the end of the text
unfoldable pub lines_of : List ℕ → List (List ℕ)
lines_of [] = []
lines_of (b ∷ bytes) = if b == 10 then [] ∷ lines_of bytes else with_first b (lines_of bytes)

-- ---- words

-- a byte that stands in a string as it is: no mark, no backslash and no control character
abbrev pub is_plain : ℕ → Bool
is_plain b = not (nat_lt b 32) && not (b == 127)

-- what stands after a backslash: `"`, `\`, `n` or `t`
abbrev pub is_escape : ℕ → Bool
is_escape b = b == 34 || b == 92 || b == 110 || b == 116

-- where a byte leads: between words, in a plain word, in a string, after a backslash in it, or after its end; a string
-- ends its word
abbrev pub place_after : Place → ℕ → Option Place
place_after place.Between b =
    if b == 32 then Some place.Between else (if b == 34 then Some place.String else Some place.Plain)
place_after place.Plain b = if b == 32 then Some place.Between else Some place.Plain
place_after place.String b =
    if b == 34 then Some place.Ended
    else (if b == 92 then Some place.Escape else (if is_plain b then Some place.String else None))
place_after place.Escape b = if is_escape b then Some place.String else None
place_after place.Ended b = if b == 32 then Some place.Between else None

-- what a byte between two places adds to the words after it, of which the first goes on with the byte but for between
-- words
abbrev pub byte_joined : Place → ℕ → Place → List (List ℕ) → List (List ℕ)
byte_joined place.Between b place.Between words = words
byte_joined other b place.Between words = [] ∷ words
byte_joined other b within words = with_first b words

-- whether a word ends between two places
abbrev pub word_ends : Place → Place → Bool
word_ends place.Between next = false
word_ends other place.Between = true
word_ends other within = false

-- where the word of a place begins, where one that begins at this byte begins here
abbrev pub word_start : Place → ℕ → ℕ → ℕ
word_start place.Between start here = here
word_start other start here = start

-- the words from a place on, the first of them being what is left of the word there; none where a string isn't closed
-- or has what no string has
unfoldable pub words_from : Place → List ℕ → Option (List (List ℕ))
words_from place.Between [] = Some []
words_from place.Plain [] = Some ([] ∷ [])
words_from place.String [] = None
words_from place.Escape [] = None
words_from place.Ended [] = Some ([] ∷ [])
words_from at (b ∷ bytes) =
    elim (place_after at b) [ None ↦ None | Some next ↦ option_map (byte_joined at b next) (words_from next bytes) ]

-- the words of a line, parted by spaces; a space in a string doesn't part
abbrev pub words_of : List ℕ → Option (List (List ℕ))
words_of line = words_from place.Between line

-- a line that is passed over
abbrev pub is_comment : List ℕ → Bool
is_comment [] = false
is_comment (b ∷ line) = b == 35

-- the first of what stands between spaces
abbrev pub first_word : List ℕ → Option (List ℕ)
first_word line = find (λ word. not (length word == 0)) (slice_split (λ b. b == 32) line)

abbrev pub is_word : List ℕ → Option (List ℕ) → Bool
is_word word None = false
is_word word (Some other) = bytes_eq other word

-- a line that ends the calls of the thread above it, whatever else it has
abbrev pub ends_thread : List ℕ → Bool
ends_thread line = is_word (codes "thread") (first_word line) || is_word (codes "order") (first_word line)
