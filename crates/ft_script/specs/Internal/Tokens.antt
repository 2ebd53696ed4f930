-- The tokens of the lines of a transcript: what stands between spaces, commas and line feeds, where a string is one
-- token, and so is each of `:`, `[`, `]`, `{` and `}`. (profile)
use Rattle.std.specs.Prelude.{ℕ, Bool, true, false, ◌||◌, ◌==◌, List, [], ◌∷◌, if◌then◌else◌}
use Rattle.std.specs.List.{before_first, after_first}
use Rattle.std.specs.Str.{bytes_eq}
use Rattle.ft_script.specs.declared.lines.Place.{Place}
use Rattle.ft_script.specs.declared.lines.Place.TheVariants as place
use Rattle.ft_script.specs.Lines.{with_first}

-- a byte between tokens: a space, a comma or a line feed
abbrev pub is_gap : ℕ → Bool
is_gap b = b == 32 || b == 44 || b == 10

-- a byte that is a token by itself
abbrev pub is_mark : ℕ → Bool
is_mark b = b == 58 || b == 91 || b == 93 || b == 123 || b == 125

-- where a byte leads that goes on with no token
abbrev pub place_at : ℕ → Place
place_at b =
    if is_gap b then place.Between
    else (if is_mark b then place.Ended else (if b == 34 then place.String else place.Plain))

-- where a byte leads
abbrev pub token_place_after : Place → ℕ → Place
token_place_after place.Between b = place_at b
token_place_after place.Ended b = place_at b
token_place_after place.Plain b = if is_gap b then place.Between else (if is_mark b then place.Ended else place.Plain)
token_place_after place.String b = if b == 34 then place.Ended else (if b == 92 then place.Escape else place.String)
token_place_after place.Escape b = place.String

-- whether a token ends between two places
abbrev pub token_ends : Place → Place → Bool
token_ends place.Between next = false
token_ends place.Ended next = true
token_ends place.Plain place.Ended = true
token_ends other place.Between = true
token_ends other next = false

-- where the token of a place begins, where one that begins at this byte begins here
abbrev pub token_start : Place → Bool → ℕ → ℕ → ℕ
token_start place.Between ends start here = here
token_start other ends start here = if ends then here else start

-- a byte in front of the tokens after it, the first of which goes on with it but for between tokens
abbrev pub fronted : ℕ → Place → List (List ℕ) → List (List ℕ)
fronted b place.Between tokens = tokens
fronted b other tokens = with_first b tokens

-- and the token above it ends there or goes on
abbrev pub token_parted : Bool → List (List ℕ) → List (List ℕ)
token_parted ends tokens = if ends then [] ∷ tokens else tokens

-- the tokens from a place on, the first of them being what is left of the token there
unfoldable pub tokens_from : Place → List ℕ → List (List ℕ)
tokens_from place.Between [] = []
tokens_from other [] = [] ∷ []
tokens_from at (b ∷ bytes) =
    token_parted (token_ends at (token_place_after at b))
    (fronted b (token_place_after at b) (tokens_from (token_place_after at b) bytes))

abbrev pub tokens_of : List ℕ → List (List ℕ)
tokens_of line = tokens_from place.Between line

-- the tokens before the first that is this word, or all, and those after it
abbrev pub before_word : List ℕ → List (List ℕ) → List (List ℕ)
before_word word tokens = before_first (λ token. bytes_eq token word) tokens

abbrev pub after_word : List ℕ → List (List ℕ) → List (List ℕ)
after_word word tokens = after_first (λ token. bytes_eq token word) tokens
