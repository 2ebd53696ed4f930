-- Cutting a line into tokens.
use Rattle.std.proofs.Common.{◌≡◌, ℕ, ◌+◌, ◌<◌, ◌≤◌, Bool, true, false, cond, List, [], ◌∷◌, ◌++◌, length, take, drop, get_or, refl, sym, ap, ◌∙◌, arith, ◌-◌}
use Rattle.std.proofs.lemmas.List.{append-nil}
use Rattle.ft_script.specs.declared.lines.Place.{Place}
use Rattle.ft_script.specs.declared.lines.Place.TheVariants as place
use Rattle.ft_script.specs.Lines.{with_first}
use Rattle.ft_script.specs.Internal.Tokens.{is_gap, is_mark, token_place_after, token_ends, token_start, fronted, token_parted, tokens_from}
use Rattle.ft_script.proofs.WordCuts.{onto, at_place, onto_byte, onto_more, ended, part, part_more, part_first, at_index, nothing_left, last_part, last_word, cut_after}

-- the tokens of a line, of which some are cut already, and a part of one
abbrev pub resumed : List (List ℕ) → Place → List ℕ → List (List ℕ) → List (List ℕ)
resumed cut at part rest = cut ++ at_place at part rest

abbrev part_after : Place → Bool → List ℕ → ℕ → List ℕ
part_after place.Between ends part b = b ∷ []
part_after other true part b = b ∷ []
part_after other false part b = part ++ b ∷ []

-- the byte begins a token, goes on with one, or begins one after another
begins : (cut : List (List ℕ)) (b : ℕ) (tokens : List (List ℕ)) → cut ++ with_first b tokens ≡ cut ++ onto (b ∷ []) tokens
begins cut b tokens = ap (λ (l : List (List ℕ)). cut ++ l) (onto_byte b tokens)

goes_on : (cut : List (List ℕ)) (part : List ℕ) (b : ℕ) (tokens : List (List ℕ)) → cut ++ onto part (with_first b tokens) ≡ cut ++ onto (part ++ b ∷ []) tokens
goes_on cut part b tokens = ap (λ (l : List (List ℕ)). cut ++ l) (onto_more part b tokens)

follows : (cut : List (List ℕ)) (part : List ℕ) (b : ℕ) (tokens : List (List ℕ)) → cut ++ onto part ([] ∷ with_first b tokens) ≡ (cut ++ part ∷ []) ++ onto (b ∷ []) tokens
follows cut part b tokens = ended cut part (with_first b tokens) ∙ ap (λ (l : List (List ℕ)). (cut ++ part ∷ []) ++ l) (onto_byte b tokens)

abbrev Moves : Place → Place → List (List ℕ) → List ℕ → ℕ → List (List ℕ) → Type 0
Moves at next cut part b tokens = resumed cut at part (token_parted (token_ends at next) (fronted b next tokens)) ≡ resumed (cut_after cut part (token_ends at next)) next (part_after at (token_ends at next) part b) tokens

one_byte : (at next : Place) (cut : List (List ℕ)) (part : List ℕ) (b : ℕ) (tokens : List (List ℕ)) → Moves at next cut part b tokens
one_byte place.Between place.Between cut part b tokens = refl
one_byte place.Between place.Plain cut part b tokens = begins cut b tokens
one_byte place.Between place.String cut part b tokens = begins cut b tokens
one_byte place.Between place.Escape cut part b tokens = begins cut b tokens
one_byte place.Between place.Ended cut part b tokens = begins cut b tokens
one_byte place.Plain place.Between cut part b tokens = ended cut part tokens
one_byte place.Plain place.Plain cut part b tokens = goes_on cut part b tokens
one_byte place.Plain place.String cut part b tokens = goes_on cut part b tokens
one_byte place.Plain place.Escape cut part b tokens = goes_on cut part b tokens
one_byte place.Plain place.Ended cut part b tokens = follows cut part b tokens
one_byte place.String place.Between cut part b tokens = ended cut part tokens
one_byte place.String place.Plain cut part b tokens = goes_on cut part b tokens
one_byte place.String place.String cut part b tokens = goes_on cut part b tokens
one_byte place.String place.Escape cut part b tokens = goes_on cut part b tokens
one_byte place.String place.Ended cut part b tokens = goes_on cut part b tokens
one_byte place.Escape place.Between cut part b tokens = ended cut part tokens
one_byte place.Escape place.Plain cut part b tokens = goes_on cut part b tokens
one_byte place.Escape place.String cut part b tokens = goes_on cut part b tokens
one_byte place.Escape place.Escape cut part b tokens = goes_on cut part b tokens
one_byte place.Escape place.Ended cut part b tokens = goes_on cut part b tokens
one_byte place.Ended place.Between cut part b tokens = ended cut part tokens
one_byte place.Ended place.Plain cut part b tokens = follows cut part b tokens
one_byte place.Ended place.String cut part b tokens = follows cut part b tokens
one_byte place.Ended place.Escape cut part b tokens = follows cut part b tokens
one_byte place.Ended place.Ended cut part b tokens = follows cut part b tokens

-- the definition, at a byte
pub at_byte : (at : Place) (b : ℕ) (bytes : List ℕ) → tokens_from at (b ∷ bytes) ≡ token_parted (token_ends at (token_place_after at b)) (fronted b (token_place_after at b) (tokens_from (token_place_after at b) bytes))
unfolding tokens_from
at_byte place.Between b bytes = refl
at_byte place.Plain b bytes = refl
at_byte place.String b bytes = refl
at_byte place.Escape b bytes = refl
at_byte place.Ended b bytes = refl

part_next : (at : Place) (ends : Bool) (line : List ℕ) (start i : ℕ) → start ≤ i → i < length line → part_after at ends (part line start i) (get_or line i 0) ≡ part line (token_start at ends start i) (i + 1)
part_next place.Between ends line start i low high = part_first line i high
part_next place.Plain true line start i low high = part_first line i high
part_next place.Plain false line start i low high = part_more line start i low high
part_next place.String true line start i low high = part_first line i high
part_next place.String false line start i low high = part_more line start i low high
part_next place.Escape true line start i low high = part_first line i high
part_next place.Escape false line start i low high = part_more line start i low high
part_next place.Ended true line start i low high = part_first line i high
part_next place.Ended false line start i low high = part_more line start i low high

pub cut_on : (line : List ℕ) (cut : List (List ℕ)) (at next : Place) (ends : Bool) (start i from : ℕ) (whole : List (List ℕ)) → i < length line → start ≤ i →
    next ≡ token_place_after at (get_or line i 0) → ends ≡ token_ends at next → from ≡ token_start at ends start i →
    resumed cut at (part line start i) (tokens_from at (drop i line)) ≡ whole →
    resumed (cut_after cut (part line start i) ends) next (part line from (i + 1)) (tokens_from next (drop (i + 1) line)) ≡ whole
cut_on line cut at next ends start i from whole low high is_next is_ends is_from so_far =
    let b : ℕ = get_or line i 0 in
    let there : Place = token_place_after at b in
    let e : Bool = token_ends at there in
    let rest : List (List ℕ) = tokens_from there (drop (i + 1) line) in
    let here : tokens_from at (drop i line) ≡ token_parted e (fronted b there rest) = ap (tokens_from at) (at_index line i low) ∙ at_byte at b (drop (i + 1) line) in
    let moved : resumed (cut_after cut (part line start i) e) there (part line (token_start at e start i) (i + 1)) rest ≡ whole =
    ap (λ (p : List ℕ). resumed (cut_after cut (part line start i) e) there p rest) (sym (part_next at e line start i high low))
    ∙ sym (one_byte at there cut (part line start i) b rest) ∙ ap (resumed cut at (part line start i)) (sym here) ∙ so_far in
    rw (is_from, is_ends, is_next) moved

-- a byte of a plain token that goes on
plain_on : (b : ℕ) → is_gap b ≡ false → is_mark b ≡ false → place.Plain ≡ token_place_after place.Plain b
plain_on b no_gap no_mark = rw (no_gap, no_mark) refl

pub cut_plain_on : (line : List ℕ) (cut : List (List ℕ)) (at : Place) (start i : ℕ) (whole : List (List ℕ)) → i < length line → start ≤ i →
    at ≡ place.Plain → is_gap (get_or line i 0) ≡ false → is_mark (get_or line i 0) ≡ false →
    resumed cut at (part line start i) (tokens_from at (drop i line)) ≡ whole →
    resumed cut at (part line start (i + 1)) (tokens_from at (drop (i + 1) line)) ≡ whole
cut_plain_on line cut at start i whole low high plain no_gap no_mark so_far =
    let before : resumed cut place.Plain (part line start i) (tokens_from place.Plain (drop i line)) ≡ whole = rw plain at so_far in
    rw plain (cut_on line cut place.Plain place.Plain false start i start whole low high (plain_on (get_or line i 0) no_gap no_mark) refl refl before)

start_low : (at : Place) (ends : Bool) (start i : ℕ) → start ≤ i → token_start at ends start i ≤ i
start_low place.Between ends start i low = omega arith
start_low place.Plain true start i low = omega arith
start_low place.Plain false start i low = low
start_low place.String true start i low = omega arith
start_low place.String false start i low = low
start_low place.Escape true start i low = omega arith
start_low place.Escape false start i low = low
start_low place.Ended true start i low = omega arith
start_low place.Ended false start i low = low

pub start_within : (at : Place) (ends : Bool) (start i from : ℕ) → start ≤ i → from ≡ token_start at ends start i → from ≤ i + 1
start_within at ends start i from low is = let h : token_start at ends start i ≤ i = start_low at ends start i low in omega arith

pub no_bytes : (at : Place) → tokens_from at [] ≡ cond (token_ends at place.Between) ([] ∷ []) []
unfolding tokens_from
no_bytes place.Between = refl
no_bytes place.Plain = refl
no_bytes place.String = refl
no_bytes place.Escape = refl
no_bytes place.Ended = refl

left_over : (at : Place) (cut : List (List ℕ)) (part : List ℕ) → resumed cut at part (cond (token_ends at place.Between) ([] ∷ []) []) ≡ cut_after cut part (token_ends at place.Between)
left_over place.Between cut part = append-nil cut
left_over place.Plain cut part = last_word cut part
left_over place.String cut part = last_word cut part
left_over place.Escape cut part = last_word cut part
left_over place.Ended cut part = last_word cut part

pub cut_done : (line : List ℕ) (cut : List (List ℕ)) (at : Place) (start i : ℕ) (whole : List (List ℕ)) → length line ≤ i →
    resumed cut at (part line start i) (tokens_from at (drop i line)) ≡ whole → cut_after cut (take (length line - start) (drop start line)) (token_ends at place.Between) ≡ whole
cut_done line cut at start i whole past so_far =
    ap (λ (p : List ℕ). cut_after cut p (token_ends at place.Between)) (sym (last_part line start i past))
    ∙ sym (left_over at cut (part line start i))
    ∙ ap (resumed cut at (part line start i)) (sym (ap (tokens_from at) (nothing_left line i past) ∙ no_bytes at))
    ∙ so_far
