-- Cutting a line into words, and a string into the bytes that it says.
use Rattle.std.proofs.Common.{◌≡◌, ◌≢◌, ℕ, suc, ◌+◌, ◌-◌, ◌<◌, ◌≤◌, Bool, cond, List, [], ◌∷◌, ◌++◌, length, take, drop, get_or, Option, Some, None, refl, sym, ap, ◌∙◌, arith, append_assoc, drop-cons}
use Rattle.std.specs.Option.{option_map}
use Rattle.std.proofs.lemmas.Bool.{ne_eqb}
use Rattle.std.proofs.lemmas.List.{append-nil, take_all, take_more, length-drop, get_or-drop}
use Rattle.std.proofs.Math.ListN.{drop_of_length-le}
use Rattle.ft_script.specs.declared.lines.Place.{Place}
use Rattle.ft_script.specs.declared.lines.Place.TheVariants as place
use Rattle.ft_script.specs.Lines.{with_first, byte_joined, place_after, word_ends, word_start, words_from}

-- ---- words

-- a part of a word in front of the first of some words
abbrev pub onto : List ℕ → List (List ℕ) → List (List ℕ)
onto part [] = part ∷ []
onto part (word ∷ words) = (part ++ word) ∷ words

abbrev pub at_place : Place → List ℕ → List (List ℕ) → List (List ℕ)
at_place place.Between part words = words
at_place other part words = onto part words

-- the words of a line, of which some are cut already, and a part of one
abbrev pub resumed : List (List ℕ) → Place → List ℕ → Option (List (List ℕ)) → Option (List (List ℕ))
resumed cut at part rest = option_map (λ words. cut ++ at_place at part words) rest

abbrev pub cut_after : List (List ℕ) → List ℕ → Bool → List (List ℕ)
cut_after cut part ends = cond ends (cut ++ part ∷ []) cut

pub onto_byte : (b : ℕ) (words : List (List ℕ)) → with_first b words ≡ onto (b ∷ []) words
onto_byte b [] = refl
onto_byte b (word ∷ words) = refl

pub onto_more : (part : List ℕ) (b : ℕ) (words : List (List ℕ)) → onto part (with_first b words) ≡ onto (part ++ b ∷ []) words
onto_more part b [] = refl
onto_more part b (word ∷ words) = ap (λ (w : List ℕ). w ∷ words) (sym (append_assoc part (b ∷ []) word))

pub ended : (cut : List (List ℕ)) (part : List ℕ) (words : List (List ℕ)) → cut ++ onto part ([] ∷ words) ≡ (cut ++ part ∷ []) ++ words
ended cut part words = ap (λ (w : List ℕ). cut ++ (w ∷ words)) (append-nil part) ∙ sym (append_assoc cut (part ∷ []) words)

-- the part after a further byte
abbrev part_after : Place → List ℕ → ℕ → List ℕ
part_after place.Between part b = b ∷ []
part_after other part b = part ++ b ∷ []

one_byte : (at next : Place) (cut : List (List ℕ)) (part : List ℕ) (b : ℕ) (words : List (List ℕ)) →
    cut ++ at_place at part (byte_joined at b next words) ≡ cut_after cut part (word_ends at next) ++ at_place next (part_after at part b) words
one_byte place.Between place.Between cut part b words = refl
one_byte place.Between place.Plain cut part b words = ap (λ (l : List (List ℕ)). cut ++ l) (onto_byte b words)
one_byte place.Between place.String cut part b words = ap (λ (l : List (List ℕ)). cut ++ l) (onto_byte b words)
one_byte place.Between place.Escape cut part b words = ap (λ (l : List (List ℕ)). cut ++ l) (onto_byte b words)
one_byte place.Between place.Ended cut part b words = ap (λ (l : List (List ℕ)). cut ++ l) (onto_byte b words)
one_byte place.Plain place.Between cut part b words = ended cut part words
one_byte place.Plain place.Plain cut part b words = ap (λ (l : List (List ℕ)). cut ++ l) (onto_more part b words)
one_byte place.Plain place.String cut part b words = ap (λ (l : List (List ℕ)). cut ++ l) (onto_more part b words)
one_byte place.Plain place.Escape cut part b words = ap (λ (l : List (List ℕ)). cut ++ l) (onto_more part b words)
one_byte place.Plain place.Ended cut part b words = ap (λ (l : List (List ℕ)). cut ++ l) (onto_more part b words)
one_byte place.String place.Between cut part b words = ended cut part words
one_byte place.String place.Plain cut part b words = ap (λ (l : List (List ℕ)). cut ++ l) (onto_more part b words)
one_byte place.String place.String cut part b words = ap (λ (l : List (List ℕ)). cut ++ l) (onto_more part b words)
one_byte place.String place.Escape cut part b words = ap (λ (l : List (List ℕ)). cut ++ l) (onto_more part b words)
one_byte place.String place.Ended cut part b words = ap (λ (l : List (List ℕ)). cut ++ l) (onto_more part b words)
one_byte place.Escape place.Between cut part b words = ended cut part words
one_byte place.Escape place.Plain cut part b words = ap (λ (l : List (List ℕ)). cut ++ l) (onto_more part b words)
one_byte place.Escape place.String cut part b words = ap (λ (l : List (List ℕ)). cut ++ l) (onto_more part b words)
one_byte place.Escape place.Escape cut part b words = ap (λ (l : List (List ℕ)). cut ++ l) (onto_more part b words)
one_byte place.Escape place.Ended cut part b words = ap (λ (l : List (List ℕ)). cut ++ l) (onto_more part b words)
one_byte place.Ended place.Between cut part b words = ended cut part words
one_byte place.Ended place.Plain cut part b words = ap (λ (l : List (List ℕ)). cut ++ l) (onto_more part b words)
one_byte place.Ended place.String cut part b words = ap (λ (l : List (List ℕ)). cut ++ l) (onto_more part b words)
one_byte place.Ended place.Escape cut part b words = ap (λ (l : List (List ℕ)). cut ++ l) (onto_more part b words)
one_byte place.Ended place.Ended cut part b words = ap (λ (l : List (List ℕ)). cut ++ l) (onto_more part b words)

one_byte_of : (at next : Place) (cut : List (List ℕ)) (part : List ℕ) (b : ℕ) (rest : Option (List (List ℕ))) →
    resumed cut at part (option_map (byte_joined at b next) rest) ≡ resumed (cut_after cut part (word_ends at next)) next (part_after at part b) rest
one_byte_of at next cut part b None = refl
one_byte_of at next cut part b (Some words) = ap (λ (l : List (List ℕ)). Some l) (one_byte at next cut part b words)

abbrev pub after_byte : Place → ℕ → List ℕ → Option Place → Option (List (List ℕ))
after_byte at b bytes next = elim next [ None ↦ None | Some p ↦ option_map (byte_joined at b p) (words_from p bytes) ]

-- the definition, at a byte
at_byte : (at : Place) (b : ℕ) (bytes : List ℕ) → words_from at (b ∷ bytes) ≡ after_byte at b bytes (place_after at b)
unfolding words_from
at_byte place.Between b bytes = refl
at_byte place.Plain b bytes = refl
at_byte place.String b bytes = refl
at_byte place.Escape b bytes = refl
at_byte place.Ended b bytes = refl

pub from_byte : (at : Place) (b : ℕ) (bytes : List ℕ) (next : Option Place) → place_after at b ≡ next → words_from at (b ∷ bytes) ≡ after_byte at b bytes next
from_byte at b bytes next is = at_byte at b bytes ∙ ap (after_byte at b bytes) is

abbrev pub part : List ℕ → ℕ → ℕ → List ℕ
part line start end = take (end - start) (drop start line)

pub part_more : (line : List ℕ) (start i : ℕ) → start ≤ i → i < length line → part line start i ++ get_or line i 0 ∷ [] ≡ part line start (i + 1)
part_more line start i low high =
    let n : ℕ = i - start in
    let within : n < length (drop start line) = omega (arith, length-drop start line) in
    let same : get_or (drop start line) n 0 ≡ get_or line i 0 = get_or-drop start line n 0 ∙ ap (λ (k : ℕ). get_or line k 0) (omega arith) in
    let next : i + 1 - start ≡ n + 1 = omega arith in
    rw (next, take_more (drop start line) n 0 within, same) refl

pub part_first : (line : List ℕ) (i : ℕ) → i < length line → get_or line i 0 ∷ [] ≡ part line i (i + 1)
part_first line i high =
    let one : i + 1 - i ≡ 1 = omega arith in
    rw (one, drop-cons line i 0 high) refl

part_next : (at : Place) (line : List ℕ) (start i : ℕ) → start ≤ i → i < length line → part_after at (part line start i) (get_or line i 0) ≡ part line (word_start at start i) (i + 1)
part_next place.Between line start i low high = part_first line i high
part_next place.Plain line start i low high = part_more line start i low high
part_next place.String line start i low high = part_more line start i low high
part_next place.Escape line start i low high = part_more line start i low high
part_next place.Ended line start i low high = part_more line start i low high

-- ---- the loop over a line's bytes

pub at_index : (line : List ℕ) (i : ℕ) → i < length line → drop i line ≡ get_or line i 0 ∷ drop (i + 1) line
at_index line i low = let next : suc i ≡ i + 1 = omega arith in drop-cons line i 0 low ∙ ap (λ (k : ℕ). get_or line i 0 ∷ drop k line) next

pushed : (at next : Place) (line : List ℕ) (cut : List (List ℕ)) (start i : ℕ) → cut_after cut (part line (word_start at start i) i) (word_ends at next) ≡ cut_after cut (part line start i) (word_ends at next)
pushed place.Between next line cut start i = refl
pushed place.Plain next line cut start i = refl
pushed place.String next line cut start i = refl
pushed place.Escape next line cut start i = refl
pushed place.Ended next line cut start i = refl

pub cut_on : (line : List ℕ) (cut : List (List ℕ)) (at next : Place) (start i : ℕ) (whole : Option (List (List ℕ))) → i < length line → start ≤ i → place_after at (get_or line i 0) ≡ Some next →
    resumed cut at (part line start i) (words_from at (drop i line)) ≡ whole →
    resumed (cut_after cut (part line (word_start at start i) i) (word_ends at next)) next (part line (word_start at start i) (i + 1)) (words_from next (drop (i + 1) line)) ≡ whole
cut_on line cut at next start i whole low from is so_far =
    let b : ℕ = get_or line i 0 in
    let here : words_from at (drop i line) ≡ option_map (byte_joined at b next) (words_from next (drop (i + 1) line)) = ap (words_from at) (at_index line i low) ∙ from_byte at b (drop (i + 1) line) (Some next) is in
    ap (λ (l : List (List ℕ)). resumed l next (part line (word_start at start i) (i + 1)) (words_from next (drop (i + 1) line))) (pushed at next line cut start i)
    ∙ ap (λ (p : List ℕ). resumed (cut_after cut (part line start i) (word_ends at next)) next p (words_from next (drop (i + 1) line))) (sym (part_next at line start i from low))
    ∙ sym (one_byte_of at next cut (part line start i) b (words_from next (drop (i + 1) line)))
    ∙ ap (resumed cut at (part line start i)) (sym here) ∙ so_far

-- a byte of a plain word that goes on
pub plain_on : (b : ℕ) → b ≢ 32 → place_after place.Plain b ≡ Some place.Plain
plain_on b other = rw (ne_eqb b 32 other) refl

pub cut_plain_on : (line : List ℕ) (cut : List (List ℕ)) (at : Place) (start i : ℕ) (whole : Option (List (List ℕ))) → i < length line → start ≤ i → at ≡ place.Plain → get_or line i 0 ≢ 32 →
    resumed cut at (part line start i) (words_from at (drop i line)) ≡ whole →
    resumed cut at (part line start (i + 1)) (words_from at (drop (i + 1) line)) ≡ whole
cut_plain_on line cut at start i whole low from plain other so_far =
    let before : resumed cut place.Plain (part line start i) (words_from place.Plain (drop i line)) ≡ whole = rw plain at so_far in
    rw plain (cut_on line cut place.Plain place.Plain start i whole low from (plain_on (get_or line i 0) other) before)

pub cut_broken : (line : List ℕ) (cut : List (List ℕ)) (at : Place) (start i : ℕ) (whole : Option (List (List ℕ))) → i < length line → place_after at (get_or line i 0) ≡ None →
    resumed cut at (part line start i) (words_from at (drop i line)) ≡ whole → whole ≡ None
cut_broken line cut at start i whole low is so_far =
    sym so_far ∙ ap (resumed cut at (part line start i)) (ap (words_from at) (at_index line i low) ∙ from_byte at (get_or line i 0) (drop (i + 1) line) None is)

start_low : (at : Place) (start i : ℕ) → start ≤ i → word_start at start i ≤ i + 1
start_low place.Between start i low = omega arith
start_low place.Plain start i low = omega arith
start_low place.String start i low = omega arith
start_low place.Escape start i low = omega arith
start_low place.Ended start i low = omega arith

pub start_within : (at : Place) (start i n : ℕ) → start ≤ i → n ≡ word_start at start i → n ≤ i + 1
start_within at start i n low is = rw is (start_low at start i low)

pub start_here : (at : Place) (start i n : ℕ) → start ≤ i → n ≡ word_start at start i → n ≤ i
start_here place.Between start i n low is = omega arith
start_here place.Plain start i n low is = omega arith
start_here place.String start i n low is = omega arith
start_here place.Escape start i n low is = omega arith
start_here place.Ended start i n low is = omega arith

at_end : (at : Place) → words_from at [] ≡ elim at [ place.Between ↦ Some [] | place.Plain ↦ Some ([] ∷ []) | place.String ↦ None | place.Escape ↦ None | place.Ended ↦ Some ([] ∷ []) ]
unfolding words_from
at_end place.Between = refl
at_end place.Plain = refl
at_end place.String = refl
at_end place.Escape = refl
at_end place.Ended = refl

pub nothing_left : (line : List ℕ) (i : ℕ) → length line ≤ i → drop i line ≡ []
nothing_left line i past = drop_of_length-le line past

pub cut_between : (line : List ℕ) (cut : List (List ℕ)) (start i : ℕ) (whole : Option (List (List ℕ))) → length line ≤ i →
    resumed cut place.Between (part line start i) (words_from place.Between (drop i line)) ≡ whole → whole ≡ Some cut
cut_between line cut start i whole past so_far =
    sym so_far ∙ ap (resumed cut place.Between (part line start i)) (ap (words_from place.Between) (nothing_left line i past) ∙ at_end place.Between) ∙ ap (λ (l : List (List ℕ)). Some l) (append-nil cut)

pub last_part : (line : List ℕ) (start i : ℕ) → length line ≤ i → part line start i ≡ take (length line - start) (drop start line)
last_part line start i past =
    let n : length (drop start line) ≡ length line - start = length-drop start line in
    take_all (i - start) (drop start line) (omega arith) ∙ sym (take_all (length line - start) (drop start line) (omega arith))

pub last_word : (cut : List (List ℕ)) (part : List ℕ) → cut ++ onto part ([] ∷ []) ≡ cut ++ part ∷ []
last_word cut part = ap (λ (w : List ℕ). cut ++ w ∷ []) (append-nil part)

pub cut_plain : (line : List ℕ) (cut : List (List ℕ)) (start i : ℕ) (whole : Option (List (List ℕ))) → length line ≤ i →
    resumed cut place.Plain (part line start i) (words_from place.Plain (drop i line)) ≡ whole → whole ≡ Some (cut ++ take (length line - start) (drop start line) ∷ [])
cut_plain line cut start i whole past so_far =
    sym so_far ∙ ap (resumed cut place.Plain (part line start i)) (ap (words_from place.Plain) (nothing_left line i past) ∙ at_end place.Plain)
    ∙ ap (λ (l : List (List ℕ)). Some l) (last_word cut (part line start i) ∙ ap (λ (p : List ℕ). cut ++ p ∷ []) (last_part line start i past))

pub cut_ended : (line : List ℕ) (cut : List (List ℕ)) (start i : ℕ) (whole : Option (List (List ℕ))) → length line ≤ i →
    resumed cut place.Ended (part line start i) (words_from place.Ended (drop i line)) ≡ whole → whole ≡ Some (cut ++ take (length line - start) (drop start line) ∷ [])
cut_ended line cut start i whole past so_far =
    sym so_far ∙ ap (resumed cut place.Ended (part line start i)) (ap (words_from place.Ended) (nothing_left line i past) ∙ at_end place.Ended)
    ∙ ap (λ (l : List (List ℕ)). Some l) (last_word cut (part line start i) ∙ ap (λ (p : List ℕ). cut ++ p ∷ []) (last_part line start i past))

pub cut_string : (line : List ℕ) (cut : List (List ℕ)) (start i : ℕ) (whole : Option (List (List ℕ))) → length line ≤ i →
    resumed cut place.String (part line start i) (words_from place.String (drop i line)) ≡ whole → whole ≡ None
cut_string line cut start i whole past so_far = sym so_far ∙ ap (resumed cut place.String (part line start i)) (ap (words_from place.String) (nothing_left line i past) ∙ at_end place.String)

pub cut_escape : (line : List ℕ) (cut : List (List ℕ)) (start i : ℕ) (whole : Option (List (List ℕ))) → length line ≤ i →
    resumed cut place.Escape (part line start i) (words_from place.Escape (drop i line)) ≡ whole → whole ≡ None
cut_escape line cut start i whole past so_far = sym so_far ∙ ap (resumed cut place.Escape (part line start i)) (ap (words_from place.Escape) (nothing_left line i past) ∙ at_end place.Escape)

whole_of : (words : Option (List (List ℕ))) → option_map (λ (l : List (List ℕ)). [] ++ l) words ≡ words
whole_of None = refl
whole_of (Some words) = refl

pub cut_begins : (line : List ℕ) (whole : Option (List (List ℕ))) → words_from place.Between line ≡ whole → resumed [] place.Between (part line 0 0) (words_from place.Between line) ≡ whole
cut_begins line whole is = whole_of (words_from place.Between line) ∙ is
