-- The words of lines that are printed, and the lines, read back.
use Rattle.std.proofs.Common.{◌≡◌, ◌≢◌, cond, ℕ, ℤ, pos, negsuc, suc, ◌+◌, ◌^◌, ◌<◌, ◌≤◌, Bool, true, false, not, eqb, leb, ◌&&◌, List, [], ◌∷◌, ◌++◌, length, map, Option, Some, None, refl, sym, ap, ◌∙◌, subst, arith, append_assoc}
use Rattle.std.specs.Prelude.{codes, option_map}
use Rattle.std.specs.List.{list_all, flat_map, join_with_byte, AllByRecursion}
use Rattle.std.specs.Fmt.{decimal, signed_decimal}
use Rattle.std.specs.Str.{IsUtf8}
use Rattle.std.proofs.lemmas.Bool.{and_parts, and_from, eqb-true, leb-true, le-leb, ne_eqb}
use Rattle.std.proofs.lemmas.List.{append-nil}
use Rattle.std.proofs.lemmas.List.Folds.{list_all-append}
use Rattle.std.proofs.lemmas.Str.{IsUtf8-append, IsUtf8-nil}
use Rattle.ft_model.specs.Names.{IsString, is_digit, is_lower, is_upper, is_container_byte, is_container_name, is_text_byte, is_thread_byte, is_thread_name}
use Rattle.ft_script.specs.declared.lines.Place.{Place}
use Rattle.ft_script.specs.declared.lines.Place.TheVariants as place
use Rattle.ft_script.specs.Internal.Readers.{is_feedless}
use Rattle.ft_script.specs.Lines.{byte_joined, is_comment, is_escape, is_plain, lines_of, place_after, with_first, words_from, words_of}
use Rattle.ft_script.specs.LineWords.{is_wide}
use Rattle.ft_script.specs.ScriptTexts.{said_by, said_in, with_words}
use Rattle.ft_script.specs.Texts.{escaped, line, quoted}
use Rattle.ft_script.proofs.Encoded.{cond_is, moved, moved_back, one_encoded, seam}
use Rattle.ft_script.proofs.LineLemmas.{no_lines}
use Rattle.ft_script.proofs.LineLemmas.{lines_cons as lines_byte}
use Rattle.ft_script.proofs.PartTexts.{BeginsNumber, are_digits, decimal_word, wide_low, wide_negative}
use Rattle.ft_script.proofs.SaidLines.{said_first, said_none, said_after}
use Rattle.ft_script.proofs.WordCuts.{from_byte}
use Rattle.ft_script.proofs.WordLemmas.{AreDigits}

-- ---- words that are cut from what stands after them

-- a word in front of the first of some words
abbrev onto : List ℕ → List (List ℕ) → List (List ℕ)
onto [] words = words
onto (b ∷ bytes) words = with_first b (onto bytes words)

onto_new : (word : List ℕ) (words : List (List ℕ)) → onto word ([] ∷ words) ≡ word ∷ words
onto_new [] words = refl
onto_new (b ∷ word) words = ap (with_first b) (onto_new word words)

onto_append : (a b : List ℕ) (words : List (List ℕ)) → onto (a ++ b) words ≡ onto a (onto b words)
onto_append [] b words = refl
onto_append (x ∷ a) b words = ap (with_first x) (onto_append a b words)

abbrev some_words : List (List ℕ) → Option (List (List ℕ))
some_words words = Some words

at_byte : (at next : Place) (b : ℕ) (bytes : List ℕ) (words : List (List ℕ)) → place_after at b ≡ Some next → words_from next bytes ≡ Some words → words_from at (b ∷ bytes) ≡ Some (byte_joined at b next words)
at_byte at next b bytes words is read = from_byte at b bytes (Some next) is ∙ ap (option_map (byte_joined at b next)) read

-- a word leads to this place
abbrev LeadsTo : Place → List ℕ → Type 0
LeadsTo at word = (rest : List ℕ) (words : List (List ℕ)) → words_from at rest ≡ Some words → words_from place.Between (word ++ rest) ≡ Some (onto word words)

abbrev BeginsNoComment : List ℕ → Type 0
BeginsNoComment [] = ⊥
BeginsNoComment (b ∷ bytes) = eqb b 35 ≡ false

-- a word that can be printed in a line
pub record IsLineWord (word : List ℕ) : Type 0 where
  pub last : words_of word ≡ Some (word ∷ [])
  pub parted : (rest : List ℕ) (words : List (List ℕ)) → words_of rest ≡ Some words → words_of (word ++ 32 ∷ rest) ≡ Some (word ∷ words)
  pub feedless : is_feedless word ≡ true
  pub encoded : IsUtf8 word
  pub no_comment : BeginsNoComment word

plain_ends : words_from place.Plain [] ≡ Some ([] ∷ [])
unfolding words_from
plain_ends = refl

string_ends : words_from place.Ended [] ≡ Some ([] ∷ [])
unfolding words_from
string_ends = refl

word_by : (at : Place) (word : List ℕ) → LeadsTo at word → words_from at [] ≡ Some ([] ∷ []) → ((rest : List ℕ) (words : List (List ℕ)) → words_of rest ≡ Some words → words_from at (32 ∷ rest) ≡ Some ([] ∷ words)) →
    is_feedless word ≡ true → IsUtf8 word → BeginsNoComment word → IsLineWord word
word_by at word leads ends parts feedless encoded first = record {
  last = ap words_of (sym (append-nil word)) ∙ leads [] ([] ∷ []) ends ∙ ap some_words (onto_new word []);
  parted = λ rest words is. leads (32 ∷ rest) ([] ∷ words) (parts rest words is) ∙ ap some_words (onto_new word words);
  feedless = feedless;
  encoded = encoded;
  no_comment = first;
}

-- ---- words without spaces, quotation marks or line feeds

-- a byte of ASCII that is shown, and no space
abbrev pub is_shown : ℕ → Bool
is_shown b = leb 33 b && leb b 126

-- a word that isn't empty, of such bytes, that begins no string and no comment
abbrev pub IsPlain : List ℕ → Type 0
IsPlain [] = ⊥
IsPlain (b ∷ bytes) = (eqb b 34 ≡ false) × (list_all is_shown (b ∷ bytes) ≡ true) × (eqb b 35 ≡ false)

shown_ends : (b : ℕ) → is_shown b ≡ true → (33 ≤ b) × (b ≤ 126)
shown_ends b h = let both = and_parts (leb 33 b) (leb b 126) h in (leb-true 33 b both.0, leb-true b 126 both.1)

plain_byte : (b : ℕ) → is_shown b ≡ true → place_after place.Plain b ≡ Some place.Plain
plain_byte b h = let low : 33 ≤ b = (shown_ends b h).0 in rw (ne_eqb b 32 (λ e. omega arith)) refl

first_byte : (b : ℕ) → is_shown b ≡ true → eqb b 34 ≡ false → place_after place.Between b ≡ Some place.Plain
first_byte b h q = let low : 33 ≤ b = (shown_ends b h).0 in rw (ne_eqb b 32 (λ e. omega arith), q) refl

rest_leads : (word rest : List ℕ) (words : List (List ℕ)) → list_all is_shown word ≡ true → words_from place.Plain rest ≡ Some words → words_from place.Plain (word ++ rest) ≡ Some (onto word words)
rest_leads [] rest words h is = is
rest_leads (b ∷ word) rest words h is =
    let both = and_parts (is_shown b) (list_all is_shown word) h in
    at_byte place.Plain place.Plain b (word ++ rest) (onto word words) (plain_byte b both.0) (rest_leads word rest words both.1 is)

plain_leads : (word : List ℕ) → IsPlain word → LeadsTo place.Plain word
plain_leads [] h rest words is = absurd h
plain_leads (b ∷ word) h rest words is =
    let both = and_parts (is_shown b) (list_all is_shown word) h.1 in
    at_byte place.Between place.Plain b (word ++ rest) (onto word words) (first_byte b both.0 h.0) (rest_leads word rest words both.1 is)

shown_feedless : (word : List ℕ) → list_all is_shown word ≡ true → is_feedless word ≡ true
shown_feedless [] h = refl
shown_feedless (b ∷ word) h =
    let both = and_parts (is_shown b) (list_all is_shown word) h in
    let low : 33 ≤ b = (shown_ends b both.0).0 in
    and_from (not (eqb b 10)) (is_feedless word) (rw (ne_eqb b 10 (λ e. omega arith)) refl) (shown_feedless word both.1)

shown_encoded : (word : List ℕ) → list_all is_shown word ≡ true → IsUtf8 word
shown_encoded [] h = IsUtf8-nil
shown_encoded (b ∷ word) h =
    let both = and_parts (is_shown b) (list_all is_shown word) h in
    let high : b ≤ 126 = (shown_ends b both.0).1 in
    IsUtf8-append (b ∷ []) word (one_encoded b (omega arith)) (shown_encoded word both.1)

pub plain_all : (word : List ℕ) → IsPlain word → (list_all is_shown word ≡ true) × BeginsNoComment word
plain_all [] h = absurd h
plain_all (b ∷ word) h = (h.1, h.2)

pub plain_word : (word : List ℕ) → IsPlain word → IsLineWord word
plain_word word h =
    let all = plain_all word h in
    word_by place.Plain word (plain_leads word h) plain_ends (λ rest words is. at_byte place.Plain place.Between 32 rest words refl is) (shown_feedless word all.0) (shown_encoded word all.0) all.1

-- ---- names and numbers

all_shown : (p : ℕ → Bool) (bytes : List ℕ) → ((b : ℕ) → p b ≡ true → is_shown b ≡ true) → list_all p bytes ≡ true → list_all is_shown bytes ≡ true
all_shown p [] h all = refl
all_shown p (b ∷ bytes) h all =
    let both = and_parts (p b) (list_all p bytes) all in
    and_from (is_shown b) (list_all is_shown bytes) (h b both.0) (all_shown p bytes h both.1)

container_shown : (b : ℕ) → is_container_byte b ≡ true → is_shown b ≡ true
container_shown b h = grind arith

thread_shown : (b : ℕ) → is_thread_byte b ≡ true → is_shown b ≡ true
thread_shown b h = grind arith

digit_shown : (b : ℕ) → is_digit b ≡ true → is_shown b ≡ true
digit_shown b h = grind arith

between : (b low high : ℕ) → (leb low b && leb b high) ≡ true → (low ≤ b) × (b ≤ high)
between b low high h = let both = and_parts (leb low b) (leb b high) h in (leb-true low b both.0, leb-true b high both.1)

-- a first byte within these bounds
plain_from : (b : ℕ) (bytes : List ℕ) → 36 ≤ b → b ≤ 126 → list_all is_shown bytes ≡ true → IsPlain (b ∷ bytes)
plain_from b bytes low high all =
    (ne_eqb b 34 (λ e. omega arith), and_from (is_shown b) (list_all is_shown bytes) (and_from (leb 33 b) (leb b 126) (le-leb 33 b (omega arith)) (le-leb b 126 high)) all, ne_eqb b 35 (λ e. omega arith))

pub container_plain : (name : List ℕ) → is_container_name name ≡ true → IsPlain name
container_plain [] h = absurd cc
container_plain (b ∷ bytes) h =
    let all = and_parts (is_lower b && list_all is_container_byte bytes) (leb (length bytes) 31) h in
    let parts = and_parts (is_lower b) (list_all is_container_byte bytes) all.0 in
    let ends = between b 97 122 parts.0 in
    let low : 97 ≤ b = ends.0 in
    let high : b ≤ 122 = ends.1 in
    plain_from b bytes (omega arith) (omega arith) (all_shown is_container_byte bytes container_shown parts.1)

pub thread_plain : (name : List ℕ) → is_thread_name name ≡ true → IsPlain name
thread_plain [] h = absurd cc
thread_plain (b ∷ bytes) h =
    let all = and_parts (is_upper b && list_all is_thread_byte bytes) (leb (length bytes) 31) h in
    let parts = and_parts (is_upper b) (list_all is_thread_byte bytes) all.0 in
    let ends = between b 65 90 parts.0 in
    let low : 65 ≤ b = ends.0 in
    let high : b ≤ 90 = ends.1 in
    plain_from b bytes (omega arith) (omega arith) (all_shown is_thread_byte bytes thread_shown parts.1)

digits_plain : (ds : List ℕ) → BeginsNumber ds → AreDigits ds → IsPlain ds
digits_plain [] first h = absurd first
digits_plain (d ∷ ds) first h =
    let parts = and_parts (is_digit d) (list_all is_digit ds) h in
    let low : 45 ≤ d = first.0 in
    let high : d ≤ 57 = first.1 in
    plain_from d ds (omega arith) (omega arith) (all_shown is_digit ds digit_shown parts.1)

pub decimal_plain : (n : ℕ) → n < 2 ^ 64 → IsPlain (decimal n)
decimal_plain n low = digits_plain (decimal n) (decimal_word n low).1 (are_digits n low)

pub signed_plain : (n : ℤ) → is_wide n ≡ true → IsPlain (signed_decimal n)
signed_plain (pos n) wide = decimal_plain n (wide_low n wide)
signed_plain (negsuc n) wide =
    plain_from 45 (decimal (suc n)) (omega arith) (omega arith) (all_shown is_digit (decimal (suc n)) digit_shown (are_digits (suc n) (wide_negative n wide)))

-- ---- strings

escape_leads : (c : ℕ) (rest : List ℕ) (words : List (List ℕ)) → is_escape c ≡ true → words_from place.String rest ≡ Some words → words_from place.String (92 ∷ c ∷ rest) ≡ Some (onto (92 ∷ c ∷ []) words)
escape_leads c rest words is read =
    at_byte place.String place.Escape 92 (c ∷ rest) (with_first c words) refl (at_byte place.Escape place.String c rest words (rw is refl) read)

shown_plain : (b : ℕ) → is_text_byte b ≡ true → eqb b 10 ≡ false → eqb b 9 ≡ false → is_plain b ≡ true
shown_plain b text feed tab = grind arith

byte_leads : (b : ℕ) (rest : List ℕ) (words : List (List ℕ)) → is_text_byte b ≡ true → words_from place.String rest ≡ Some words → words_from place.String (escaped b ++ rest) ≡ Some (onto (escaped b) words)
byte_leads b rest words text read =
    let P : List ℕ → Type 0 = λ bytes. words_from place.String (bytes ++ rest) ≡ Some (onto bytes words) in
    cond_is (eqb b 34) (92 ∷ 34 ∷ []) _ P (λ _. escape_leads 34 rest words refl read) (λ mark.
    cond_is (eqb b 92) (92 ∷ 92 ∷ []) _ P (λ _. escape_leads 92 rest words refl read) (λ back.
    cond_is (eqb b 10) (codes "\\n") _ P (λ _. escape_leads 110 rest words refl read) (λ feed.
    cond_is (eqb b 9) (codes "\\t") (b ∷ []) P (λ _. escape_leads 116 rest words refl read) (λ tab.
    at_byte place.String place.String b rest words (rw (mark, back, shown_plain b text feed tab) refl) read))))

abbrev inner : List ℕ → List ℕ
inner text = flat_map escaped text ++ 34 ∷ []

inner_leads : (text rest : List ℕ) (words : List (List ℕ)) → list_all is_text_byte text ≡ true → words_from place.Ended rest ≡ Some words → words_from place.String (inner text ++ rest) ≡ Some (onto (inner text) words)
inner_leads [] rest words all read = at_byte place.String place.Ended 34 rest words refl read
inner_leads (b ∷ text) rest words all read =
    let both = and_parts (is_text_byte b) (list_all is_text_byte text) all in
    let grouped : inner (b ∷ text) ≡ escaped b ++ inner text = append_assoc (escaped b) (flat_map escaped text) (34 ∷ []) in
    ap (λ (bytes : List ℕ). words_from place.String (bytes ++ rest)) grouped
    ∙ ap (words_from place.String) (append_assoc (escaped b) (inner text) rest)
    ∙ byte_leads b (inner text ++ rest) (onto (inner text) words) both.0 (inner_leads text rest words both.1 read)
    ∙ ap some_words (sym (onto_append (escaped b) (inner text) words))
    ∙ ap (λ (bytes : List ℕ). some_words (onto bytes words)) (sym grouped)

quoted_leads : (text : List ℕ) → list_all is_text_byte text ≡ true → LeadsTo place.Ended (quoted text)
quoted_leads text all rest words read =
    at_byte place.Between place.String 34 (inner text ++ rest) (onto (inner text) words) refl (inner_leads text rest words all read)

escaped_feedless : (b : ℕ) → is_feedless (escaped b) ≡ true
escaped_feedless b =
    let P : List ℕ → Type 0 = λ bytes. is_feedless bytes ≡ true in
    cond_is (eqb b 34) (92 ∷ 34 ∷ []) _ P (λ _. refl) (λ _.
    cond_is (eqb b 92) (92 ∷ 92 ∷ []) _ P (λ _. refl) (λ _.
    cond_is (eqb b 10) (codes "\\n") _ P (λ _. refl) (λ feed.
    cond_is (eqb b 9) (codes "\\t") (b ∷ []) P (λ _. refl) (λ _. rw feed refl))))

feedless_append : (a b : List ℕ) → is_feedless a ≡ true → is_feedless b ≡ true → is_feedless (a ++ b) ≡ true
feedless_append a b ha hb = list_all-append (λ c. not (eqb c 10)) a b ∙ and_from (is_feedless a) (is_feedless b) ha hb

all_feedless : (text : List ℕ) → is_feedless (flat_map escaped text) ≡ true
all_feedless [] = refl
all_feedless (b ∷ text) = feedless_append (escaped b) (flat_map escaped text) (escaped_feedless b) (all_feedless text)

two_encoded : (c : ℕ) (rest : List ℕ) → c < 128 → IsUtf8 rest → IsUtf8 (92 ∷ c ∷ rest)
two_encoded c rest low h = IsUtf8-append (92 ∷ []) (c ∷ rest) (one_encoded 92 (omega arith)) (IsUtf8-append (c ∷ []) rest (one_encoded c low) h)

escaped_encoded : (text front : List ℕ) → IsUtf8 (front ++ text) → IsUtf8 (front ++ flat_map escaped text)
escaped_encoded [] front is = is
escaped_encoded (b ∷ text) front is =
    let rest : List ℕ = flat_map escaped text in
    let P : List ℕ → Type 0 = λ bytes. IsUtf8 (front ++ (bytes ++ rest)) in
    let escape : (c : ℕ) → c < 128 → b < 128 → P (92 ∷ c ∷ []) = λ c low ascii. (let parts = seam front b text ascii is in IsUtf8-append front (92 ∷ c ∷ rest) parts.0 (two_encoded c rest low (escaped_encoded text [] parts.1))) in
    cond_is (eqb b 34) (92 ∷ 34 ∷ []) _ P (λ mark. (let same : b ≡ 34 = eqb-true b 34 mark in escape 34 (omega arith) (omega arith))) (λ _.
    cond_is (eqb b 92) (92 ∷ 92 ∷ []) _ P (λ back. (let same : b ≡ 92 = eqb-true b 92 back in escape 92 (omega arith) (omega arith))) (λ _.
    cond_is (eqb b 10) (codes "\\n") _ P (λ feed. (let same : b ≡ 10 = eqb-true b 10 feed in escape 110 (omega arith) (omega arith))) (λ _.
    cond_is (eqb b 9) (codes "\\t") (b ∷ []) P (λ tab. (let same : b ≡ 9 = eqb-true b 9 tab in escape 116 (omega arith) (omega arith))) (λ _.
    moved_back front b rest (escaped_encoded text (front ++ b ∷ []) (moved front b text is))))))

pub quoted_word : (text : List ℕ) → IsString text → IsLineWord (quoted text)
quoted_word text h =
    word_by place.Ended (quoted text) (quoted_leads text h.bytes) string_ends (λ rest words is. at_byte place.Ended place.Between 32 rest words refl is)
    (feedless_append (flat_map escaped text) (34 ∷ []) (all_feedless text) refl)
    (IsUtf8-append (34 ∷ []) (inner text) (one_encoded 34 (omega arith)) (IsUtf8-append (flat_map escaped text) (34 ∷ []) (escaped_encoded text [] h.encoded) (one_encoded 34 (omega arith))))
    refl

-- ---- lines

abbrev pub AreLineWords : List (List ℕ) → Type 0
AreLineWords words = AllByRecursion IsLineWord words

no_words : words_of [] ≡ Some []
unfolding words_from
no_words = refl

pub words_back : (words : List (List ℕ)) → AreLineWords words → words_of (join_with_byte 32 words) ≡ Some words
words_back [] h = no_words
words_back (word ∷ []) h = h.0.last
words_back (word ∷ next ∷ words) h = h.0.parted (join_with_byte 32 (next ∷ words)) (next ∷ words) (words_back (next ∷ words) h.1)

joined_feedless : (words : List (List ℕ)) → AreLineWords words → is_feedless (join_with_byte 32 words) ≡ true
joined_feedless [] h = refl
joined_feedless (word ∷ []) h = h.0.feedless
joined_feedless (word ∷ next ∷ words) h = feedless_append word (32 ∷ join_with_byte 32 (next ∷ words)) h.0.feedless (joined_feedless (next ∷ words) h.1)

joined_encoded : (words : List (List ℕ)) → AreLineWords words → IsUtf8 (join_with_byte 32 words)
joined_encoded [] h = IsUtf8-nil
joined_encoded (word ∷ []) h = h.0.encoded
joined_encoded (word ∷ next ∷ words) h =
    IsUtf8-append word (32 ∷ join_with_byte 32 (next ∷ words)) h.0.encoded
    (IsUtf8-append (32 ∷ []) (join_with_byte 32 (next ∷ words)) (one_encoded 32 (omega arith)) (joined_encoded (next ∷ words) h.1))

begins_by : (word rest : List ℕ) → BeginsNoComment word → is_comment (word ++ rest) ≡ false
begins_by [] rest h = absurd h
begins_by (b ∷ word) rest h = h

joined_begins : (word : List ℕ) (words : List (List ℕ)) → BeginsNoComment word → is_comment (join_with_byte 32 (word ∷ words)) ≡ false
joined_begins word [] h = ap is_comment (sym (append-nil word)) ∙ begins_by word [] h
joined_begins word (next ∷ words) h = begins_by word (32 ∷ join_with_byte 32 (next ∷ words)) h

other_than : (b : ℕ) → not (eqb b 10) ≡ true → eqb b 10 ≡ false
other_than b h = grind arith

pub line_first : (front rest : List ℕ) → is_feedless front ≡ true → lines_of (front ++ 10 ∷ rest) ≡ front ∷ lines_of rest
line_first [] rest h = lines_byte 10 rest true refl
line_first (b ∷ front) rest h =
    let both = and_parts (not (eqb b 10)) (is_feedless front) h in
    lines_byte b (front ++ 10 ∷ rest) false (other_than b both.0) ∙ ap (with_first b) (line_first front rest both.1)

-- lines that say something
abbrev IsSaying : List (List ℕ) → Type 0
IsSaying [] = ⊥
IsSaying (word ∷ words) = AreLineWords (word ∷ words)

abbrev pub AreSaying : List (List (List ℕ)) → Type 0
AreSaying lines = AllByRecursion IsSaying lines

pub saying_append : (lines rest : List (List (List ℕ))) → AreSaying lines → AreSaying rest → AreSaying (lines ++ rest)
saying_append [] rest h more = more
saying_append (words ∷ lines) rest h more = (h.0, saying_append lines rest h.1 more)

said_line : (words : List (List ℕ)) (lines : List (List ℕ)) (said : List (List (List ℕ))) → IsSaying words → said_by lines ≡ Some said → said_by (join_with_byte 32 words ∷ lines) ≡ Some (words ∷ said)
said_line [] lines said h is = absurd h
said_line (word ∷ words) lines said h is =
    said_first (join_with_byte 32 (word ∷ words)) lines ∙ rw (joined_begins word words h.0.no_comment, words_back (word ∷ words) h, is) refl

saying_words : (words : List (List ℕ)) → IsSaying words → AreLineWords words
saying_words [] h = absurd h
saying_words (word ∷ words) h = h

pub said_back : (lines : List (List (List ℕ))) → AreSaying lines → said_in (flat_map line lines) ≡ Some lines
said_back [] h = ap said_by no_lines ∙ said_none
said_back (words ∷ lines) h =
    ap said_in (append_assoc (join_with_byte 32 words) (10 ∷ []) (flat_map line lines))
    ∙ ap said_by (line_first (join_with_byte 32 words) (flat_map line lines) (joined_feedless words (saying_words words h.0)))
    ∙ said_line words (lines_of (flat_map line lines)) lines h.0 (said_back lines h.1)

pub text_encoded : (lines : List (List (List ℕ))) → AreSaying lines → IsUtf8 (flat_map line lines)
text_encoded [] h = IsUtf8-nil
text_encoded (words ∷ lines) h =
    IsUtf8-append (line words) (flat_map line lines)
    (IsUtf8-append (join_with_byte 32 words) (10 ∷ []) (joined_encoded words (saying_words words h.0)) (one_encoded 10 (omega arith)))
    (text_encoded lines h.1)
