-- The lines of a text in UTF-8 are in UTF-8, and its strings are too.
use Rattle.std.proofs.Common.{◌≡◌, ℕ, zero, suc, ◌+◌, ◌<◌, Bool, true, false, not, cond, eqb, ◌||◌, List, [], ◌∷◌, ◌++◌, length, drop, get_or, Option, Some, None, refl, sym, ap, ◌∙◌, subst, inl, inr, arith}
use Rattle.std.specs.Prelude.{IfSome, codes, option_map}
use Rattle.std.specs.List.{find, list_all, slice_split, onto_first, AllByRecursion}
use Rattle.std.specs.Str.{IsAscii, IsUtf8, bytes_eq}
use Rattle.std.specs.Cmp.Lexicographic.{bytes_decides}
use Rattle.std.proofs.lemmas.Bool.{or_cases, and_from, eqb-true, ne_eqb, true≢false, false≢true}
use Rattle.std.proofs.lemmas.List.{append_assoc, append-nil, drop_at, get_or_at, length-append, take_at}
use Rattle.std.proofs.lemmas.Str.{IsCharBoundary-after_ascii, IsCharBoundary-before_ascii, IsUtf8-append, IsUtf8-drop, IsUtf8-from_ascii, IsUtf8-take}
use Rattle.ft_model.specs.Names.{is_text_byte}
use Rattle.ft_script.specs.declared.lines.Place.{Place}
use Rattle.ft_script.specs.declared.lines.Place.TheVariants as place
use Rattle.ft_script.specs.Lines.{ends_thread, first_word, is_escape, is_plain, is_word, byte_joined, lines_of, with_first, words_from, words_of}
use Rattle.ft_script.specs.LineWords.{is_string, text_from, text_of, unescaped}
use Rattle.ft_script.proofs.Kept.{AreGoodWords}

-- ---- cuts at a byte of ASCII

-- what stands before and after such a byte is UTF-8
pub seam : (front : List ℕ) (b : ℕ) (rest : List ℕ) → b < 128 → IsUtf8 (front ++ b ∷ rest) → IsUtf8 front × IsUtf8 rest
seam front b rest low is =
    let whole : List ℕ = front ++ b ∷ rest in
    let here : get_or whole (length front) 0 ≡ b = get_or_at front b rest 0 (length front) refl in
    let long : length whole ≡ length front + length (b ∷ rest) = length-append front (b ∷ rest) in
    let within : length front < length whole = omega arith in
    let ascii : get_or whole (length front) 0 < 128 = omega arith in
    let last : length (front ++ b ∷ []) ≡ length front + 1 = length-append front (b ∷ []) in
    let after : drop (length front + 1) whole ≡ rest = ap (drop (length front + 1)) (sym (append_assoc front (b ∷ []) rest)) ∙ drop_at (front ++ b ∷ []) rest (length front + 1) last in (
      subst (λ (l : List ℕ). IsUtf8 l) (take_at front (b ∷ rest) (length front) refl) (IsUtf8-take whole (length front) is (IsCharBoundary-before_ascii whole (length front) within ascii)),
      subst (λ (l : List ℕ). IsUtf8 l) after (IsUtf8-drop whole (length front + 1) is (IsCharBoundary-after_ascii whole (length front) is within ascii)),
    )

pub moved : (front : List ℕ) (b : ℕ) (rest : List ℕ) → IsUtf8 (front ++ b ∷ rest) → IsUtf8 ((front ++ b ∷ []) ++ rest)
moved front b rest is = subst (λ (l : List ℕ). IsUtf8 l) (sym (append_assoc front (b ∷ []) rest)) is

pub moved_back : (front : List ℕ) (b : ℕ) (rest : List ℕ) → IsUtf8 ((front ++ b ∷ []) ++ rest) → IsUtf8 (front ++ b ∷ rest)
moved_back front b rest is = subst (λ (l : List ℕ). IsUtf8 l) (append_assoc front (b ∷ []) rest) is

one_ascii : (b : ℕ) → b < 128 → IsAscii (b ∷ [])
one_ascii b low zero = low
one_ascii b low (suc i) = omega arith

pub one_encoded : (b : ℕ) → b < 128 → IsUtf8 (b ∷ [])
one_encoded b low = IsUtf8-from_ascii (b ∷ []) (one_ascii b low)

-- ---- what holds by cases

pub cond_is : {A : Type 0} (b : Bool) (x y : A) (P : A → Type 0) → (b ≡ true → P x) → (b ≡ false → P y) → P (cond b x y)
cond_is true x y P left right = left refl
cond_is false x y P left right = right refl

pub cond_both : {A B : Type 0} (b : Bool) (x y : A) (u v : B) (P : A → B → Type 0) → (b ≡ true → P x u) → (b ≡ false → P y v) → P (cond b x y) (cond b u v)
cond_both true x y u v P left right = left refl
cond_both false x y u v P left right = right refl

pub map_holds : {A B : Type 0} (o : Option A) (f : A → B) (P : A → Type 0) (Q : B → Type 0) → IfSome o P → ((a : A) → P a → Q (f a)) → IfSome (option_map f o) Q
map_holds None f P Q h then = tt
map_holds (Some a) f P Q h then = then a h

pub anything : {A : Type 0} (o : Option A) → IfSome o (λ _. Unit {0})
anything None = tt
anything (Some x) = tt

cases_of : (b : Bool) → (b ≡ true → ⊥) → b ≡ false
cases_of true h = absurd (h refl)
cases_of false h = refl

weaker : {A : Type 0} (o : Option A) (P Q : A → Type 0) → IfSome o P → ((a : A) → P a → Q a) → IfSome o Q
weaker None P Q h then = tt
weaker (Some a) P Q h then = then a h

-- ---- lines

abbrev pub AreEncoded : List (List ℕ) → Type 0
AreEncoded lines = AllByRecursion IsUtf8 lines

-- lines of which the first goes on after a front
abbrev FrontedLines : List ℕ → List (List ℕ) → Type 0
FrontedLines front [] = IsUtf8 front
FrontedLines front (line ∷ lines) = IsUtf8 (front ++ line) × AreEncoded lines

with_front : (front : List ℕ) (b : ℕ) (lines : List (List ℕ)) → FrontedLines (front ++ b ∷ []) lines → FrontedLines front (with_first b lines)
with_front front b [] h = (h, tt)
with_front front b (line ∷ lines) h = (moved_back front b line h.0, h.1)

without_front : (lines : List (List ℕ)) → FrontedLines [] lines → AreEncoded lines
without_front [] h = tt
without_front (line ∷ lines) h = h

lines_from : (bytes front : List ℕ) → IsUtf8 (front ++ bytes) → FrontedLines front (lines_of bytes)
unfolding lines_of
lines_from [] front is = subst (λ (l : List ℕ). IsUtf8 l) (append-nil front) is
lines_from (b ∷ bytes) front is =
    cond_is (eqb b 10) ([] ∷ lines_of bytes) (with_first b (lines_of bytes)) (FrontedLines front)
    (λ feed.
    let low : b < 128 = (let same : b ≡ 10 = eqb-true b 10 feed in omega arith) in
    let parts = seam front b bytes low is in
    (subst (λ (l : List ℕ). IsUtf8 l) (sym (append-nil front)) parts.0, without_front (lines_of bytes) (lines_from bytes [] parts.1)))
    (λ _. with_front front b (lines_of bytes) (lines_from bytes (front ++ b ∷ []) (moved front b bytes is)))

pub lines_encoded : (bytes : List ℕ) → IsUtf8 bytes → AreEncoded (lines_of bytes)
lines_encoded bytes is = without_front (lines_of bytes) (lines_from bytes [] is)

-- ---- the words of a line

-- a text whose front was read
record IsTextAfter (front text : List ℕ) : Type 0 where
  encoded : IsUtf8 (front ++ text)
  bytes : list_all is_text_byte text ≡ true

-- the words from a place on, of which the first goes on after a front
abbrev Good : Place → List ℕ → List (List ℕ) → Type 0
Good place.Between front words = AreGoodWords words
Good place.Plain front [] = Unit {0}
Good place.Plain front (word ∷ words) = AreGoodWords words
Good place.String front [] = ⊥
Good place.String front (word ∷ words) = IsTextAfter front (text_from false word) × AreGoodWords words
Good place.Escape front [] = ⊥
Good place.Escape front (word ∷ words) = IsTextAfter front (text_from true word) × AreGoodWords words
Good place.Ended front [] = Unit {0}
Good place.Ended front (word ∷ words) = AreGoodWords words

abbrev pub after : Place → ℕ → List ℕ → Option Place → Option (List (List ℕ))
after at b bytes to = elim to [ None ↦ None | Some next ↦ option_map (byte_joined at b next) (words_from next bytes) ]

string_begins : (b : ℕ) (words : List (List ℕ)) → Good place.String [] words → AreGoodWords (with_first b words)
unfolding text_of
string_begins b [] h = absurd h
string_begins b (word ∷ words) h = ((λ _. record { encoded = h.0.encoded; bytes = h.0.bytes }), h.1)

plain_begins : (front : List ℕ) (b : ℕ) (words : List (List ℕ)) → eqb b 34 ≡ false → Good place.Plain front words → AreGoodWords (with_first b words)
plain_begins front b [] plain h = ((λ mark. absurd (true≢false (sym mark ∙ plain))), tt)
plain_begins front b (word ∷ words) plain h = ((λ mark. absurd (true≢false (sym mark ∙ plain))), h)

plain_goes_on : (front more : List ℕ) (b : ℕ) (words : List (List ℕ)) → Good place.Plain more words → Good place.Plain front (with_first b words)
plain_goes_on front more b [] h = tt
plain_goes_on front more b (word ∷ words) h = h

text_ends : (b : ℕ) (word : List ℕ) → b ≡ 34 → text_from false (b ∷ word) ≡ []
text_ends b word mark = subst (λ (n : ℕ). text_from false (n ∷ word) ≡ []) (sym mark) refl

text_escapes : (b : ℕ) (word : List ℕ) → b ≡ 92 → text_from false (b ∷ word) ≡ text_from true word
text_escapes b word mark = subst (λ (n : ℕ). text_from false (n ∷ word) ≡ text_from true word) (sym mark) refl

text_goes_on : (b : ℕ) (word : List ℕ) → eqb b 34 ≡ false → eqb b 92 ≡ false → text_from false (b ∷ word) ≡ b ∷ text_from false word
text_goes_on b word no_mark no_escape = rw (no_escape, no_mark) refl

string_ends : (front : List ℕ) (b : ℕ) (words : List (List ℕ)) → b ≡ 34 → IsUtf8 front → Good place.Ended [] words → Good place.String front (with_first b words)
string_ends front b [] mark is h = (subst (λ (t : List ℕ). IsTextAfter front t) (sym (text_ends b [] mark)) (record { encoded = subst (λ (l : List ℕ). IsUtf8 l) (sym (append-nil front)) is; bytes = refl }), tt)
string_ends front b (word ∷ words) mark is h = (subst (λ (t : List ℕ). IsTextAfter front t) (sym (text_ends b word mark)) (record { encoded = subst (λ (l : List ℕ). IsUtf8 l) (sym (append-nil front)) is; bytes = refl }), h)

string_escapes : (front : List ℕ) (b : ℕ) (words : List (List ℕ)) → b ≡ 92 → Good place.Escape front words → Good place.String front (with_first b words)
string_escapes front b [] mark h = absurd h
string_escapes front b (word ∷ words) mark h = (subst (λ (t : List ℕ). IsTextAfter front t) (sym (text_escapes b word mark)) h.0, h.1)

-- a byte that is allowed stands before such a text
text_after : (front : List ℕ) (b : ℕ) (text : List ℕ) → is_text_byte b ≡ true → IsTextAfter (front ++ b ∷ []) text → IsTextAfter front (b ∷ text)
text_after front b text allowed h = record { encoded = moved_back front b text h.encoded; bytes = and_from (is_text_byte b) (list_all is_text_byte text) allowed h.bytes }

text_byte : (b : ℕ) → is_plain b ≡ true → is_text_byte b ≡ true
text_byte b plain = grind arith

string_goes_on : (front : List ℕ) (b : ℕ) (words : List (List ℕ)) → eqb b 34 ≡ false → eqb b 92 ≡ false → is_plain b ≡ true → Good place.String (front ++ b ∷ []) words → Good place.String front (with_first b words)
string_goes_on front b [] no_mark no_escape plain h = absurd h
string_goes_on front b (word ∷ words) no_mark no_escape plain h = (subst (λ (t : List ℕ). IsTextAfter front t) (sym (text_goes_on b word no_mark no_escape)) (text_after front b (text_from false word) (text_byte b plain) h.0), h.1)

escape_byte : (b : ℕ) → is_escape b ≡ true → (b < 128) × (unescaped b < 128) × (is_text_byte (unescaped b) ≡ true)
escape_byte b is =
    let P : ℕ → Type 0 = λ n. (n < 128) × (unescaped n < 128) × (is_text_byte (unescaped n) ≡ true) in
    elim (or_cases (eqb b 34 || eqb b 92 || eqb b 110) (eqb b 116) is) [
      | inr tab ↦ subst P (sym (eqb-true b 116 tab)) (omega arith, omega arith, refl)
      | inl others ↦ elim (or_cases (eqb b 34 || eqb b 92) (eqb b 110) others) [
        | inr feed ↦ subst P (sym (eqb-true b 110 feed)) (omega arith, omega arith, refl)
        | inl marks ↦ elim (or_cases (eqb b 34) (eqb b 92) marks) [
          | inl mark ↦ subst P (sym (eqb-true b 34 mark)) (omega arith, omega arith, refl)
          | inr escape ↦ subst P (sym (eqb-true b 92 escape)) (omega arith, omega arith, refl)
        ]
      ]
    ]

escape_goes_on : (front : List ℕ) (b : ℕ) (words : List (List ℕ)) → is_text_byte (unescaped b) ≡ true → Good place.String (front ++ unescaped b ∷ []) words → Good place.Escape front (with_first b words)
escape_goes_on front b [] allowed h = absurd h
escape_goes_on front b (word ∷ words) allowed h = (text_after front (unescaped b) (text_from false word) allowed h.0, h.1)

unescaped_encoded : (front : List ℕ) (b : ℕ) (bytes : List ℕ) → is_escape b ≡ true → IsUtf8 (front ++ b ∷ bytes) → IsUtf8 ((front ++ unescaped b ∷ []) ++ bytes)
unescaped_encoded front b bytes escape is =
    let byte = escape_byte b escape in
    let parts = seam front b bytes byte.0 is in
    IsUtf8-append (front ++ unescaped b ∷ []) bytes (IsUtf8-append front (unescaped b ∷ []) parts.0 (one_encoded (unescaped b) byte.1)) parts.1

below_ascii : (b c : ℕ) → eqb b c ≡ true → c < 128 → b < 128
below_ascii b c same low = let is : b ≡ c = eqb-true b c same in omega arith

words_good : (at : Place) (bytes front : List ℕ) → IsUtf8 (front ++ bytes) → IfSome (words_from at bytes) (Good at front)
unfolding words_from
words_good place.Between [] front is = tt
words_good place.Plain [] front is = tt
words_good place.String [] front is = tt
words_good place.Escape [] front is = tt
words_good place.Ended [] front is = tt
words_good place.Between (b ∷ bytes) front is =
    let P : Option Place → Type 0 = λ to. IfSome (after place.Between b bytes to) (Good place.Between front) in
    cond_is (eqb b 32) (Some place.Between) (cond (eqb b 34) (Some place.String) (Some place.Plain)) P
    (λ space. map_holds (words_from place.Between bytes) _ (Good place.Between []) (Good place.Between front) (words_good place.Between bytes [] (seam front b bytes (below_ascii b 32 space (omega arith)) is).1) (λ words h. h))
    (λ _. cond_is (eqb b 34) (Some place.String) (Some place.Plain) P
    (λ mark. map_holds (words_from place.String bytes) _ (Good place.String []) (Good place.Between front) (words_good place.String bytes [] (seam front b bytes (below_ascii b 34 mark (omega arith)) is).1) (λ words h. string_begins b words h))
    (λ plain. map_holds (words_from place.Plain bytes) _ (Good place.Plain (front ++ b ∷ [])) (Good place.Between front) (words_good place.Plain bytes (front ++ b ∷ []) (moved front b bytes is)) (λ words h. plain_begins (front ++ b ∷ []) b words plain h)))
words_good place.Plain (b ∷ bytes) front is =
    let P : Option Place → Type 0 = λ to. IfSome (after place.Plain b bytes to) (Good place.Plain front) in
    cond_is (eqb b 32) (Some place.Between) (Some place.Plain) P
    (λ space. map_holds (words_from place.Between bytes) _ (Good place.Between []) (Good place.Plain front) (words_good place.Between bytes [] (seam front b bytes (below_ascii b 32 space (omega arith)) is).1) (λ words h. h))
    (λ _. map_holds (words_from place.Plain bytes) _ (Good place.Plain (front ++ b ∷ [])) (Good place.Plain front) (words_good place.Plain bytes (front ++ b ∷ []) (moved front b bytes is)) (λ words h. plain_goes_on front (front ++ b ∷ []) b words h))
words_good place.String (b ∷ bytes) front is =
    let P : Option Place → Type 0 = λ to. IfSome (after place.String b bytes to) (Good place.String front) in
    cond_is (eqb b 34) (Some place.Ended) (cond (eqb b 92) (Some place.Escape) (cond (is_plain b) (Some place.String) None)) P
    (λ mark. let parts = seam front b bytes (below_ascii b 34 mark (omega arith)) is in map_holds (words_from place.Ended bytes) _ (Good place.Ended []) (Good place.String front) (words_good place.Ended bytes [] parts.1) (λ words h. string_ends front b words (eqb-true b 34 mark) parts.0 h))
    (λ no_mark. cond_is (eqb b 92) (Some place.Escape) (cond (is_plain b) (Some place.String) None) P
    (λ escape. let parts = seam front b bytes (below_ascii b 92 escape (omega arith)) is in map_holds (words_from place.Escape bytes) _ (Good place.Escape front) (Good place.String front) (words_good place.Escape bytes front (IsUtf8-append front bytes parts.0 parts.1)) (λ words h. string_escapes front b words (eqb-true b 92 escape) h))
    (λ no_escape. cond_is (is_plain b) (Some place.String) None P
    (λ plain. map_holds (words_from place.String bytes) _ (Good place.String (front ++ b ∷ [])) (Good place.String front) (words_good place.String bytes (front ++ b ∷ []) (moved front b bytes is)) (λ words h. string_goes_on front b words no_mark no_escape plain h))
    (λ _. tt)))
words_good place.Escape (b ∷ bytes) front is =
    let P : Option Place → Type 0 = λ to. IfSome (after place.Escape b bytes to) (Good place.Escape front) in
    cond_is (is_escape b) (Some place.String) None P
    (λ escape. map_holds (words_from place.String bytes) _ (Good place.String (front ++ unescaped b ∷ [])) (Good place.Escape front) (words_good place.String bytes (front ++ unescaped b ∷ []) (unescaped_encoded front b bytes escape is)) (λ words h. escape_goes_on front b words (escape_byte b escape).2 h))
    (λ _. tt)
words_good place.Ended (b ∷ bytes) front is =
    let P : Option Place → Type 0 = λ to. IfSome (after place.Ended b bytes to) (Good place.Ended front) in
    cond_is (eqb b 32) (Some place.Between) None P
    (λ space. map_holds (words_from place.Between bytes) _ (Good place.Between []) (Good place.Ended front) (words_good place.Between bytes [] (seam front b bytes (below_ascii b 32 space (omega arith)) is).1) (λ words h. h))
    (λ _. tt)

pub line_good : (line : List ℕ) → IsUtf8 line → IfSome (words_of line) AreGoodWords
line_good line is = words_good place.Between line [] is

-- ---- the first word of a line

abbrev pub is_space : ℕ → Bool
is_space b = eqb b 32

abbrev pub has_bytes : List ℕ → Bool
has_bytes word = not (eqb (length word) 0)

abbrev pub HaveSameFirst : List (List ℕ) → List (List ℕ) → Type 0
HaveSameFirst (word ∷ words) (part ∷ parts) = word ≡ part
HaveSameFirst words parts = ⊥

abbrev with_byte : ℕ → List ℕ → List ℕ
with_byte b word = b ∷ word

first_goes_on : (b : ℕ) (words parts : List (List ℕ)) → HaveSameFirst words parts → HaveSameFirst (with_first b words) (onto_first b parts)
first_goes_on b [] [] h = absurd h
first_goes_on b [] (part ∷ parts) h = absurd h
first_goes_on b (word ∷ words) [] h = absurd h
first_goes_on b (word ∷ words) (part ∷ parts) h = ap (with_byte b) h

pub plain_first : (bytes : List ℕ) → IfSome (words_from place.Plain bytes) (λ words. HaveSameFirst words (slice_split is_space bytes))
unfolding words_from
plain_first [] = refl
plain_first (b ∷ bytes) =
    cond_both (eqb b 32) (Some place.Between) (Some place.Plain) ([] ∷ slice_split is_space bytes) (onto_first b (slice_split is_space bytes)) (λ to parts. IfSome (after place.Plain b bytes to) (λ words. HaveSameFirst words parts))
    (λ _. map_holds (words_from place.Between bytes) _ (λ _. Unit {0}) (λ words. HaveSameFirst words ([] ∷ slice_split is_space bytes)) (anything (words_from place.Between bytes)) (λ words _. refl))
    (λ _. map_holds (words_from place.Plain bytes) _ (λ words. HaveSameFirst words (slice_split is_space bytes)) (λ words. HaveSameFirst words (onto_first b (slice_split is_space bytes))) (plain_first bytes) (λ words h. first_goes_on b words (slice_split is_space bytes) h))

-- the first word, where it is no string
abbrev pub IsFirst : Option (List ℕ) → List (List ℕ) → Type 0
IsFirst found [] = Unit {0}
IsFirst found (word ∷ words) = is_string word ≡ false → found ≡ Some word

string_first : (b : ℕ) (words : List (List ℕ)) (found : Option (List ℕ)) → eqb b 34 ≡ true → IsFirst found (with_first b words)
string_first b [] found mark = λ plain. absurd (true≢false (sym mark ∙ plain))
string_first b (word ∷ words) found mark = λ plain. absurd (true≢false (sym mark ∙ plain))

pub word_first : (b : ℕ) (words parts : List (List ℕ)) → HaveSameFirst words parts → IsFirst (find has_bytes (onto_first b parts)) (with_first b words)
word_first b [] [] h = absurd h
word_first b [] (part ∷ parts) h = absurd h
word_first b (word ∷ words) [] h = absurd h
word_first b (word ∷ words) (part ∷ parts) h = λ plain.
    let some : eqb (length (b ∷ part)) 0 ≡ false = ne_eqb (length (b ∷ part)) 0 (λ none. omega arith) in
    rw some (ap (λ (w : List ℕ). Some (b ∷ w)) (sym h))

line_first : (line : List ℕ) → IfSome (words_from place.Between line) (IsFirst (find has_bytes (slice_split is_space line)))
unfolding words_from
line_first [] = tt
line_first (b ∷ bytes) =
    cond_both (eqb b 32) (Some place.Between) (cond (eqb b 34) (Some place.String) (Some place.Plain)) ([] ∷ slice_split is_space bytes) (onto_first b (slice_split is_space bytes)) (λ to parts. IfSome (after place.Between b bytes to) (IsFirst (find has_bytes parts)))
    (λ _. map_holds (words_from place.Between bytes) _ (IsFirst (find has_bytes (slice_split is_space bytes))) (IsFirst (find has_bytes ([] ∷ slice_split is_space bytes))) (line_first bytes) (λ words h. h))
    (λ _.
    let found : Option (List ℕ) = find has_bytes (onto_first b (slice_split is_space bytes)) in
    cond_is (eqb b 34) (Some place.String) (Some place.Plain) (λ to. IfSome (after place.Between b bytes to) (IsFirst found))
    (λ mark. map_holds (words_from place.String bytes) _ (λ _. Unit {0}) (IsFirst found) (anything (words_from place.String bytes)) (λ words _. string_first b words found mark))
    (λ _. map_holds (words_from place.Plain bytes) _ (λ words. HaveSameFirst words (slice_split is_space bytes)) (IsFirst found) (plain_first bytes) (λ words h. word_first b words (slice_split is_space bytes) h)))

-- a line that doesn't begin with the word `thread`
abbrev pub BeginsNoThread : List (List ℕ) → Type 0
BeginsNoThread [] = Unit {0}
BeginsNoThread (word ∷ words) = bytes_eq word (codes "thread") ≡ false

not_thread : (found : Option (List ℕ)) (words : List (List ℕ)) → (is_word (codes "thread") found || is_word (codes "order") found) ≡ false → IsFirst found words → BeginsNoThread words
not_thread found [] ends first = tt
not_thread found (word ∷ words) ends first =
    cases_of (bytes_eq word (codes "thread")) (λ same.
    let is : word ≡ codes "thread" = (bytes_decides word (codes "thread")).0 same in
    let plain : is_string word ≡ false = subst (λ (w : List ℕ). is_string w ≡ false) (sym is) refl in
    let reported : is_word (codes "thread") found ≡ true = ap (is_word (codes "thread")) (first plain) ∙ same in
    absurd (false≢true (sym ends ∙ ap (λ (t : Bool). t || is_word (codes "order") found) reported)))

pub begins_no_thread : (line : List ℕ) → ends_thread line ≡ false → IfSome (words_of line) BeginsNoThread
begins_no_thread line ends = weaker (words_of line) (IsFirst (first_word line)) BeginsNoThread (line_first line) (λ words h. not_thread (first_word line) words ends h)
