-- Which tokens a printed text is cut into.
use Rattle.std.proofs.Common.{◌≡◌, ℕ, Bool, true, false, not, eqb, ◌&&◌, ◌||◌, List, [], ◌∷◌, ◌++◌, refl, sym, ap, ◌∙◌, inl, inr, append_assoc}
use Rattle.std.specs.List.{list_all, flat_map, AllByRecursion}
use Rattle.std.proofs.lemmas.Bool.{cases_eq, and_parts, and_from, ne_eqb, eqb-true}
use Rattle.std.proofs.lemmas.List.Folds.{list_all-append}
use Rattle.ft_script.specs.declared.lines.Place.TheVariants as place
use Rattle.ft_script.specs.Lines.{with_first}
use Rattle.ft_script.specs.Texts.{escaped, quoted}
use Rattle.ft_script.specs.Internal.Tokens.{is_gap, is_mark, tokens_from, tokens_of}
use Rattle.ft_script.specs.LineWords.{text_from, text_of}
use Rattle.ft_script.proofs.Printed.{each_after}
use Rattle.ft_script.proofs.TokenCuts.{at_byte, no_bytes}

-- ---- one byte

abbrev start_with : Bool → Bool → Bool → ℕ → List ℕ → List (List ℕ)
start_with true mark quote b bytes = tokens_of bytes
start_with false true quote b bytes = with_first b (tokens_from place.Ended bytes)
start_with false false true b bytes = with_first b (tokens_from place.String bytes)
start_with false false false b bytes = with_first b (tokens_from place.Plain bytes)

from_start : (b : ℕ) (bytes : List ℕ) (gap mark quote : Bool) → is_gap b ≡ gap → is_mark b ≡ mark → eqb b 34 ≡ quote → tokens_of (b ∷ bytes) ≡ start_with gap mark quote b bytes
from_start b bytes true mark quote g m q = at_byte place.Between b bytes ∙ rw g refl
from_start b bytes false true quote g m q = at_byte place.Between b bytes ∙ rw (g, m) refl
from_start b bytes false false true g m q = at_byte place.Between b bytes ∙ rw (g, m, q) refl
from_start b bytes false false false g m q = at_byte place.Between b bytes ∙ rw (g, m, q) refl

abbrev go_on_with : Bool → Bool → ℕ → List ℕ → List (List ℕ)
go_on_with true mark b bytes = [] ∷ tokens_of bytes
go_on_with false true b bytes = [] ∷ with_first b (tokens_from place.Ended bytes)
go_on_with false false b bytes = with_first b (tokens_from place.Plain bytes)

from_plain : (b : ℕ) (bytes : List ℕ) (gap mark : Bool) → is_gap b ≡ gap → is_mark b ≡ mark → tokens_from place.Plain (b ∷ bytes) ≡ go_on_with gap mark b bytes
from_plain b bytes true mark g m = at_byte place.Plain b bytes ∙ rw g refl
from_plain b bytes false true g m = at_byte place.Plain b bytes ∙ rw (g, m) refl
from_plain b bytes false false g m = at_byte place.Plain b bytes ∙ rw (g, m) refl

from_ended : (bytes : List ℕ) → tokens_from place.Ended bytes ≡ [] ∷ tokens_of bytes
from_ended [] = no_bytes place.Ended ∙ ap (λ (l : List (List ℕ)). [] ∷ l) (sym (no_bytes place.Between))
from_ended (b ∷ bytes) = at_byte place.Ended b bytes ∙ ap (λ (l : List (List ℕ)). [] ∷ l) (sym (at_byte place.Between b bytes))

pub from_gap : (b : ℕ) (bytes : List ℕ) → is_gap b ≡ true → tokens_of (b ∷ bytes) ≡ tokens_of bytes
from_gap b bytes g = from_start b bytes true (is_mark b) (eqb b 34) g refl refl

from_mark : (b : ℕ) (bytes : List ℕ) → is_gap b ≡ false → is_mark b ≡ true → tokens_of (b ∷ bytes) ≡ (b ∷ []) ∷ tokens_of bytes
from_mark b bytes g m = from_start b bytes false true (eqb b 34) g m refl ∙ ap (with_first b) (from_ended bytes)

-- ---- texts

-- what is left of a line begins with a byte that ends a token
abbrev pub Ends : List ℕ → Type 0
Ends [] = ⊥
Ends (b ∷ rest) = (is_gap b || is_mark b) ≡ true

abbrev pub is_feedless : List ℕ → Bool
is_feedless text = list_all (λ b. not (eqb b 10)) text

-- a text is cut into these tokens, whatever stands after it, and has no line feed
pub record IsCut (text : List ℕ) (tokens : List (List ℕ)) : Type 0 where
  pub cut : (rest : List ℕ) → Ends rest → tokens_of (text ++ rest) ≡ tokens ++ tokens_of rest
  pub feedless : is_feedless text ≡ true

-- and it ends a token itself
pub record IsTail (text : List ℕ) (tokens : List (List ℕ)) : Type 0 where
  pub cut : (rest : List ℕ) → Ends rest → tokens_of (text ++ rest) ≡ tokens ++ tokens_of rest
  pub feedless : is_feedless text ≡ true
  pub ends : (rest : List ℕ) → Ends rest → Ends (text ++ rest)

pub feedless_append : (a b : List ℕ) → is_feedless a ≡ true → is_feedless b ≡ true → is_feedless (a ++ b) ≡ true
feedless_append a b ha hb = list_all-append (λ (x : ℕ). not (eqb x 10)) a b ∙ and_from (is_feedless a) (is_feedless b) ha hb

joined : (a b : List ℕ) (ta tb : List (List ℕ)) (rest : List ℕ) → tokens_of (a ++ (b ++ rest)) ≡ ta ++ tokens_of (b ++ rest) → tokens_of (b ++ rest) ≡ tb ++ tokens_of rest → tokens_of ((a ++ b) ++ rest) ≡ (ta ++ tb) ++ tokens_of rest
joined a b ta tb rest first second =
    ap tokens_of (append_assoc a b rest) ∙ first ∙ ap (λ (l : List (List ℕ)). ta ++ l) second ∙ sym (append_assoc ta tb (tokens_of rest))

pub cut_tail : (a b : List ℕ) (ta tb : List (List ℕ)) → IsCut a ta → IsTail b tb → IsCut (a ++ b) (ta ++ tb)
cut_tail a b ta tb ha hb = record {
  cut = λ rest ends. joined a b ta tb rest (ha.cut (b ++ rest) (hb.ends rest ends)) (hb.cut rest ends);
  feedless = feedless_append a b ha.feedless hb.feedless;
}

ends_append : (a b rest : List ℕ) → Ends (a ++ (b ++ rest)) → Ends ((a ++ b) ++ rest)
ends_append [] b rest h = h
ends_append (x ∷ a) b rest h = h

pub tail_tail : (a b : List ℕ) (ta tb : List (List ℕ)) → IsTail a ta → IsTail b tb → IsTail (a ++ b) (ta ++ tb)
tail_tail a b ta tb ha hb = record {
  cut = λ rest ends. joined a b ta tb rest (ha.cut (b ++ rest) (hb.ends rest ends)) (hb.cut rest ends);
  feedless = feedless_append a b ha.feedless hb.feedless;
  ends = λ rest ends. ends_append a b rest (ha.ends (b ++ rest) (hb.ends rest ends));
}

pub nothing : IsTail [] []
nothing = record { cut = λ rest ends. refl; feedless = refl; ends = λ rest ends. ends }

-- a space in front
pub after_space : (text : List ℕ) (tokens : List (List ℕ)) → IsCut text tokens → IsTail (32 ∷ text) tokens
after_space text tokens h = record { cut = λ rest ends. from_gap 32 (text ++ rest) refl ∙ h.cut rest ends; feedless = h.feedless; ends = λ rest ends. refl }

pub after_comma : (text : List ℕ) (tokens : List (List ℕ)) → IsCut text tokens → IsTail (44 ∷ 32 ∷ text) tokens
after_comma text tokens h = record { cut = λ rest ends. from_gap 44 (32 ∷ (text ++ rest)) refl ∙ (from_gap 32 (text ++ rest) refl ∙ h.cut rest ends); feedless = h.feedless; ends = λ rest ends. refl }

pub after_colon : (text : List ℕ) (tokens : List (List ℕ)) → IsCut text tokens → IsTail (58 ∷ 32 ∷ text) ((58 ∷ []) ∷ tokens)
after_colon text tokens h = record {
  cut = λ rest ends. from_mark 58 (32 ∷ (text ++ rest)) refl refl ∙ ap (λ (l : List (List ℕ)). (58 ∷ []) ∷ l) (from_gap 32 (text ++ rest) refl ∙ h.cut rest ends);
  feedless = h.feedless;
  ends = λ rest ends. refl;
}

-- what stands between two marks
pub between_marks : (first last : ℕ) (text : List ℕ) (tokens : List (List ℕ)) → is_gap first ≡ false → is_mark first ≡ true → is_gap last ≡ false → is_mark last ≡ true → is_feedless (first ∷ []) ≡ true → is_feedless (last ∷ []) ≡ true →
    ((rest : List ℕ) → Ends rest → tokens_of (text ++ rest) ≡ tokens ++ tokens_of rest) → is_feedless text ≡ true → IsCut ((first ∷ text) ++ last ∷ []) ((first ∷ []) ∷ tokens ++ (last ∷ []) ∷ [])
between_marks first last text tokens g m gc mc fo fc cut feedless = record {
  cut = λ rest ends.
      let close_ends : Ends (last ∷ rest) = rw (gc, mc) refl in
      ap tokens_of (ap (λ (l : List ℕ). first ∷ l) (append_assoc text (last ∷ []) rest))
      ∙ from_mark first (text ++ (last ∷ rest)) g m
      ∙ ap (λ (l : List (List ℕ)). (first ∷ []) ∷ l) (cut (last ∷ rest) close_ends ∙ ap (λ (l : List (List ℕ)). tokens ++ l) (from_mark last rest gc mc) ∙ sym (append_assoc tokens ((last ∷ []) ∷ []) (tokens_of rest)));
  feedless = feedless_append (first ∷ text) (last ∷ []) (feedless_append (first ∷ []) text fo feedless) fc;
}

-- ---- words

abbrev pub is_part : ℕ → Bool
is_part b = not (is_gap b) && not (is_mark b)

-- a word that is no string
abbrev pub IsWord : List ℕ → Type 0
IsWord [] = ⊥
IsWord (b ∷ bytes) = (eqb b 34 ≡ false) × (list_all is_part (b ∷ bytes) ≡ true)

untrue : (b : Bool) → not b ≡ true → b ≡ false
untrue true h = absurd cc
untrue false h = refl

gapless : (b : ℕ) → is_part b ≡ true → is_gap b ≡ false
gapless b h = untrue (is_gap b) (and_parts (not (is_gap b)) (not (is_mark b)) h).0

markless : (b : ℕ) → is_part b ≡ true → is_mark b ≡ false
markless b h = untrue (is_mark b) (and_parts (not (is_gap b)) (not (is_mark b)) h).1

ends_by : (b : ℕ) (bytes : List ℕ) (gap mark : Bool) → is_gap b ≡ gap → is_mark b ≡ mark → (gap || mark) ≡ true → tokens_from place.Plain (b ∷ bytes) ≡ [] ∷ tokens_of (b ∷ bytes)
ends_by b bytes true mark g m either = from_plain b bytes true mark g m ∙ ap (λ (l : List (List ℕ)). [] ∷ l) (sym (from_gap b bytes g))
ends_by b bytes false true g m either = from_plain b bytes false true g m ∙ ap (λ (l : List (List ℕ)). [] ∷ l) (sym (from_start b bytes false true (eqb b 34) g m refl))
ends_by b bytes false false g m either = absurd cc

at_end : (rest : List ℕ) → Ends rest → tokens_from place.Plain rest ≡ [] ∷ tokens_of rest
at_end [] ends = absurd ends
at_end (b ∷ rest) ends = ends_by b rest (is_gap b) (is_mark b) refl refl ends

word_rest : (bytes rest : List ℕ) → list_all is_part bytes ≡ true → Ends rest → tokens_from place.Plain (bytes ++ rest) ≡ bytes ∷ tokens_of rest
word_rest [] rest parts ends = at_end rest ends
word_rest (b ∷ bytes) rest parts ends =
    let both = and_parts (is_part b) (list_all is_part bytes) parts in
    from_plain b (bytes ++ rest) false false (gapless b both.0) (markless b both.0) ∙ ap (with_first b) (word_rest bytes rest both.1 ends)

no_feed : (b : ℕ) → is_part b ≡ true → not (eqb b 10) ≡ true
no_feed b h =
    elim (cases_eq b 10) [
      | inl is ↦ absurd (let bad : is_part 10 ≡ true = rw is at h in cc)
      | inr other ↦ rw (ne_eqb b 10 other) refl
    ]

parts_feedless : (bytes : List ℕ) → list_all is_part bytes ≡ true → is_feedless bytes ≡ true
parts_feedless [] h = refl
parts_feedless (b ∷ bytes) h =
    let both = and_parts (is_part b) (list_all is_part bytes) h in
    and_from (not (eqb b 10)) (is_feedless bytes) (no_feed b both.0) (parts_feedless bytes both.1)

pub word_is_cut : (word : List ℕ) → IsWord word → IsCut word (word ∷ [])
word_is_cut [] h = absurd h
word_is_cut (b ∷ bytes) h =
    let both = and_parts (is_part b) (list_all is_part bytes) h.1 in
    record {
      cut = λ rest ends. from_start b (bytes ++ rest) false false false (gapless b both.0) (markless b both.0) h.0 ∙ ap (with_first b) (word_rest bytes rest both.1 ends);
      feedless = parts_feedless (b ∷ bytes) h.1;
    }

-- words, each after a space
pub words_tail : (words : List (List ℕ)) → AllByRecursion (λ word. IsCut word (word ∷ [])) words → IsTail (each_after 32 words) words
words_tail [] h = nothing
words_tail (word ∷ words) h = tail_tail (32 ∷ word) (each_after 32 words) (word ∷ []) words (after_space word (word ∷ []) h.0) (words_tail words h.1)

-- ---- strings

from_string : (b : ℕ) (bytes : List ℕ) → eqb b 34 ≡ false → eqb b 92 ≡ false → tokens_from place.String (b ∷ bytes) ≡ with_first b (tokens_from place.String bytes)
from_string b bytes q e = at_byte place.String b bytes ∙ rw (q, e) refl

from_escape : (b : ℕ) (bytes : List ℕ) → tokens_from place.String (92 ∷ b ∷ bytes) ≡ with_first 92 (with_first b (tokens_from place.String bytes))
from_escape b bytes = at_byte place.String 92 (b ∷ bytes) ∙ ap (with_first 92) (at_byte place.Escape b bytes)

-- how a byte stands in a string, by what it is
abbrev escaped_by : Bool → Bool → Bool → Bool → ℕ → List ℕ
escaped_by true backslash feed tab b = 92 ∷ 34 ∷ []
escaped_by false true feed tab b = 92 ∷ 92 ∷ []
escaped_by false false true tab b = 92 ∷ 110 ∷ []
escaped_by false false false true b = 92 ∷ 116 ∷ []
escaped_by false false false false b = b ∷ []

escaped_is : (b : ℕ) (quote backslash feed tab : Bool) → eqb b 34 ≡ quote → eqb b 92 ≡ backslash → eqb b 10 ≡ feed → eqb b 9 ≡ tab → escaped b ≡ escaped_by quote backslash feed tab b
escaped_is b true backslash feed tab q e f t = rw q refl
escaped_is b false true feed tab q e f t = rw (q, e) refl
escaped_is b false false true tab q e f t = rw (q, e, f) refl
escaped_is b false false false true q e f t = rw (q, e, f, t) refl
escaped_is b false false false false q e f t = rw (q, e, f, t) refl

-- a byte of a string, in front of the first of some tokens
abbrev fronts : List ℕ → List (List ℕ) → List (List ℕ)
fronts [] tokens = tokens
fronts (b ∷ bytes) tokens = with_first b (fronts bytes tokens)

string_byte_by : (b : ℕ) (quote backslash feed tab : Bool) (bytes : List ℕ) → eqb b 34 ≡ quote → eqb b 92 ≡ backslash → tokens_from place.String (escaped_by quote backslash feed tab b ++ bytes) ≡ fronts (escaped_by quote backslash feed tab b) (tokens_from place.String bytes)
string_byte_by b true backslash feed tab bytes q e = from_escape 34 bytes
string_byte_by b false true feed tab bytes q e = from_escape 92 bytes
string_byte_by b false false true tab bytes q e = from_escape 110 bytes
string_byte_by b false false false true bytes q e = from_escape 116 bytes
string_byte_by b false false false false bytes q e = from_string b bytes q e

string_byte : (b : ℕ) (bytes : List ℕ) → tokens_from place.String (escaped b ++ bytes) ≡ fronts (escaped b) (tokens_from place.String bytes)
string_byte b bytes =
    let e = escaped_is b (eqb b 34) (eqb b 92) (eqb b 10) (eqb b 9) refl refl refl refl in
    rw e (string_byte_by b (eqb b 34) (eqb b 92) (eqb b 10) (eqb b 9) bytes refl refl)

fronts_onto : (bytes word : List ℕ) (tokens : List (List ℕ)) → fronts bytes (word ∷ tokens) ≡ (bytes ++ word) ∷ tokens
fronts_onto [] word tokens = refl
fronts_onto (b ∷ bytes) word tokens = ap (with_first b) (fronts_onto bytes word tokens)

string_rest : (text rest : List ℕ) → tokens_from place.String ((flat_map escaped text ++ 34 ∷ []) ++ rest) ≡ (flat_map escaped text ++ 34 ∷ []) ∷ tokens_of rest
string_rest [] rest = at_byte place.String 34 rest ∙ ap (with_first 34) (from_ended rest)
string_rest (b ∷ text) rest =
    let tail : List ℕ = flat_map escaped text ++ 34 ∷ [] in
    ap (tokens_from place.String) (ap (λ (l : List ℕ). l ++ rest) (append_assoc (escaped b) (flat_map escaped text) (34 ∷ [])) ∙ append_assoc (escaped b) tail rest)
    ∙ string_byte b (tail ++ rest) ∙ ap (fronts (escaped b)) (string_rest text rest) ∙ fronts_onto (escaped b) tail (tokens_of rest)
    ∙ ap (λ (l : List ℕ). l ∷ tokens_of rest) (sym (append_assoc (escaped b) (flat_map escaped text) (34 ∷ [])))

feedless_by : (b : ℕ) (quote backslash feed tab : Bool) → eqb b 10 ≡ feed → is_feedless (escaped_by quote backslash feed tab b) ≡ true
feedless_by b true backslash feed tab f = refl
feedless_by b false true feed tab f = refl
feedless_by b false false true tab f = refl
feedless_by b false false false true f = refl
feedless_by b false false false false f = rw f refl

escaped_feedless : (b : ℕ) → is_feedless (escaped b) ≡ true
escaped_feedless b =
    let e = escaped_is b (eqb b 34) (eqb b 92) (eqb b 10) (eqb b 9) refl refl refl refl in
    rw e (feedless_by b (eqb b 34) (eqb b 92) (eqb b 10) (eqb b 9) refl)

texts_feedless : (text : List ℕ) → is_feedless (flat_map escaped text) ≡ true
texts_feedless [] = refl
texts_feedless (b ∷ text) = feedless_append (escaped b) (flat_map escaped text) (escaped_feedless b) (texts_feedless text)

pub string_is_cut : (text : List ℕ) → IsCut (quoted text) (quoted text ∷ [])
string_is_cut text = record {
  cut = λ rest ends. from_start 34 ((flat_map escaped text ++ 34 ∷ []) ++ rest) false false true refl refl refl ∙ ap (with_first 34) (string_rest text rest);
  feedless = feedless_append (flat_map escaped text) (34 ∷ []) (texts_feedless text) refl;
}

-- ---- what a string says

said_by : (b : ℕ) (quote backslash feed tab : Bool) (bytes : List ℕ) → eqb b 34 ≡ quote → eqb b 92 ≡ backslash → eqb b 10 ≡ feed → eqb b 9 ≡ tab → text_from false (escaped_by quote backslash feed tab b ++ bytes) ≡ b ∷ text_from false bytes
said_by b true backslash feed tab bytes q e f t = ap (λ (x : ℕ). x ∷ text_from false bytes) (sym (eqb-true b 34 q))
said_by b false true feed tab bytes q e f t = ap (λ (x : ℕ). x ∷ text_from false bytes) (sym (eqb-true b 92 e))
said_by b false false true tab bytes q e f t = ap (λ (x : ℕ). x ∷ text_from false bytes) (sym (eqb-true b 10 f))
said_by b false false false true bytes q e f t = ap (λ (x : ℕ). x ∷ text_from false bytes) (sym (eqb-true b 9 t))
said_by b false false false false bytes q e f t = rw (e, q) refl

said : (text : List ℕ) → text_from false (flat_map escaped text ++ 34 ∷ []) ≡ text
said [] = refl
said (b ∷ text) =
    let e = escaped_is b (eqb b 34) (eqb b 92) (eqb b 10) (eqb b 9) refl refl refl refl in
    let tail : List ℕ = flat_map escaped text ++ 34 ∷ [] in
    ap (text_from false) (append_assoc (escaped b) (flat_map escaped text) (34 ∷ []))
    ∙ ap (λ (l : List ℕ). text_from false (l ++ tail)) e
    ∙ said_by b (eqb b 34) (eqb b 92) (eqb b 10) (eqb b 9) tail refl refl refl refl ∙ ap (λ (l : List ℕ). b ∷ l) (said text)

pub text_of_quoted : (text : List ℕ) → text_of (quoted text) ≡ text
unfolding text_of
text_of_quoted text = said text
