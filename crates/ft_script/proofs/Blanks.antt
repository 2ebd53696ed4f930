-- Comments, lines without words, further spaces and a last line feed say nothing.
use Rattle.std.proofs.Common.{◌≡◌, ◌≢◌, ◌⊎◌, cond, ℕ, Bool, true, false, not, eqb, List, [], ◌∷◌, ◌++◌, Option, Some, None, refl, sym, ap, ◌∙◌, inl, inr, subst}
use Rattle.std.specs.Prelude.{All, option_map}
use Rattle.std.specs.List.{list_all}
use Rattle.std.proofs.lemmas.Bool.{and_from, ne_eqb}
use Rattle.std.proofs.lemmas.List.{append-nil}
use Rattle.std.proofs.lemmas.List.Elements.{All-head, All-tail}
use Rattle.ft_script.specs.declared.lines.Place.{Place}
use Rattle.ft_script.specs.declared.lines.Place.TheVariants as place
use Rattle.ft_script.specs.Internal.Readers.{is_feedless}
use Rattle.ft_script.specs.Lines.{byte_joined, is_comment, lines_of, place_after, with_first, words_from, words_of}
use Rattle.ft_script.specs.ScriptTexts.{SaysNothing, said_by, said_in, with_words}
use Rattle.ft_script.proofs.LineLemmas.{lines_cons, no_lines}
use Rattle.ft_script.proofs.LineTexts.{line_first}
use Rattle.ft_script.proofs.SaidLines.{map_some, said_after, said_first, said_none}
use Rattle.ft_script.proofs.WordCuts.{after_byte, from_byte}

-- ---- further spaces

-- whether a word stands first, where one is begun
abbrev begins : List (List ℕ) → Bool
begins [] = false
begins (word ∷ words) = true

-- where no word is begun there may be none
abbrev may_begin : Place → List (List ℕ) → Bool
may_begin place.Between words = true
may_begin other words = begins words

first_append : (b : ℕ) (words others : List (List ℕ)) → begins words ≡ true → with_first b (words ++ others) ≡ with_first b words ++ others
first_append b [] others some = absurd cc
first_append b (word ∷ words) others some = refl

joined_append : (at next : Place) (b : ℕ) (words others : List (List ℕ)) → may_begin next words ≡ true → byte_joined at b next (words ++ others) ≡ byte_joined at b next words ++ others
joined_append place.Between place.Between b words others some = refl
joined_append place.Plain place.Between b words others some = refl
joined_append place.String place.Between b words others some = refl
joined_append place.Escape place.Between b words others some = refl
joined_append place.Ended place.Between b words others some = refl
joined_append place.Between place.Plain b words others some = first_append b words others some
joined_append place.Plain place.Plain b words others some = first_append b words others some
joined_append place.String place.Plain b words others some = first_append b words others some
joined_append place.Escape place.Plain b words others some = first_append b words others some
joined_append place.Ended place.Plain b words others some = first_append b words others some
joined_append place.Between place.String b words others some = first_append b words others some
joined_append place.Plain place.String b words others some = first_append b words others some
joined_append place.String place.String b words others some = first_append b words others some
joined_append place.Escape place.String b words others some = first_append b words others some
joined_append place.Ended place.String b words others some = first_append b words others some
joined_append place.Between place.Escape b words others some = first_append b words others some
joined_append place.Plain place.Escape b words others some = first_append b words others some
joined_append place.String place.Escape b words others some = first_append b words others some
joined_append place.Escape place.Escape b words others some = first_append b words others some
joined_append place.Ended place.Escape b words others some = first_append b words others some
joined_append place.Between place.Ended b words others some = first_append b words others some
joined_append place.Plain place.Ended b words others some = first_append b words others some
joined_append place.String place.Ended b words others some = first_append b words others some
joined_append place.Escape place.Ended b words others some = first_append b words others some
joined_append place.Ended place.Ended b words others some = first_append b words others some

first_some : (b : ℕ) (words : List (List ℕ)) → begins (with_first b words) ≡ true
first_some b [] = refl
first_some b (word ∷ words) = refl

joined_some : (at next : Place) (b : ℕ) (words : List (List ℕ)) → may_begin at (byte_joined at b next words) ≡ true
joined_some place.Between next b words = refl
joined_some place.Plain place.Between b words = refl
joined_some place.Plain place.Plain b words = first_some b words
joined_some place.Plain place.String b words = first_some b words
joined_some place.Plain place.Escape b words = first_some b words
joined_some place.Plain place.Ended b words = first_some b words
joined_some place.String place.Between b words = refl
joined_some place.String place.Plain b words = first_some b words
joined_some place.String place.String b words = first_some b words
joined_some place.String place.Escape b words = first_some b words
joined_some place.String place.Ended b words = first_some b words
joined_some place.Escape place.Between b words = refl
joined_some place.Escape place.Plain b words = first_some b words
joined_some place.Escape place.String b words = first_some b words
joined_some place.Escape place.Escape b words = first_some b words
joined_some place.Escape place.Ended b words = first_some b words
joined_some place.Ended place.Between b words = refl
joined_some place.Ended place.Plain b words = first_some b words
joined_some place.Ended place.String b words = first_some b words
joined_some place.Ended place.Escape b words = first_some b words
joined_some place.Ended place.Ended b words = first_some b words

begun_by : (at : Place) (b : ℕ) (line : List ℕ) (words : List (List ℕ)) (to : Option Place) → after_byte at b line to ≡ Some words → may_begin at words ≡ true
begun_by at b line words None is = absurd cc
begun_by at b line words (Some next) is = let cut = map_some (words_from next line) (byte_joined at b next) words is in ap (may_begin at) cut.2 ∙ joined_some at next b cut.0

begun : (at : Place) (line : List ℕ) (words : List (List ℕ)) → words_from at line ≡ Some words → may_begin at words ≡ true
unfolding words_from
begun place.Between [] words is = refl
begun place.Plain [] words is = let same : [] ∷ [] ≡ words = cc in ap begins (sym same)
begun place.String [] words is = absurd cc
begun place.Escape [] words is = absurd cc
begun place.Ended [] words is = let same : [] ∷ [] ≡ words = cc in ap begins (sym same)
begun at (b ∷ line) words is = begun_by at b line words (place_after at b) (sym (from_byte at b line (place_after at b) refl) ∙ is)

abbrev then_words : List (List ℕ) → Option (List (List ℕ)) → Option (List (List ℕ))
then_words words more = option_map (λ others. words ++ others) more

joined_then : (at next : Place) (b : ℕ) (words : List (List ℕ)) (more : Option (List (List ℕ))) → may_begin next words ≡ true → option_map (byte_joined at b next) (then_words words more) ≡ then_words (byte_joined at b next words) more
joined_then at next b words None some = refl
joined_then at next b words (Some others) some = ap (λ (l : List (List ℕ)). Some l) (joined_append at next b words others some)

abbrev PartsAt : Place → List ℕ → Type 0
PartsAt at line = (more : List ℕ) (words : List (List ℕ)) → words_from at line ≡ Some words → words_from at (line ++ 32 ∷ more) ≡ then_words words (words_of more)

parts_by : (at : Place) (b : ℕ) (line : List ℕ) (to : Option Place) → ((next : Place) → PartsAt next line) → place_after at b ≡ to → (more : List ℕ) (words : List (List ℕ)) → after_byte at b line to ≡ Some words → words_from at (b ∷ (line ++ 32 ∷ more)) ≡ then_words words (words_of more)
parts_by at b line None rest to more words is = absurd cc
parts_by at b line (Some next) rest to more words is =
    let cut = map_some (words_from next line) (byte_joined at b next) words is in
    from_byte at b (line ++ 32 ∷ more) (Some next) to
    ∙ ap (option_map (byte_joined at b next)) (rest next more cut.0 cut.1)
    ∙ joined_then at next b cut.0 (words_of more) (begun next line cut.0 cut.1)
    ∙ ap (λ (l : List (List ℕ)). then_words l (words_of more)) (sym cut.2)

pub parts_at : (line : List ℕ) (at : Place) → PartsAt at line
unfolding words_from
parts_at [] place.Between more words is = let same : [] ≡ words = cc in ap (λ (l : List (List ℕ)). then_words l (words_of more)) same
parts_at [] place.Plain more words is = let same : [] ∷ [] ≡ words = cc in ap (λ (l : List (List ℕ)). then_words l (words_of more)) same
parts_at [] place.String more words is = absurd cc
parts_at [] place.Escape more words is = absurd cc
parts_at [] place.Ended more words is = let same : [] ∷ [] ≡ words = cc in ap (λ (l : List (List ℕ)). then_words l (words_of more)) same
parts_at (b ∷ line) at more words is = parts_by at b line (place_after at b) (parts_at line) refl more words (sym (from_byte at b line (place_after at b) refl) ∙ is)

-- a space after a line's words goes on with what stands after it
pub spaces_part : (line more : List ℕ) (words : List (List ℕ)) → words_of line ≡ Some words → words_of (line ++ 32 ∷ more) ≡ option_map (λ others. words ++ others) (words_of more)
spaces_part line more words is = parts_at line place.Between more words is

-- ---- lines that say nothing

no_words_added : (rest : Option (List (List (List ℕ)))) → option_map (with_words []) rest ≡ rest
no_words_added None = refl
no_words_added (Some lines) = refl

nothing_by : (first : List ℕ) (lines : List (List ℕ)) (comment : Bool) → is_comment first ≡ comment → words_of first ≡ Some [] → said_by (first ∷ lines) ≡ said_by lines
nothing_by first lines true comment is = said_first first lines ∙ rw comment refl
nothing_by first lines false comment is = said_first first lines ∙ rw (comment, is) (no_words_added (said_by lines))

nothing_said : (first : List ℕ) (lines : List (List ℕ)) → SaysNothing first → said_by (first ∷ lines) ≡ said_by lines
nothing_said first lines (inl comment) = said_first first lines ∙ rw comment refl
nothing_said first lines (inr none) = nothing_by first lines (is_comment first) refl none

-- what stands below some lines says the same as other lines
said_below : (front lines others : List (List ℕ)) → said_by lines ≡ said_by others → said_by (front ++ lines) ≡ said_by (front ++ others)
said_below [] lines others same = same
said_below (first ∷ front) lines others same =
    said_first first (front ++ lines)
    ∙ ap (λ (rest : Option (List (List (List ℕ)))). cond (is_comment first) rest (said_after (words_of first) rest)) (said_below front lines others same)
    ∙ sym (said_first first (front ++ others))

-- the lines before a line feed, and those after it
record AreCut (front rest : List ℕ) : Type 0 where
  first : List ℕ
  others : List (List ℕ)
  alone : lines_of (front ++ 10 ∷ []) ≡ first ∷ others
  both : lines_of (front ++ 10 ∷ rest) ≡ (first ∷ others) ++ lines_of rest

cut_by : (b : ℕ) (front rest : List ℕ) (feed : Bool) → eqb b 10 ≡ feed → AreCut front rest → AreCut (b ∷ front) rest
cut_by b front rest true feed h = record {
  first = [];
  others = h.first ∷ h.others;
  alone = lines_cons b (front ++ 10 ∷ []) true feed ∙ ap (λ (l : List (List ℕ)). [] ∷ l) h.alone;
  both = lines_cons b (front ++ 10 ∷ rest) true feed ∙ ap (λ (l : List (List ℕ)). [] ∷ l) h.both;
}
cut_by b front rest false feed h = record {
  first = b ∷ h.first;
  others = h.others;
  alone = lines_cons b (front ++ 10 ∷ []) false feed ∙ ap (with_first b) h.alone;
  both = lines_cons b (front ++ 10 ∷ rest) false feed ∙ ap (with_first b) h.both;
}

abbrev after_nothing : List (List ℕ) → List (List ℕ)
after_nothing lines = [] ∷ lines

cut_at : (front rest : List ℕ) → AreCut front rest
cut_at [] rest = record {
  first = [];
  others = [];
  alone = lines_cons 10 [] true refl ∙ ap after_nothing no_lines;
  both = lines_cons 10 rest true refl;
}
cut_at (b ∷ front) rest = cut_by b front rest (eqb b 10) refl (cut_at front rest)

feedless : (line : List ℕ) → All (λ b. b ≢ 10) line → is_feedless line ≡ true
feedless [] h = refl
feedless (b ∷ line) h = and_from (not (eqb b 10)) (is_feedless line) (rw (ne_eqb b 10 (All-head (λ c. c ≢ 10) b line h)) refl) (feedless line (All-tail (λ c. c ≢ 10) b line h))

pub first_passed : (passed after : List ℕ) → All (λ b. b ≢ 10) passed → SaysNothing passed → said_in (passed ++ 10 ∷ after) ≡ said_in after
first_passed passed after whole nothing = ap said_by (line_first passed after (feedless passed whole)) ∙ nothing_said passed (lines_of after) nothing

-- such a line may stand anywhere
pub lines_passed : (before passed after : List ℕ) → All (λ b. b ≢ 10) passed → SaysNothing passed → said_in (before ++ 10 ∷ (passed ++ 10 ∷ after)) ≡ said_in (before ++ 10 ∷ after)
lines_passed before passed after whole nothing =
    let a = cut_at before (passed ++ 10 ∷ after) in
    let b = cut_at before after in
    let same : a.first ∷ a.others ≡ b.first ∷ b.others = sym a.alone ∙ b.alone in
    ap said_by a.both ∙ said_below (a.first ∷ a.others) (lines_of (passed ++ 10 ∷ after)) (lines_of after) (first_passed passed after whole nothing)
    ∙ ap (λ (l : List (List ℕ)). said_by (l ++ lines_of after)) same ∙ ap said_by (sym b.both)

-- ---- the last line feed

-- with a line feed after it a text has the same lines, or one more that is empty
abbrev HasLastFed : List ℕ → Type 0
HasLastFed text = (lines_of (text ++ 10 ∷ []) ≡ lines_of text) ⊎ (lines_of (text ++ 10 ∷ []) ≡ lines_of text ++ [] ∷ [])

fed_by : (b : ℕ) (text : List ℕ) (lines fed : List (List ℕ)) (feed : Bool) → eqb b 10 ≡ feed → lines_of text ≡ lines → lines_of (text ++ 10 ∷ []) ≡ fed → (fed ≡ lines) ⊎ (fed ≡ lines ++ [] ∷ []) → HasLastFed (b ∷ text)
fed_by b text lines fed true feed is with_feed (inl same) =
    inl (lines_cons b (text ++ 10 ∷ []) true feed ∙ ap after_nothing (with_feed ∙ same ∙ sym is) ∙ sym (lines_cons b text true feed))
fed_by b text lines fed true feed is with_feed (inr more) =
    inr (lines_cons b (text ++ 10 ∷ []) true feed ∙ ap after_nothing (with_feed ∙ more ∙ ap (λ (l : List (List ℕ)). l ++ [] ∷ []) (sym is)) ∙ ap (λ (l : List (List ℕ)). l ++ [] ∷ []) (sym (lines_cons b text true feed)))
fed_by b text lines fed false feed is with_feed (inl same) =
    inl (lines_cons b (text ++ 10 ∷ []) false feed ∙ ap (with_first b) (with_feed ∙ same ∙ sym is) ∙ sym (lines_cons b text false feed))
fed_by b text [] fed false feed is with_feed (inr more) =
    inl (lines_cons b (text ++ 10 ∷ []) false feed ∙ ap (with_first b) (with_feed ∙ more) ∙ ap (with_first b) (sym is) ∙ sym (lines_cons b text false feed))
fed_by b text (first ∷ others) fed false feed is with_feed (inr more) =
    inr (lines_cons b (text ++ 10 ∷ []) false feed ∙ ap (with_first b) (with_feed ∙ more) ∙ ap (λ (l : List (List ℕ)). with_first b l ++ [] ∷ []) (sym is) ∙ ap (λ (l : List (List ℕ)). l ++ [] ∷ []) (sym (lines_cons b text false feed)))

last_fed : (text : List ℕ) → HasLastFed text
last_fed [] = inr (lines_cons 10 [] true refl ∙ ap after_nothing no_lines ∙ ap (λ (l : List (List ℕ)). l ++ [] ∷ []) (sym no_lines))
last_fed (b ∷ text) = fed_by b text (lines_of text) (lines_of (text ++ 10 ∷ [])) (eqb b 10) refl refl refl (last_fed text)

no_words_there : words_of [] ≡ Some []
unfolding words_from
no_words_there = refl

fed_says : (text : List ℕ) → HasLastFed text → said_in (text ++ 10 ∷ []) ≡ said_in text
fed_says text (inl same) = ap said_by same
fed_says text (inr more) =
    ap said_by more ∙ said_below (lines_of text) ([] ∷ []) [] (nothing_said [] [] (inr no_words_there)) ∙ ap said_by (append-nil (lines_of text))

pub feed_says_nothing : (text : List ℕ) → said_in (text ++ 10 ∷ []) ≡ said_in text
feed_says_nothing text = fed_says text (last_fed text)
