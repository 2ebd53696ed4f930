-- What the lines of a text say is all that is read of it.
use Rattle.std.proofs.Common.{◌≡◌, ◌⊎◌, cond, ℕ, ◌≤◌, Bool, true, false, not, eqb, ◌||◌, List, [], ◌∷◌, ◌++◌, length, Option, Some, None, Result, Ok, Err, refl, sym, ap, ◌∙◌, inl, inr, subst, arith}
use Rattle.std.specs.Prelude.{codes, option_map, IfSome}
use Rattle.std.specs.List.{find, list_all, slice_split, onto_first}
use Rattle.std.specs.Str.{IsUtf8, bytes_eq}
use Rattle.std.specs.Str.Lossy.{utf8_valid_len}
use Rattle.std.proofs.lemmas.Bool.{and_parts, eqb-true, ne_eqb, le-ltb}
use Rattle.std.proofs.lemmas.Str.{utf8_valid_len-IsUtf8}
use Rattle.ft_model.specs.declared.script.ScriptParts.{ScriptParts}
use Rattle.ft_script.specs.declared.fault.Fault.{Fault}
use Rattle.ft_script.specs.declared.fault.ScriptFault.{ScriptFault}
use Rattle.ft_script.specs.declared.lines.Place.TheVariants as place
use Rattle.ft_script.specs.Drafts.{Draft, ◌>>=◌, empty_draft, end_thread, script_of}
use Rattle.ft_script.specs.Lines.{ends_thread, first_word, is_comment, is_word, lines_of, with_first, words_from, words_of}
use Rattle.ft_script.specs.ReadScripts.{line_after, read_lines, read_script, reported_at}
use Rattle.ft_script.specs.ScriptLines.{open_line, read_line, statement, words_line}
use Rattle.ft_script.specs.ScriptTexts.{said_by, said_in, with_words}
use Rattle.ft_script.proofs.Encoded.{HaveSameFirst, IsFirst, after, anything, cond_both, cond_is, has_bytes, is_space, map_holds, plain_first, word_first}
use Rattle.ft_script.proofs.KeptLines.{bind_ok}
use Rattle.ft_script.proofs.LineReading.{after_line, lines_cons, lines_nil}
use Rattle.ft_script.proofs.ReadScripts.{is_read}

-- ---- whether a line ends a thread's calls is told by its words

abbrev pub opens : List (List ℕ) → Bool
opens [] = false
opens (word ∷ words) = bytes_eq word (codes "thread") || bytes_eq word (codes "order")

abbrev ends_by : Option (List ℕ) → Bool
ends_by found = is_word (codes "thread") found || is_word (codes "order") found

string_ends_none : (b : ℕ) (parts : List (List ℕ)) → eqb b 34 ≡ true → ends_by (find has_bytes (onto_first b parts)) ≡ false
string_ends_none b [] mark = rw (eqb-true b 34 mark) refl
string_ends_none b (part ∷ parts) mark =
    let some : eqb (length (34 ∷ part)) 0 ≡ false = ne_eqb (length (34 ∷ part)) 0 (λ none. omega arith) in
    rw (eqb-true b 34 mark) (rw some refl)

string_opens_none : (b : ℕ) (words : List (List ℕ)) → eqb b 34 ≡ true → opens (with_first b words) ≡ false
string_opens_none b [] mark = rw (eqb-true b 34 mark) refl
string_opens_none b (word ∷ words) mark = rw (eqb-true b 34 mark) refl

word_opens : (b : ℕ) (words : List (List ℕ)) (found : Option (List ℕ)) → eqb b 34 ≡ false → IsFirst found (with_first b words) → ends_by found ≡ opens (with_first b words)
word_opens b [] found plain first = ap ends_by (first plain)
word_opens b (word ∷ words) found plain first = ap ends_by (first plain)

line_opens : (line : List ℕ) → IfSome (words_from place.Between line) (λ words. ends_by (find has_bytes (slice_split is_space line)) ≡ opens words)
unfolding words_from
line_opens [] = refl
line_opens (b ∷ bytes) =
    let parts : List (List ℕ) = slice_split is_space bytes in
    cond_both (eqb b 32) (Some place.Between) (cond (eqb b 34) (Some place.String) (Some place.Plain)) ([] ∷ parts) (onto_first b parts) (λ to split. IfSome (after place.Between b bytes to) (λ words. ends_by (find has_bytes split) ≡ opens words))
    (λ _. map_holds (words_from place.Between bytes) _ (λ words. ends_by (find has_bytes parts) ≡ opens words) (λ words. ends_by (find has_bytes ([] ∷ parts)) ≡ opens words) (line_opens bytes) (λ words h. h))
    (λ _.
    let found : Option (List ℕ) = find has_bytes (onto_first b parts) in
    cond_is (eqb b 34) (Some place.String) (Some place.Plain) (λ to. IfSome (after place.Between b bytes to) (λ words. ends_by found ≡ opens words))
    (λ mark. map_holds (words_from place.String bytes) _ (λ _. Unit {0}) (λ words. ends_by found ≡ opens words) (anything (words_from place.String bytes)) (λ words _. string_ends_none b parts mark ∙ sym (string_opens_none b words mark)))
    (λ plain. map_holds (words_from place.Plain bytes) _ (λ words. HaveSameFirst words parts) (λ words. ends_by found ≡ opens words) (plain_first bytes) (λ words h. word_opens b words found plain (word_first b words parts h))))

some_holds : {A : Type 0} (o : Option A) (P : A → Type 0) (x : A) → o ≡ Some x → IfSome o P → P x
some_holds {A = A} o P x is h = let held : IfSome (Some x) P = subst (λ (p : Option A). IfSome p P) is h in held

-- ---- a line by its words

abbrev pub spoken : Draft → List (List ℕ) → Result Draft Fault
spoken draft words = cond (opens words) (end_thread draft >>= λ ended. statement ended words) (statement draft words)

spoken_by : (draft : Draft) (text : List ℕ) (words : List (List ℕ)) (opening : Bool) → is_comment text ≡ false → ends_thread text ≡ opening → words_of text ≡ Some words → read_line draft text ≡ cond opening (end_thread draft >>= λ ended. statement ended words) (statement draft words)
unfolding read_line open_line words_line
spoken_by draft text words true comment ends is = rw (comment, ends, is) refl
spoken_by draft text words false comment ends is = rw (comment, ends, is) refl

pub line_says : (draft : Draft) (text : List ℕ) (words : List (List ℕ)) → is_comment text ≡ false → words_of text ≡ Some words → read_line draft text ≡ spoken draft words
line_says draft text words comment is =
    spoken_by draft text words (opens words) comment (some_holds (words_of text) (λ said. ends_thread text ≡ opens said) words is (line_opens text)) is

comment_read : (draft : Draft) (text : List ℕ) → is_comment text ≡ true → read_line draft text ≡ Ok draft
unfolding read_line
comment_read draft text comment = rw comment refl

none_after : (r : Result Draft Fault) (found : Fault) (next : Draft) → ◌≡◌ {A = Result Draft Fault} (r >>= λ _. Err found) (Ok next) → ⊥
none_after (Ok x) found next same = absurd cc
none_after (Err e) found next same = absurd cc

broken_by : (draft next : Draft) (text : List ℕ) (opening : Bool) → is_comment text ≡ false → ends_thread text ≡ opening → words_of text ≡ None → read_line draft text ≡ Ok next → ⊥
unfolding read_line open_line words_line
broken_by draft next text true comment ends is read = none_after (end_thread draft) _ next (rw (comment, ends, is) at read)
broken_by draft next text false comment ends is read = (let bad : ◌≡◌ {A = Result Draft Fault} (Err _) (Ok next) = rw (comment, ends, is) at read in absurd cc)

-- ---- all lines by their words

abbrev pub statements : Draft → List (List (List ℕ)) → Result Draft Fault
statements draft [] = end_thread draft
statements draft (words ∷ lines) = spoken draft words >>= λ next. statements next lines

pub say_on : (draft next : Draft) (words : List (List ℕ)) (lines : List (List (List ℕ))) → spoken draft words ≡ Ok next → statements draft (words ∷ lines) ≡ statements next lines
say_on draft next words lines is = ap (λ (r : Result Draft Fault). r >>= λ d. statements d lines) is

nothing_said : (draft : Draft) → statement draft [] ≡ Ok draft
unfolding statement
nothing_said draft = refl

statements_with : (draft : Draft) (words : List (List ℕ)) (lines : List (List (List ℕ))) → statements draft (with_words words lines) ≡ (spoken draft words >>= λ next. statements next lines)
statements_with draft [] lines = sym (ap (λ (r : Result Draft Fault). r >>= λ next. statements next lines) (nothing_said draft))
statements_with draft (word ∷ words) lines = refl

abbrev pub said_after : Option (List (List ℕ)) → Option (List (List (List ℕ))) → Option (List (List (List ℕ)))
said_after found rest = elim found [ None ↦ None | Some words ↦ option_map (with_words words) rest ]

pub said_first : (first : List ℕ) (lines : List (List ℕ)) → said_by (first ∷ lines) ≡ cond (is_comment first) (said_by lines) (said_after (words_of first) (said_by lines))
unfolding said_by
said_first first lines = refl

pub said_none : said_by [] ≡ Some []
unfolding said_by
said_none = refl

pub map_some : {A B : Type 0} (o : Option A) (f : A → B) (y : B) → option_map f o ≡ Some y → (x : A) × (o ≡ Some x) × (y ≡ f x)
map_some (Some x) f y same = (x, refl, cc)
map_some None f y same = absurd cc

abbrev good : Draft → Result Draft Fault
good draft = Ok draft

abbrev IsReadFrom : List (List ℕ) → Type 0
IsReadFrom lines = (number : ℕ) (draft final : Draft) (said : List (List (List ℕ))) → said_by lines ≡ Some said → statements draft said ≡ Ok final → read_lines number draft lines ≡ Ok final

read_first : (first : List ℕ) (lines : List (List ℕ)) (number : ℕ) (draft final : Draft) (said : List (List (List ℕ))) (comment : Bool) (words : Option (List (List ℕ))) → IsReadFrom lines → is_comment first ≡ comment → words_of first ≡ words →
    cond comment (said_by lines) (said_after words (said_by lines)) ≡ Some said → statements draft said ≡ Ok final → read_lines number draft (first ∷ lines) ≡ Ok final
read_first first lines number draft final said true words more comment found is reads =
    lines_cons number draft first lines (Ok draft) (comment_read draft first comment) ∙ more (line_after number) draft final said is reads
read_first first lines number draft final said false None more comment found is reads = absurd cc
read_first first lines number draft final said false (Some words) more comment found is reads =
    let rest = map_some (said_by lines) (with_words words) said is in
    let step = bind_ok (spoken draft words) (λ next. statements next rest.0) final (sym (statements_with draft words rest.0) ∙ ap (statements draft) (sym rest.2) ∙ reads) in
    lines_cons number draft first lines (Ok step.0) (line_says draft first words comment found ∙ step.1) ∙ more (line_after number) step.0 final rest.0 rest.1 step.2

-- what is said is read, whatever lines say it
pub read_of_said : (lines : List (List ℕ)) → IsReadFrom lines
read_of_said [] number draft final said is reads =
    let both : Some [] ≡ Some said = sym said_none ∙ is in
    let none : said ≡ [] = cc in
    lines_nil number draft (Ok final) (ap (statements draft) (sym none) ∙ reads)
read_of_said (first ∷ lines) number draft final said is reads = read_first first lines number draft final said (is_comment first) (words_of first) (read_of_said lines) refl refl (sym (said_first first lines) ∙ is) reads

after_ok : (number : ℕ) (lines : List (List ℕ)) (r : Result Draft Fault) (final : Draft) → after_line number lines r ≡ Ok final → (next : Draft) × (r ≡ Ok next) × (read_lines (line_after number) next lines ≡ Ok final)
after_ok number lines (Ok next) final same = (next, refl, same)
after_ok number lines (Err e) final same = absurd cc

reported_ok : (number : ℕ) (r : Result Draft Fault) (final : Draft) → reported_at number r ≡ Ok final → r ≡ Ok final
reported_ok number (Ok x) final same = ap good cc
reported_ok number (Err e) final same = absurd cc

-- and what is read is said
abbrev IsSaid : List (List ℕ) → Draft → Draft → Type 0
IsSaid lines draft final = (said : List (List (List ℕ))) × (said_by lines ≡ Some said) × (statements draft said ≡ Ok final)

said_from : (first : List ℕ) (lines : List (List ℕ)) (number : ℕ) (draft next final : Draft) (comment : Bool) (words : Option (List (List ℕ))) → is_comment first ≡ comment → words_of first ≡ words → read_line draft first ≡ Ok next →
    IsSaid lines next final → IsSaid (first ∷ lines) draft final
said_from first lines number draft next final true words comment found read rest =
    let same : good draft ≡ Ok next = sym (comment_read draft first comment) ∙ read in
    let is : draft ≡ next = cc in
    (rest.0, said_first first lines ∙ rw comment rest.1, ap (λ (d : Draft). statements d rest.0) is ∙ rest.2)
said_from first lines number draft next final false None comment found read rest = absurd (broken_by draft next first (ends_thread first) comment refl found read)
said_from first lines number draft next final false (Some words) comment found read rest = (
  with_words words rest.0,
  said_first first lines ∙ rw (comment, found, rest.1) refl,
  statements_with draft words rest.0 ∙ ap (λ (r : Result Draft Fault). r >>= λ d. statements d rest.0) (sym (line_says draft first words comment found) ∙ read) ∙ rest.2,
)

pub said_of_read : (lines : List (List ℕ)) (number : ℕ) (draft final : Draft) → read_lines number draft lines ≡ Ok final → IsSaid lines draft final
said_of_read [] number draft final read = ([], said_none, reported_ok number (end_thread draft) final (sym (lines_nil number draft (end_thread draft) refl) ∙ read))
said_of_read (first ∷ lines) number draft final read =
    let step = after_ok number lines (read_line draft first) final (sym (lines_cons number draft first lines (read_line draft first) refl) ∙ read) in
    said_from first lines number draft step.0 final (is_comment first) (words_of first) refl refl step.1 (said_of_read lines (line_after number) step.0 final step.2)

-- ---- the script

abbrev pub made_of : Draft → Result ScriptParts ScriptFault
made_of draft = Ok (script_of draft)

pub script_by : (bytes : List ℕ) (draft : Draft) → IsUtf8 bytes → read_lines 1 empty_draft (lines_of bytes) ≡ Ok draft → read_script bytes ≡ Ok (script_of draft)
unfolding read_script
script_by bytes draft is read =
    let whole : utf8_valid_len bytes ≡ length bytes = utf8_valid_len-IsUtf8 bytes is in
    rw (whole, le-ltb (length bytes) (length bytes) (omega arith), read) refl

pub said_script : (bytes : List ℕ) (said : List (List (List ℕ))) (draft : Draft) → IsUtf8 bytes → said_in bytes ≡ Some said → statements empty_draft said ≡ Ok draft → read_script bytes ≡ Ok (script_of draft)
said_script bytes said draft is words reads = script_by bytes draft is (read_of_said (lines_of bytes) 1 empty_draft draft said words reads)

abbrev whole_script : ScriptParts → Result ScriptParts ScriptFault
whole_script script = Ok script

pub same_said : (text other : List ℕ) (script : ScriptParts) → IsUtf8 other → said_in other ≡ said_in text → read_script text ≡ Ok script → read_script other ≡ Ok script
same_said text other script encoded same read =
    let is = is_read text script read in
    let said = said_of_read (lines_of text) 1 empty_draft is.draft is.lines in
    said_script other said.0 is.draft encoded (same ∙ said.1) said.2 ∙ ap whole_script (sym is.parts)
