-- A transcript's lines say what it is.
use Rattle.std.proofs.Common.{◌≡◌, ◌≢◌, ℕ, ◌≤◌, true, List, [], ◌∷◌, ◌++◌, Result, Ok, refl, sym, ap, ◌∙◌, subst, arith, append_assoc}
use Rattle.std.specs.Prelude.{All, codes}
use Rattle.std.specs.List.{flat_map, join_with_byte}
use Rattle.std.proofs.lemmas.List.Elements.{All-head, All-tail}
use Rattle.ft_model.specs.declared.entry.Entry.{Entry}
use Rattle.ft_model.specs.declared.script.ScriptParts.{ScriptParts}
use Rattle.ft_model.specs.Scripts.{IsScript}
use Rattle.ft_script.specs.declared.fault.Fault.{Fault}
use Rattle.ft_script.specs.Internal.Readers.{is_feedless}
use Rattle.ft_script.specs.Texts.{container_name, thread_name, call_words, mark_words, place_word, stamp_word, reply_text, entry_line_words, entry_line}
use Rattle.ft_script.specs.Transcripts.{fed, IsReadable, IsContentLine, IsTranscript, IsFirstBad}
use Rattle.ft_script.proofs.EntryTexts.{words_cut, entry_read, thread_begins, container_begins}
use Rattle.ft_script.proofs.LineCases.{first_line, content_feedless, read_entry_of}
use Rattle.ft_script.proofs.PartTexts.{BeginsLow, BeginsHigh}
use Rattle.ft_script.proofs.Printed.{join_with_byte-cons}

-- ---- an entry's line is no content's

low_front : (front rest : List ℕ) → BeginsLow front → BeginsLow (front ++ rest)
low_front [] rest h = absurd h
low_front (b ∷ front) rest h = h

high_front : (front rest : List ℕ) → BeginsHigh front → BeginsHigh (front ++ rest)
high_front [] rest h = absurd h
high_front (b ∷ front) rest h = h

high_is_not_low : (text : List ℕ) → BeginsHigh text → BeginsLow text → ⊥
high_is_not_low [] high low = high
high_is_not_low (b ∷ text) high low = let h : b ≤ 90 = high.1 in let l : 97 ≤ b = low.0 in omega arith

abbrev words_text : ScriptParts → Entry → List ℕ
words_text script entry = join_with_byte 32 (entry_line_words script entry)

entry_high : (script : ScriptParts) (entry : Entry) → IsScript script → IsReadable script entry → BeginsHigh (words_text script entry)
entry_high script entry rule h =
    subst BeginsHigh (sym (join_with_byte-cons 32 (place_word script entry) (stamp_word entry ∷ (call_words script entry.thread entry.call ++ (codes "=" ∷ reply_text script entry.reply ∷ mark_words script entry.waited)))))
    (high_front (place_word script entry) _ (high_front (thread_name script entry.thread) _ (thread_begins script entry.thread rule h.of_script.thread)))

content_low : (script : ScriptParts) (text : List ℕ) → IsScript script → (h : IsContentLine script text) → BeginsLow (text ++ 10 ∷ [])
content_low script text rule h = subst BeginsLow (sym h.written) (low_front (container_name script h.container ++ (32 ∷ join_with_byte 32 (codes "=" ∷ reply_text script h.content ∷ []))) (10 ∷ []) (low_front (container_name script h.container) (32 ∷ join_with_byte 32 (codes "=" ∷ reply_text script h.content ∷ [])) (container_begins script h.container rule h.declared)))

-- ---- texts line by line

abbrev IsEntries : ScriptParts → List Entry → Type 0
IsEntries script entries = All (IsReadable script) entries

abbrev IsWorld : ScriptParts → List (List ℕ) → Type 0
IsWorld script world = All (IsContentLine script) world

abbrev lines_text : ScriptParts → List Entry → List ℕ
lines_text script entries = flat_map (entry_line script) entries

-- after an entry's line
after_entry : (script : ScriptParts) (entry : Entry) (more : List ℕ) → entry_line script entry ++ more ≡ words_text script entry ++ 10 ∷ more
after_entry script entry more = append_assoc (words_text script entry) (10 ∷ []) more

after_content : (text more : List ℕ) → (text ++ 10 ∷ []) ++ more ≡ text ++ 10 ∷ more
after_content text more = append_assoc text (10 ∷ []) more

entry_feedless : (script : ScriptParts) (entry : Entry) → IsScript script → IsReadable script entry → is_feedless (words_text script entry) ≡ true
entry_feedless script entry rule h = (words_cut script entry rule h).feedless

-- two entries' lines in front
two_entries : (script : ScriptParts) (one other : Entry) (x y : List ℕ) → IsScript script → IsReadable script one → IsReadable script other → entry_line script one ++ x ≡ entry_line script other ++ y → (one ≡ other) × (x ≡ y)
two_entries script one other x y rule h k same =
    let both = first_line (words_text script one) (words_text script other) x y (entry_feedless script one rule h) (entry_feedless script other rule k) (sym (after_entry script one x) ∙ same ∙ after_entry script other y) in
    let line : entry_line script one ≡ entry_line script other = ap (λ (t : List ℕ). t ++ 10 ∷ []) both.0 in
    let good : Entry → Result Entry Fault = λ e. Ok e in
    let read : good one ≡ good other = sym (entry_read script one rule h) ∙ ap (read_entry_of script) line ∙ entry_read script other rule k in
    ((let e : one ≡ other = cc in e), both.1)

two_contents : (script : ScriptParts) (one other x y : List ℕ) → IsScript script → IsContentLine script one → IsContentLine script other → (one ++ 10 ∷ []) ++ x ≡ (other ++ 10 ∷ []) ++ y → (one ≡ other) × (x ≡ y)
two_contents script one other x y rule h k same = first_line one other x y (content_feedless script one rule h) (content_feedless script other rule k) (sym (after_content one x) ∙ same ∙ after_content other y)

entry_and_content : (script : ScriptParts) (entry : Entry) (text x y : List ℕ) → IsScript script → IsReadable script entry → IsContentLine script text → entry_line script entry ++ x ≡ (text ++ 10 ∷ []) ++ y → ⊥
entry_and_content script entry text x y rule h k same =
    let both = first_line (words_text script entry) text x y (entry_feedless script entry rule h) (content_feedless script text rule k) (sym (after_entry script entry x) ∙ same ∙ after_content text y) in
    high_is_not_low (text ++ 10 ∷ []) (high_front text (10 ∷ []) (subst BeginsHigh both.0 (entry_high script entry rule h))) (content_low script text rule k)

some_line : (front rest more : List ℕ) → (front ++ 10 ∷ rest) ++ more ≡ [] → ⊥
some_line [] rest more h = absurd cc
some_line (b ∷ front) rest more h = absurd cc

entry_and_nothing : (script : ScriptParts) (entry : Entry) (x : List ℕ) → entry_line script entry ++ x ≡ [] → ⊥
entry_and_nothing script entry x same = some_line (words_text script entry) [] x same

entry_and_world : (script : ScriptParts) (entry : Entry) (x y : List ℕ) (world : List (List ℕ)) → IsScript script → IsReadable script entry → IsWorld script world → entry_line script entry ++ x ≡ fed world → ⊥
entry_and_world script entry x y [] rule h k same = entry_and_nothing script entry x same
entry_and_world script entry x y (text ∷ world) rule h k same = entry_and_content script entry text x (fed world) rule h (All-head (IsContentLine script) text world k) same

-- ---- one transcript

same_world : (script : ScriptParts) (world lines : List (List ℕ)) → IsScript script → IsWorld script world → IsWorld script lines → fed world ≡ fed lines → world ≡ lines
same_world script [] [] rule h k same = refl
same_world script [] (line ∷ lines) rule h k same = absurd (some_line line [] (fed lines) (sym same))
same_world script (text ∷ world) [] rule h k same = absurd (some_line text [] (fed world) same)
same_world script (text ∷ world) (line ∷ lines) rule h k same =
    let P : List ℕ → Type 0 = IsContentLine script in
    let both = two_contents script text line (fed world) (fed lines) rule (All-head P text world h) (All-head P line lines k) same in
    ap (λ (t : List ℕ). t ∷ world) both.0 ∙ ap (λ (l : List (List ℕ)). line ∷ l) (same_world script world lines rule (All-tail P text world h) (All-tail P line lines k) both.1)

same_all : (script : ScriptParts) (entries others : List Entry) (world lines : List (List ℕ)) → IsScript script → IsEntries script entries → IsEntries script others → IsWorld script world → IsWorld script lines →
    lines_text script entries ++ fed world ≡ lines_text script others ++ fed lines → (entries ≡ others) × (world ≡ lines)
same_all script [] [] world lines rule h k w l same = (refl, same_world script world lines rule w l same)
same_all script [] (other ∷ others) world lines rule h k w l same =
    absurd (entry_and_world script other (lines_text script others ++ fed lines) [] world rule (All-head (IsReadable script) other others k) w (sym (append_assoc (entry_line script other) (lines_text script others) (fed lines)) ∙ sym same))
same_all script (entry ∷ entries) [] world lines rule h k w l same =
    absurd (entry_and_world script entry (lines_text script entries ++ fed world) [] lines rule (All-head (IsReadable script) entry entries h) l (sym (append_assoc (entry_line script entry) (lines_text script entries) (fed world)) ∙ same))
same_all script (entry ∷ entries) (other ∷ others) world lines rule h k w l same =
    let P : Entry → Type 0 = IsReadable script in
    let both = two_entries script entry other (lines_text script entries ++ fed world) (lines_text script others ++ fed lines) rule (All-head P entry entries h) (All-head P other others k)
    (sym (append_assoc (entry_line script entry) (lines_text script entries) (fed world)) ∙ same ∙ append_assoc (entry_line script other) (lines_text script others) (fed lines)) in
    let rest = same_all script entries others world lines rule (All-tail P entry entries h) (All-tail P other others k) w l both.1 in
    (ap (λ (e : Entry). e ∷ entries) both.0 ∙ ap (λ (es : List Entry). other ∷ es) rest.0, rest.1)

pub one_of_two : (script : ScriptParts) (bytes : List ℕ) (entries others : List Entry) (world lines : List (List ℕ)) → IsScript script → IsTranscript script bytes entries world → IsTranscript script bytes others lines → (entries ≡ others) × (world ≡ lines)
one_of_two script bytes entries others world lines rule h k = same_all script entries others world lines rule h.entries_read k.entries_read h.world_read k.world_read (sym h.written ∙ k.written)

-- ---- no transcript is bad

abbrev NoEntryIn : ScriptParts → List ℕ → Type 0
NoEntryIn script rest = (entry : Entry) (more : List ℕ) → IsReadable script entry → rest ≢ entry_line script entry ++ more

abbrev NoContentIn : ScriptParts → List ℕ → Type 0
NoContentIn script rest = (text more : List ℕ) → IsContentLine script text → rest ≢ text ++ 10 ∷ more

worlds_differ : (script : ScriptParts) (front world : List (List ℕ)) (rest : List ℕ) → IsScript script → IsWorld script front → IsWorld script world → rest ≢ [] → NoContentIn script rest → fed front ++ rest ≡ fed world → ⊥
worlds_differ script [] [] rest rule f w some none same = some same
worlds_differ script [] (text ∷ world) rest rule f w some none same = none text (fed world) (All-head (IsContentLine script) text world w) (same ∙ after_content text (fed world))
worlds_differ script (text ∷ front) [] rest rule f w some none same = some_line text [] (fed front ++ rest) (sym (append_assoc (text ++ 10 ∷ []) (fed front) rest) ∙ same)
worlds_differ script (text ∷ front) (line ∷ world) rest rule f w some none same =
    let P : List ℕ → Type 0 = IsContentLine script in
    let both = two_contents script text line (fed front ++ rest) (fed world) rule (All-head P text front f) (All-head P line world w) (sym (append_assoc (text ++ 10 ∷ []) (fed front) rest) ∙ same) in
    worlds_differ script front world rest rule (All-tail P text front f) (All-tail P line world w) some none both.1

entry_stands : (script : ScriptParts) (entry : Entry) (more : List ℕ) (front : List (List ℕ)) (rest : List ℕ) → IsScript script → IsReadable script entry → IsWorld script front → (front ≡ [] → NoEntryIn script rest) → fed front ++ rest ≡ entry_line script entry ++ more → ⊥
entry_stands script entry more [] rest rule h f no_entry same = no_entry refl entry more h same
entry_stands script entry more (text ∷ front) rest rule h f no_entry same =
    entry_and_content script entry text more (fed front ++ rest) rule h (All-head (IsContentLine script) text front f) (sym same ∙ append_assoc (text ++ 10 ∷ []) (fed front) rest)

texts_differ : (script : ScriptParts) (before entries : List Entry) (front world : List (List ℕ)) (rest : List ℕ) → IsScript script → IsEntries script before → IsEntries script entries → IsWorld script front → IsWorld script world → rest ≢ [] →
    (front ≡ [] → NoEntryIn script rest) → NoContentIn script rest → (lines_text script before ++ fed front) ++ rest ≡ lines_text script entries ++ fed world → ⊥
texts_differ script [] [] front world rest rule b e f w some no_entry no_content same = worlds_differ script front world rest rule f w some no_content same
texts_differ script [] (entry ∷ entries) front world rest rule b e f w some no_entry no_content same =
    entry_stands script entry (lines_text script entries ++ fed world) front rest rule (All-head (IsReadable script) entry entries e) f no_entry (same ∙ append_assoc (entry_line script entry) (lines_text script entries) (fed world))
texts_differ script (entry ∷ before) [] front world rest rule b e f w some no_entry no_content same =
    entry_and_world script entry ((lines_text script before ++ fed front) ++ rest) [] world rule (All-head (IsReadable script) entry before b) w
    (sym (ap (λ (t : List ℕ). t ++ rest) (append_assoc (entry_line script entry) (lines_text script before) (fed front)) ∙ append_assoc (entry_line script entry) (lines_text script before ++ fed front) rest) ∙ same)
texts_differ script (one ∷ before) (other ∷ entries) front world rest rule b e f w some no_entry no_content same =
    let P : Entry → Type 0 = IsReadable script in
    let both = two_entries script one other ((lines_text script before ++ fed front) ++ rest) (lines_text script entries ++ fed world) rule (All-head P one before b) (All-head P other entries e)
    (sym (ap (λ (t : List ℕ). t ++ rest) (append_assoc (entry_line script one) (lines_text script before) (fed front)) ∙ append_assoc (entry_line script one) (lines_text script before ++ fed front) rest) ∙ same ∙ append_assoc (entry_line script other) (lines_text script entries) (fed world)) in
    texts_differ script before entries front world rest rule (All-tail P one before b) (All-tail P other entries e) f w some no_entry no_content both.1

pub not_bad : (script : ScriptParts) (bytes : List ℕ) (entries : List Entry) (world : List (List ℕ)) (number : ℕ) → IsScript script → IsTranscript script bytes entries world → IsFirstBad script bytes number → ⊥
not_bad script bytes entries world number rule h bad =
    texts_differ script bad.entries entries bad.world world bad.rest rule bad.before.entries_read h.entries_read bad.before.world_read h.world_read bad.left bad.no_entry bad.no_content
    (ap (λ (t : List ℕ). t ++ bad.rest) (sym bad.before.written) ∙ sym bad.parts ∙ h.written)
