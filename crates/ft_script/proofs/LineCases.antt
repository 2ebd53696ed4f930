-- Which lines are those of entries and contents, and what they make of the lines above.
use Rattle.std.proofs.Common.{◌≡◌, ◌≢◌, ◌⊎◌, ℕ, ◌+◌, ◌-◌, ◌^◌, ◌<◌, ◌≤◌, min, true, not, eqb, List, [], ◌∷◌, ◌++◌, length, Result, Ok, Err, refl, sym, ap, ◌∙◌, subst, inl, inr, arith, append_assoc}
use Rattle.std.specs.Prelude.{IfOk, codes}
use Rattle.std.specs.List.{flat_map, join_with_byte}
use Rattle.std.proofs.Math.Seq.{take-append_seam}
use Rattle.std.proofs.lemmas.Bool.{and_parts}
use Rattle.std.proofs.lemmas.List.{append-nil, append_cancel_right, length-append, flat_map_more}
use Rattle.std.proofs.lemmas.List.Elements.{All-nil, All-push}
use Rattle.ft_model.specs.declared.entry.Entry.{Entry}
use Rattle.ft_model.specs.declared.reply.Reply.{Reply}
use Rattle.ft_model.specs.declared.script.ScriptParts.{ScriptParts}
use Rattle.ft_model.specs.Histories.{cursors_of}
use Rattle.ft_model.specs.Landed.{is_landed_call}
use Rattle.ft_model.specs.Scripts.{IsScript, IsCallOf}
use Rattle.ft_script.specs.declared.fault.Fault.{Fault}
use Rattle.ft_script.specs.Internal.Candidates.{read_entry, read_content, read_numbered}
use Rattle.ft_script.specs.Internal.Readers.{NoEntry, NoContent, AddsEntry, AddsContent, IsLine, is_feedless, but_feed}
use Rattle.ft_script.specs.Texts.{container_name, reply_text, entry_line_words, entry_line}
use Rattle.ft_script.specs.Internal.Tokens.{tokens_of}
use Rattle.ft_script.specs.Transcripts.{fed, content_line, IsReadable, IsContentReply, IsWideCall, IsContentLine, IsTranscript, IsFirstBad}
use Rattle.ft_script.proofs.EntryTexts.{words_cut, entry_read, content_cut, content_back}
use Rattle.ft_script.proofs.SoundReading.{EntryFits, ContentFits, Numbered, numbered_sound, entry_sound, content_sound}

-- ---- the first line of a text

no_feed_within : (front rest : List ℕ) → is_feedless (front ++ 10 ∷ rest) ≡ true → ⊥
no_feed_within [] rest h = absurd cc
no_feed_within (b ∷ front) rest h = no_feed_within front rest (and_parts (not (eqb b 10)) (is_feedless (front ++ 10 ∷ rest)) h).1

not_feed : (b : ℕ) → not (eqb b 10) ≡ true → b ≡ 10 → ⊥
not_feed b h is = let bad : not (eqb 10 10) ≡ true = rw is at h in absurd cc

-- a line ends at the first line feed
pub first_line : (a b x y : List ℕ) → is_feedless a ≡ true → is_feedless b ≡ true → a ++ 10 ∷ x ≡ b ++ 10 ∷ y → (a ≡ b) × (x ≡ y)
first_line [] [] x y ha hb same = (refl, cc)
first_line [] (b ∷ bs) x y ha hb same = absurd (not_feed b (and_parts (not (eqb b 10)) (is_feedless bs) hb).0 (let e : 10 ≡ b = cc in sym e))
first_line (a ∷ front) [] x y ha hb same = absurd (not_feed a (and_parts (not (eqb a 10)) (is_feedless front) ha).0 (let e : a ≡ 10 = cc in e))
first_line (a ∷ front) (b ∷ bs) x y ha hb same =
    let heads : a ≡ b = cc in
    let rest = first_line front bs x y (and_parts (not (eqb a 10)) (is_feedless front) ha).1 (and_parts (not (eqb b 10)) (is_feedless bs) hb).1 (let e : front ++ 10 ∷ x ≡ bs ++ 10 ∷ y = cc in e) in
    (ap (λ (t : List ℕ). a ∷ t) rest.0 ∙ ap (λ (c : ℕ). c ∷ bs) heads, rest.1)

-- ---- entries

pub readable_by : (script : ScriptParts) (entry : Entry) → EntryFits script entry → 1 ≤ entry.index → IsCallOf script (cursors_of script entry.thread) entry.call → is_landed_call entry.call ≡ true → IsWideCall entry.call → IsReadable script entry
readable_by script entry fits index called landed wide = record {
  of_script = record { thread = fits.thread; call = called; reply = fits.reply.of_script; mark = fits.waited };
  first_index = index;
  last_index = fits.index;
  stamp = fits.stamp;
  landed = landed;
  awaited = fits.awaited;
  call = wide;
  reply = fits.reply.readable;
  said = fits.reply.wide;
}

fits_by : {X : Type 0} (r : Result X Fault) (x : X) (P : X → Type 0) → r ≡ Ok x → IfOk r P → P x
fits_by (Ok y) x P is h = let same : y ≡ x = cc in subst P same h
fits_by (Err e) x P is h = absurd cc

pub entry_fits : (script : ScriptParts) (tokens : List (List ℕ)) (entry : Entry) → read_entry script tokens ≡ Ok entry → EntryFits script entry
entry_fits script tokens entry is = fits_by (read_entry script tokens) entry (EntryFits script) is (entry_sound script tokens)

pub numbered_low : (script : ScriptParts) (token : List ℕ) (numbered : ℕ × ℕ) → read_numbered script token ≡ Ok numbered → numbered.0 < length script.threads
numbered_low script token numbered is = (fits_by (read_numbered script token) numbered (Numbered script) is (numbered_sound script token)).0

abbrev pub read_entry_of : ScriptParts → List ℕ → Result Entry Fault
read_entry_of script line = read_entry script (tokens_of line)

pub no_entry_by_fault : (script : ScriptParts) (line : List ℕ) (found : Fault) → IsScript script → read_entry script (tokens_of line) ≡ Err found → NoEntry script line
no_entry_by_fault script line found rule is entry h same =
    let back : read_entry script (tokens_of line) ≡ Ok entry = ap (read_entry_of script) same ∙ entry_read script entry rule h in
    let bad : Err found ≡ Ok entry = sym is ∙ back in absurd cc

-- the one entry that may stand there doesn't
pub no_entry_by_other : (script : ScriptParts) (line : List ℕ) (read : Entry) → IsScript script → read_entry script (tokens_of line) ≡ Ok read → (IsReadable script read → line ≡ entry_line script read → ⊥) → NoEntry script line
no_entry_by_other script line read rule is not_it entry h same =
    let back : read_entry script (tokens_of line) ≡ Ok entry = ap (read_entry_of script) same ∙ entry_read script entry rule h in
    let both : Ok read ≡ Ok entry = sym is ∙ back in
    let one : entry ≡ read = cc in
    not_it (subst (IsReadable script) one h) (same ∙ ap (entry_line script) one)

-- ---- contents

pub content_fits : (script : ScriptParts) (tokens : List (List ℕ)) (read : ℕ × Reply) → read_content script tokens ≡ Ok read → ContentFits script read
content_fits script tokens read is = fits_by (read_content script tokens) read (ContentFits script) is (content_sound script tokens)

but_feed_of : (text : List ℕ) → but_feed (text ++ 10 ∷ []) ≡ text
but_feed_of text =
    let n : length (text ++ 10 ∷ []) - 1 ≡ length text = omega (arith, length-append text (10 ∷ [])) in
    rw n (take-append_seam text (10 ∷ []))

pub line_is : (line : List ℕ) → IsLine line → line ≡ but_feed line ++ 10 ∷ []
line_is line h = h.1 ∙ ap (λ (t : List ℕ). t ++ 10 ∷ []) (sym (but_feed_of h.0) ∙ ap but_feed (sym h.1))

pub content_by : (script : ScriptParts) (line : List ℕ) (container : ℕ) (content : Reply) → IsLine line → ContentFits script (container, content) → IsContentReply content → line ≡ content_line script container content → IsContentLine script (but_feed line)
content_by script line container content is fits whole same = record {
  container = container;
  declared = fits.container;
  content = content;
  whole = whole;
  of_script = fits.content.of_script;
  wide = fits.content.wide;
  written = sym (line_is line is) ∙ same;
}

abbrev read_content_of : ScriptParts → List ℕ → Result (ℕ × Reply) Fault
read_content_of script line = read_content script (tokens_of line)

content_again : (script : ScriptParts) (line text : List ℕ) → IsScript script → (h : IsContentLine script text) → line ≡ text ++ 10 ∷ [] → read_content script (tokens_of line) ≡ Ok (h.container, h.content)
content_again script line text rule h same = ap (read_content_of script) (same ∙ h.written) ∙ content_back script h.container h.content rule h.declared h.whole h.of_script h.wide

pub no_content_by_fault : (script : ScriptParts) (line : List ℕ) (found : Fault) → IsScript script → read_content script (tokens_of line) ≡ Err found → NoContent script line
no_content_by_fault script line found rule is text h same =
    let pair : ℕ × Reply = (h.container, h.content) in
    let bad : Err found ≡ Ok pair = sym is ∙ content_again script line text rule h same in absurd cc

pub no_content_by_other : (script : ScriptParts) (line : List ℕ) (container : ℕ) (content : Reply) → IsScript script → read_content script (tokens_of line) ≡ Ok (container, content) → (IsContentReply content → line ≡ content_line script container content → ⊥) → NoContent script line
no_content_by_other script line container content rule is not_it text h same =
    let back : read_content script (tokens_of line) ≡ Ok (h.container, h.content) = content_again script line text rule h same in
    let read : ℕ × Reply = (container, content) in
    let again : ℕ × Reply = (h.container, h.content) in
    let both : Ok read ≡ Ok again = sym is ∙ back in
    let one : again ≡ read = cc in
    let c : h.container ≡ container = ap (λ (p : ℕ × Reply). p.0) one in
    let r : h.content ≡ content = ap (λ (p : ℕ × Reply). p.1) one in
    not_it (subst IsContentReply r h.whole) (same ∙ h.written ∙ ap (λ (n : ℕ). content_line script n h.content) c ∙ ap (content_line script container) r)

-- ---- transcripts

pub nothing_read : (script : ScriptParts) → IsTranscript script [] [] []
nothing_read script = record { entries_read = All-nil (IsReadable script); world_read = All-nil (IsContentLine script); written = refl }

abbrev pub Adds : ScriptParts → List ℕ → List Entry → List (List ℕ) → List Entry → List (List ℕ) → Type 0
Adds script line entries world entries_after world_after = AddsEntry script line entries world entries_after world_after ⊎ AddsContent script line entries world entries_after world_after

entry_added : (script : ScriptParts) (front line : List ℕ) (entries : List Entry) (world : List (List ℕ)) (entry : Entry) → IsTranscript script front entries world → IsReadable script entry → line ≡ entry_line script entry → world ≡ [] → IsTranscript script (front ++ line) (entries ++ entry ∷ []) world
entry_added script front line entries world entry h readable same none = record {
  entries_read = All-push (IsReadable script) entries entry h.entries_read readable;
  world_read = h.world_read;
  written =
      let nothing : fed world ≡ [] = ap fed none in
      let before : front ≡ flat_map (entry_line script) entries = h.written ∙ ap (λ (t : List ℕ). flat_map (entry_line script) entries ++ t) nothing ∙ append-nil (flat_map (entry_line script) entries) in
      let more : flat_map (entry_line script) entries ++ entry_line script entry ≡ flat_map (entry_line script) (entries ++ entry ∷ []) = flat_map_more (entry_line script) [] entries entry in
      ap (λ (t : List ℕ). t ++ line) before ∙ ap (λ (t : List ℕ). flat_map (entry_line script) entries ++ t) same ∙ more
      ∙ sym (append-nil (flat_map (entry_line script) (entries ++ entry ∷ []))) ∙ ap (λ (t : List ℕ). flat_map (entry_line script) (entries ++ entry ∷ []) ++ t) (sym nothing);
}

content_added : (script : ScriptParts) (front line : List ℕ) (entries : List Entry) (world : List (List ℕ)) (text : List ℕ) → IsTranscript script front entries world → IsContentLine script text → line ≡ text ++ 10 ∷ [] → IsTranscript script (front ++ line) entries (world ++ text ∷ [])
content_added script front line entries world text h readable same = record {
  entries_read = h.entries_read;
  world_read = All-push (IsContentLine script) world text h.world_read readable;
  written =
      ap (λ (t : List ℕ). t ++ line) h.written ∙ ap (λ (t : List ℕ). (flat_map (entry_line script) entries ++ fed world) ++ t) same
      ∙ flat_map_more (λ (t : List ℕ). t ++ 10 ∷ []) (flat_map (entry_line script) entries) world text;
}

pub line_added : (script : ScriptParts) (front line : List ℕ) (entries after : List Entry) (world world_after : List (List ℕ)) → IsTranscript script front entries world → Adds script line entries world after world_after → IsTranscript script (front ++ line) after world_after
line_added script front line entries after world world_after h (inl a) =
    rw (a.entries_are, a.world_is) (entry_added script front line entries world a.entry h a.readable a.printed a.first)
line_added script front line entries after world world_after h (inr a) =
    rw (a.entries_are, a.world_is) (content_added script front line entries world a.content h a.readable a.printed)

pub line_counted : (script : ScriptParts) (line : List ℕ) (entries after : List Entry) (world world_after : List (List ℕ)) → Adds script line entries world after world_after → length after + length world_after ≡ length entries + length world + 1
line_counted script line entries after world world_after (inl a) = rw (a.entries_are, a.world_is) (omega (arith, length-append entries (a.entry ∷ [])))
line_counted script line entries after world world_after (inr a) = rw (a.entries_are, a.world_is) (omega (arith, length-append world (a.content ∷ [])))

-- ---- the first bad line

-- a line with a text after it is the first line of that
same_line : (line text below more : List ℕ) → IsLine line → is_feedless text ≡ true → line ++ below ≡ (text ++ 10 ∷ []) ++ more → line ≡ text ++ 10 ∷ []
same_line line text below more is feedless same =
    let e : is.0 ++ 10 ∷ below ≡ text ++ 10 ∷ more =
    sym (append_assoc is.0 (10 ∷ []) below) ∙ ap (λ (t : List ℕ). t ++ below) (sym is.1) ∙ same ∙ append_assoc text (10 ∷ []) more in
    is.1 ∙ ap (λ (t : List ℕ). t ++ 10 ∷ []) (first_line is.0 text below more is.2 feedless e).0

-- the text of a content has no line feed
pub content_feedless : (script : ScriptParts) (text : List ℕ) → IsScript script → IsContentLine script text → is_feedless text ≡ true
content_feedless script text rule h =
    let words : List (List ℕ) = container_name script h.container ∷ codes "=" ∷ reply_text script h.content ∷ [] in
    let e : text ≡ join_with_byte 32 words = append_cancel_right text (join_with_byte 32 words) (10 ∷ []) h.written in
    ap is_feedless e ∙ (content_cut script h.container h.content rule h.declared h.whole h.of_script h.wide).feedless

nothing_left : (text rest : List ℕ) → text ++ 10 ∷ rest ≡ [] → ⊥
nothing_left [] rest h = absurd cc
nothing_left (b ∷ text) rest h = absurd cc

pub bad_line : (script : ScriptParts) (bytes front line below : List ℕ) (entries : List Entry) (world : List (List ℕ)) (number : ℕ) → IsScript script → bytes ≡ front ++ (line ++ below) → IsTranscript script front entries world → number ≡ min (length entries + length world + 1) (2 ^ 32 - 1) →
    IsLine line → NoContent script line → (world ≡ [] → NoEntry script line) → IsFirstBad script bytes number
bad_line script bytes front line below entries world number rule parts before counted is no_content no_entry = record {
  entries = entries;
  world = world;
  front = front;
  rest = line ++ below;
  parts = parts;
  before = before;
  left = λ none. nothing_left is.0 below (sym (ap (λ (t : List ℕ). t ++ below) is.1 ∙ append_assoc is.0 (10 ∷ []) below) ∙ none);
  no_entry = λ none entry more h same. no_entry none entry h (same_line line (join_with_byte 32 (entry_line_words script entry)) below more is (words_cut script entry rule h).feedless same);
  no_content = λ text more h same. no_content text h (same_line line text below more is (content_feedless script text rule h) (same ∙ sym (append_assoc text (10 ∷ []) more)));
  counted = counted;
}

-- what is left has no line feed
pub bad_end : (script : ScriptParts) (bytes front rest : List ℕ) (entries : List Entry) (world : List (List ℕ)) (number : ℕ) → IsScript script → bytes ≡ front ++ rest → IsTranscript script front entries world → number ≡ min (length entries + length world + 1) (2 ^ 32 - 1) →
    rest ≢ [] → is_feedless rest ≡ true → IsFirstBad script bytes number
bad_end script bytes front rest entries world number rule parts before counted some feedless = record {
  entries = entries;
  world = world;
  front = front;
  rest = rest;
  parts = parts;
  before = before;
  left = some;
  no_entry = λ none entry more h same. no_feed_within (join_with_byte 32 (entry_line_words script entry)) more (ap is_feedless (sym (same ∙ append_assoc (join_with_byte 32 (entry_line_words script entry)) (10 ∷ []) more)) ∙ feedless);
  no_content = λ text more h same. no_feed_within text more (ap is_feedless (sym same) ∙ feedless);
  counted = counted;
}
