-- Lines of entries and contents that are printed, and read back.
use Rattle.std.proofs.Common.{◌≡◌, ◌≢◌, cond, ℕ, ◌^◌, ◌<◌, ◌≤◌, Bool, true, false, not, eqb, List, [], ◌∷◌, ◌++◌, length, drop, get_or, Option, Some, None, Ok, refl, sym, ap, ◌∙◌, subst, arith}
use Rattle.std.specs.Prelude.{All, AllPairs, codes, slice_get, slice_index_or, IfSome}
use Rattle.std.specs.List.{list_all, join_with_byte, AllByRecursion}
use Rattle.std.specs.Fmt.{decimal}
use Rattle.std.specs.Option.{option_map_or}
use Rattle.std.specs.Str.{bytes_eq}
use Rattle.std.proofs.lemmas.Bool.{and_from}
use Rattle.std.proofs.lemmas.List.{append-nil}
use Rattle.std.proofs.lemmas.List.Concat.{flat_map-append}
use Rattle.std.proofs.lemmas.List.Folds.{list_all-append}
use Rattle.std.proofs.lemmas.Option.{slice_get-get_or}
use Rattle.ft_model.specs.declared.entry.Entry.{Entry}
use Rattle.ft_model.specs.declared.reply.Reply.{Reply}
use Rattle.ft_model.specs.declared.reply.Reply.TheVariants as reply
use Rattle.ft_model.specs.declared.script.Kind.TheVariants as kind
use Rattle.ft_model.specs.declared.script.ScriptParts.{ScriptParts}
use Rattle.ft_model.specs.declared.script.Thread.{Thread}
use Rattle.ft_model.specs.Names.{is_container_name, is_thread_name}
use Rattle.ft_model.specs.Parts.{IsReplyOf}
use Rattle.ft_model.specs.Scripts.{IsScript, IsThread}
use Rattle.ft_script.specs.declared.fault.Fault.TheVariants as fault
use Rattle.ft_script.specs.Internal.Candidates.{thread_call, read_thread, read_numbered, read_stamp, read_waited, read_reply, read_entry, read_content}
use Rattle.ft_script.specs.Drafts.{or_fault, draft_at, text_place, thread_place}
use Rattle.ft_script.specs.ScriptLines.{just_call}
use Rattle.ft_script.specs.Internal.Readers.{AddsNothing}
use Rattle.ft_script.specs.Texts.{container_name, thread_name, call_words, reply_text, place_word, stamp_word, mark_words, entry_line_words, entry_line}
use Rattle.ft_script.specs.Internal.Tokens.{tokens_of, before_word, after_word}
use Rattle.ft_script.specs.Transcripts.{counts, content_line, IsReadable, IsContentReply, IsReadableReply, IsWideReply}
use Rattle.ft_script.proofs.CallTexts.{Declares, IsCallWord, words_are, call_back, container_name_at, container_place_at}
use Rattle.ft_script.proofs.PartTexts.{BeginsLow, BeginsHigh, container_word, thread_word, dotless, decimal_parts, u64_decimal, u32_decimal, bytes_same, bytes_differ, position_at, text_place_at}
use Rattle.ft_script.proofs.Printed.{each_after, join_with_byte-cons}
use Rattle.ft_script.proofs.ReplyTexts.{reply_tokens, reply_is_cut, reply_back, reply_other}
use Rattle.ft_script.proofs.TokenCuts.{no_bytes}
use Rattle.ft_script.proofs.TokenLists.{AllFail, before_at, after_at, before_none, after_none}
use Rattle.ft_script.proofs.TokenTexts.{is_part, IsWord, IsCut, IsTail, word_is_cut, words_tail, cut_tail, tail_tail, after_space, from_gap}
use Rattle.ft_script.specs.declared.lines.Place.TheVariants as place

-- ---- what a script declares

abbrev cursors_in : Option Thread → List (List ℕ)
cursors_in found = option_map_or (λ (thread : Thread). thread.cursors) found []

cursor_is : (found : Option Thread) (number : ℕ) → option_map_or (λ (thread : Thread). slice_index_or thread.cursors number []) found [] ≡ slice_index_or (cursors_in found) number []
cursor_is None number = refl
cursor_is (Some thread) number = refl

cursors_counted : (found : Option Thread) → length (cursors_in found) ≡ option_map_or (λ (thread : Thread). length thread.cursors) found 0
cursors_counted None = refl
cursors_counted (Some thread) = refl

no_cursors_differ : AllPairs (λ (a b : List ℕ). a ≢ b) []
no_cursors_differ i j d low high = absurd (omega arith)

cursors_differ : (found : Option Thread) → ((thread : Thread) → found ≡ Some thread → AllPairs (λ a b. a ≢ b) thread.cursors) → AllPairs (λ a b. a ≢ b) (cursors_in found)
cursors_differ None differ = no_cursors_differ
cursors_differ (Some thread) differ = differ thread refl

cursors_few : (found : Option Thread) → ((thread : Thread) → found ≡ Some thread → length thread.cursors ≤ 256) → length (cursors_in found) ≤ 256
cursors_few None few = omega arith
cursors_few (Some thread) few = few thread refl

cursor_named : (found : Option Thread) (number : ℕ) → ((thread : Thread) → found ≡ Some thread → All (λ cursor. is_container_name cursor ≡ true) thread.cursors) → number < option_map_or (λ (thread : Thread). length thread.cursors) found 0 →
    is_container_name (option_map_or (λ (thread : Thread). slice_index_or thread.cursors number []) found []) ≡ true
cursor_named None number form low = absurd (omega arith)
cursor_named (Some thread) number form low = form thread refl number [] low

abbrev no_thread : Thread
no_thread = record { name = []; cursors = []; calls = [] }

thread_at : (script : ScriptParts) (thread : ℕ) → IsScript script → thread < length script.threads → (found : Thread) → slice_get script.threads thread ≡ Some found → IsThread script found
thread_at script thread rule low found is =
    let here : slice_get script.threads thread ≡ Some (get_or script.threads thread no_thread) = slice_get-get_or script.threads thread no_thread low in
    let same : get_or script.threads thread no_thread ≡ found = cc in
    subst (IsThread script) same (rule.threads thread no_thread low)

pub thread_name_at : (script : ScriptParts) (thread : ℕ) (d : Thread) → thread < length script.threads → thread_name script thread ≡ (get_or script.threads thread d).name
thread_name_at script thread d low = ap (λ (o : Option Thread). option_map_or (λ (found : Thread). found.name) o []) (slice_get-get_or script.threads thread d low)

pub thread_form : (script : ScriptParts) (thread : ℕ) → IsScript script → thread < length script.threads → is_thread_name (thread_name script thread) ≡ true
thread_form script thread rule low = ap is_thread_name (thread_name_at script thread no_thread low) ∙ (rule.threads thread no_thread low).name

pub thread_place_at : (script : ScriptParts) (thread : ℕ) → IsScript script → thread < length script.threads → thread_place script.threads (thread_name script thread) ≡ Some thread
thread_place_at script thread rule low =
    let name : List ℕ = thread_name script thread in
    let is : name ≡ (get_or script.threads thread no_thread).name = thread_name_at script thread no_thread low in
    position_at (λ found. bytes_eq found.name name) script.threads thread no_thread low
    (λ k below. bytes_differ (get_or script.threads k no_thread).name name (λ same. rule.threads_differ k thread no_thread below low (same ∙ is)))
    (bytes_same (get_or script.threads thread no_thread).name name (sym is))

pub declares : (script : ScriptParts) (thread : ℕ) → IsScript script → thread < length script.threads → Declares script thread
declares script thread rule low = record {
  strings_differ = rule.strings_differ;
  strings_are = rule.strings;
  strings_few = rule.few_strings;
  names_are = rule.container_names;
  names_differ = rule.containers_differ;
  cursors_differ = cursors_differ (slice_get script.threads thread) (λ found is. (thread_at script thread rule low found is).cursors_differ);
  cursors_few = cursors_few (slice_get script.threads thread) (λ found is. (thread_at script thread rule low found is).few_cursors);
  cursors_counted = cursors_counted (slice_get script.threads thread);
  cursor_is = λ number. cursor_is (slice_get script.threads thread) number;
  cursor_form = λ number below. cursor_named (slice_get script.threads thread) number (λ found is. (thread_at script thread rule low found is).cursor_names) below;
  thread_form = λ other below. thread_form script other rule below;
  thread_is = λ other below. thread_place_at script other rule below;
}

-- ---- threads

pub thread_begins : (script : ScriptParts) (thread : ℕ) → IsScript script → thread < length script.threads → BeginsHigh (thread_name script thread)
thread_begins script thread rule low = (thread_word (thread_name script thread) (thread_form script thread rule low)).1

thread_back : (script : ScriptParts) (thread : ℕ) → IsScript script → thread < length script.threads → read_thread script (thread_name script thread) ≡ Ok thread
unfolding read_thread
thread_back script thread rule low = ap (or_fault fault.Name) (thread_place_at script thread rule low)

word_append : (a b : List ℕ) → IsWord a → list_all is_part b ≡ true → IsWord (a ++ b)
word_append [] b ha hb = absurd ha
word_append (x ∷ a) b ha hb = (ha.0, list_all-append is_part (x ∷ a) b ∙ and_from (list_all is_part (x ∷ a)) (list_all is_part b) ha.1 hb)

-- ---- the place and the stamp

place_is_cut : (script : ScriptParts) (entry : Entry) → IsScript script → entry.thread < length script.threads → entry.index < 2 ^ 32 → IsCut (place_word script entry) (place_word script entry ∷ [])
place_is_cut script entry rule low small =
    word_is_cut (place_word script entry) (word_append (thread_name script entry.thread) (46 ∷ decimal entry.index) (thread_word (thread_name script entry.thread) (thread_form script entry.thread rule low)).0 (decimal_parts entry.index (omega arith)))

place_back : (script : ScriptParts) (entry : Entry) → IsScript script → entry.thread < length script.threads → entry.index < 2 ^ 32 → read_numbered script (place_word script entry) ≡ Ok (entry.thread, entry.index)
unfolding read_numbered
place_back script entry rule low small =
    let is_dot : ℕ → Bool = λ b. eqb b 46 in
    let name : List ℕ = thread_name script entry.thread in
    let none : AllFail is_dot name = dotless name (thread_form script entry.thread rule low) in
    rw (before_at is_dot name 46 (decimal entry.index) none refl, after_at is_dot name 46 (decimal entry.index) none refl, thread_back script entry.thread rule low, u32_decimal entry.index small) refl

abbrev letter : Bool → ℕ
letter wrote = cond wrote 119 114

letter_word : (wrote : Bool) (n : ℕ) → n < 2 ^ 64 → IsWord (letter wrote ∷ decimal n)
letter_word true n low = (refl, decimal_parts n low)
letter_word false n low = (refl, decimal_parts n low)

letter_back : (wrote : Bool) (n : ℕ) → n < 2 ^ 64 → read_stamp (letter wrote ∷ decimal n) ≡ Ok (wrote, n)
unfolding read_stamp
letter_back true n low = rw (u64_decimal n low) refl
letter_back false n low = rw (u64_decimal n low) refl

-- ---- marks

marks_are : (script : ScriptParts) (waited : Option ℕ) → IsScript script → IfSome waited (λ thread. thread < length script.threads) → IsTail (each_after 32 (mark_words script waited)) (mark_words script waited)
marks_are script None rule h = words_tail [] tt
marks_are script (Some thread) rule h =
    words_tail (codes "waited" ∷ thread_name script thread ∷ []) (word_is_cut (codes "waited") (refl, refl), (word_is_cut (thread_name script thread) (thread_word (thread_name script thread) (thread_form script thread rule h)).0, tt))

abbrev is_waited : List ℕ → Bool
is_waited token = bytes_eq token (codes "waited")

before_mark : (script : ScriptParts) (waited : Option ℕ) (said : List (List ℕ)) → AllFail is_waited said → before_word (codes "waited") (said ++ mark_words script waited) ≡ said
before_mark script None said none = ap (before_word (codes "waited")) (append-nil said) ∙ before_none is_waited said none
before_mark script (Some thread) said none = before_at is_waited said (codes "waited") (thread_name script thread ∷ []) none refl

nobody_waited : (script : ScriptParts) → read_waited script [] ≡ Ok None
unfolding read_waited
nobody_waited script = refl

somebody_waited : (script : ScriptParts) (thread : ℕ) → IsScript script → thread < length script.threads → read_waited script (thread_name script thread ∷ []) ≡ Ok (Some thread)
unfolding read_waited
somebody_waited script thread rule low = rw (thread_back script thread rule low) refl

mark_back : (script : ScriptParts) (waited : Option ℕ) (said : List (List ℕ)) → IsScript script → AllFail is_waited said → IfSome waited (λ thread. thread < length script.threads) → read_waited script (after_word (codes "waited") (said ++ mark_words script waited)) ≡ Ok waited
mark_back script None said rule none h = ap (λ (l : List (List ℕ)). read_waited script (after_word (codes "waited") l)) (append-nil said) ∙ ap (read_waited script) (after_none is_waited said none) ∙ nobody_waited script
mark_back script (Some thread) said rule none h = ap (read_waited script) (after_at is_waited said (codes "waited") (thread_name script thread ∷ []) none refl) ∙ somebody_waited script thread rule h

-- ---- entries

abbrev pub after_call : ScriptParts → Entry → List (List ℕ)
after_call script entry = reply_tokens script.strings entry.reply ++ mark_words script entry.waited

abbrev pub entry_tokens : ScriptParts → Entry → List (List ℕ)
entry_tokens script entry = place_word script entry ∷ stamp_word entry ∷ (call_words script entry.thread entry.call ++ (codes "=" ∷ after_call script entry))

cuts : (words : List (List ℕ)) → AllByRecursion IsCallWord words → AllByRecursion (λ word. IsCut word (word ∷ [])) words
cuts [] h = tt
cuts (word ∷ words) h = (h.0.0, cuts words h.1)

abbrev is_equals : List ℕ → Bool
is_equals token = bytes_eq token (codes "=")

no_equals : (words : List (List ℕ)) → AllByRecursion IsCallWord words → AllFail is_equals words
no_equals [] h = refl
no_equals (word ∷ words) h = and_from (not (is_equals word)) (list_all (λ t. not (is_equals t)) words) h.0.1 (no_equals words h.1)

module _ (script : ScriptParts) (entry : Entry) (rule : IsScript script) (h : IsReadable script entry) where
  abbrev facts : Declares script entry.thread
  facts = declares script entry.thread rule h.of_script.thread

  call_are : AllByRecursion IsCallWord (call_words script entry.thread entry.call)
  call_are = words_are script entry.thread facts entry.call h.of_script.call h.call

  stamp_is_cut : IsCut (stamp_word entry) (stamp_word entry ∷ [])
  stamp_is_cut = word_is_cut (stamp_word entry) (letter_word entry.wrote entry.stamp h.stamp)

  pub words_cut : IsCut (join_with_byte 32 (entry_line_words script entry)) (entry_tokens script entry)
  words_cut =
      let said : List ℕ = reply_text script entry.reply in
      let tokens : List (List ℕ) = reply_tokens script.strings entry.reply in
      let marks : List (List ℕ) = mark_words script entry.waited in
      let call : List (List ℕ) = call_words script entry.thread entry.call in
      let place : List ℕ = place_word script entry in
      let stamp : List ℕ = stamp_word entry in
      let after : List ℕ = (32 ∷ codes "=") ++ ((32 ∷ said) ++ each_after 32 marks) in
      let reply_cut : IsCut said tokens = reply_is_cut script (counts entry.call) entry.reply h.said h.reply in
      let said_tail : IsTail ((32 ∷ said) ++ each_after 32 marks) (tokens ++ marks) = tail_tail (32 ∷ said) (each_after 32 marks) tokens marks (after_space said tokens reply_cut) (marks_are script entry.waited rule h.of_script.mark) in
      let equals_tail : IsTail after (codes "=" ∷ (tokens ++ marks)) = tail_tail (32 ∷ codes "=") ((32 ∷ said) ++ each_after 32 marks) (codes "=" ∷ []) (tokens ++ marks) (after_space (codes "=") (codes "=" ∷ []) (word_is_cut (codes "=") (refl, refl))) said_tail in
      let call_tail : IsTail (each_after 32 call ++ after) (call ++ (codes "=" ∷ (tokens ++ marks))) = tail_tail (each_after 32 call) after call (codes "=" ∷ (tokens ++ marks)) (words_tail call (cuts call call_are)) equals_tail in
      let stamp_tail : IsTail ((32 ∷ stamp) ++ (each_after 32 call ++ after)) (stamp ∷ (call ++ (codes "=" ∷ (tokens ++ marks)))) = tail_tail (32 ∷ stamp) (each_after 32 call ++ after) (stamp ∷ []) (call ++ (codes "=" ∷ (tokens ++ marks))) (after_space stamp (stamp ∷ []) stamp_is_cut) call_tail in
      let whole : IsCut (place ++ ((32 ∷ stamp) ++ (each_after 32 call ++ after))) (entry_tokens script entry) = cut_tail place ((32 ∷ stamp) ++ (each_after 32 call ++ after)) (place ∷ []) (stamp ∷ (call ++ (codes "=" ∷ (tokens ++ marks)))) (place_is_cut script entry rule h.of_script.thread h.last_index) stamp_tail in
      let text : join_with_byte 32 (entry_line_words script entry) ≡ place ++ ((32 ∷ stamp) ++ (each_after 32 call ++ after)) =
      join_with_byte-cons 32 place (stamp ∷ (call ++ (codes "=" ∷ said ∷ marks))) ∙ ap (λ (t : List ℕ). place ++ ((32 ∷ stamp) ++ t)) (flat_map-append (λ (word : List ℕ). 32 ∷ word) call (codes "=" ∷ said ∷ marks)) in
      subst (λ (t : List ℕ). IsCut t (entry_tokens script entry)) (sym text) whole

  pub call_words_at : before_word (codes "=") (drop 2 (entry_tokens script entry)) ≡ call_words script entry.thread entry.call
  call_words_at = before_at is_equals (call_words script entry.thread entry.call) (codes "=") (after_call script entry) (no_equals (call_words script entry.thread entry.call) call_are) refl

  after_equals : after_word (codes "=") (drop 2 (entry_tokens script entry)) ≡ after_call script entry
  after_equals = after_at is_equals (call_words script entry.thread entry.call) (codes "=") (after_call script entry) (no_equals (call_words script entry.thread entry.call) call_are) refl

  none_waited : AllFail is_waited (reply_tokens script.strings entry.reply)
  none_waited = reply_other script.strings (counts entry.call) entry.reply h.said h.reply

  pub adds_nothing : AddsNothing script entry.thread (before_word (codes "=") (drop 2 (entry_tokens script entry)))
  adds_nothing = (entry.call, ap (just_call (draft_at script entry.thread)) call_words_at ∙ call_back script entry.thread facts entry.call h.of_script.call h.landed h.call h.awaited)

  thread_call_back : thread_call script entry.thread (before_word (codes "=") (drop 2 (entry_tokens script entry))) ≡ Ok entry.call
  unfolding thread_call
  thread_call_back = rw call_words_at (rw (call_back script entry.thread facts entry.call h.of_script.call h.landed h.call h.awaited) refl)

  said_back : read_reply script.strings (counts entry.call) (before_word (codes "waited") (after_word (codes "=") (drop 2 (entry_tokens script entry)))) ≡ Ok entry.reply
  said_back =
      ap (λ (l : List (List ℕ)). read_reply script.strings (counts entry.call) (before_word (codes "waited") l)) after_equals
      ∙ ap (read_reply script.strings (counts entry.call)) (before_mark script entry.waited (reply_tokens script.strings entry.reply) none_waited)
      ∙ reply_back script.strings (counts entry.call) entry.reply rule.strings_differ h.of_script.reply h.said h.reply

  waited_back : read_waited script (after_word (codes "waited") (after_word (codes "=") (drop 2 (entry_tokens script entry)))) ≡ Ok entry.waited
  waited_back =
      ap (λ (l : List (List ℕ)). read_waited script (after_word (codes "waited") l)) after_equals
      ∙ mark_back script entry.waited (reply_tokens script.strings entry.reply) rule none_waited h.of_script.mark

  pub entry_back : read_entry script (entry_tokens script entry) ≡ Ok entry
  unfolding read_entry
  entry_back = rw (place_back script entry rule h.of_script.thread h.last_index, letter_back entry.wrote entry.stamp h.stamp, thread_call_back, said_back, waited_back) refl

-- a text that is cut, with a line feed after it
pub line_cut : (text : List ℕ) (tokens : List (List ℕ)) → IsCut text tokens → tokens_of (text ++ 10 ∷ []) ≡ tokens
line_cut text tokens h = h.cut (10 ∷ []) refl ∙ ap (λ (l : List (List ℕ)). tokens ++ l) (from_gap 10 [] refl ∙ no_bytes place.Between) ∙ append-nil tokens

pub entry_read : (script : ScriptParts) (entry : Entry) → IsScript script → IsReadable script entry → read_entry script (tokens_of (entry_line script entry)) ≡ Ok entry
entry_read script entry rule h = ap (read_entry script) (line_cut (join_with_byte 32 (entry_line_words script entry)) (entry_tokens script entry) (words_cut script entry rule h)) ∙ entry_back script entry rule h

pub entry_adds_nothing : (script : ScriptParts) (entry : Entry) (text : List ℕ) → IsScript script → IsReadable script entry → text ≡ entry_line script entry → AddsNothing script entry.thread (before_word (codes "=") (drop 2 (tokens_of text)))
entry_adds_nothing script entry text rule h is =
    subst (λ (tokens : List (List ℕ)). AddsNothing script entry.thread (before_word (codes "=") (drop 2 tokens)))
    (sym (ap tokens_of is ∙ line_cut (join_with_byte 32 (entry_line_words script entry)) (entry_tokens script entry) (words_cut script entry rule h)))
    (adds_nothing script entry rule h)

-- ---- contents

whole_readable : (content : Reply) → IsContentReply content → IsReadableReply false content
whole_readable reply.Done h = absurd h
whole_readable (reply.Value found) h = absurd h
whole_readable (reply.Pair first second) h = absurd h
whole_readable (reply.Truth is) h = absurd h
whole_readable (reply.Count count) h = absurd h
whole_readable (reply.Dict pairs) h = tt
whole_readable (reply.List items) h = tt
whole_readable (reply.Set elements) h = tt
whole_readable (reply.World world) h = absurd h
whole_readable reply.Stop h = absurd h
whole_readable reply.Entered h = absurd h
whole_readable reply.Kept h = absurd h
whole_readable (reply.Suspended count) h = absurd h
whole_readable (reply.Raised raised) h = absurd h

container_form : (script : ScriptParts) (container : ℕ) → IsScript script → container < length script.containers → is_container_name (container_name script container) ≡ true
container_form script container rule low = ap is_container_name (container_name_at script container (get_or script.containers container (record { start = record { kind = kind.Dict; keys = [] }; name = [] })) low) ∙ rule.container_names container _ low

pub container_begins : (script : ScriptParts) (container : ℕ) → IsScript script → container < length script.containers → BeginsLow (container_name script container)
container_begins script container rule low = (container_word (container_name script container) (container_form script container rule low)).1

module _ (script : ScriptParts) (container : ℕ) (content : Reply) (rule : IsScript script) (low : container < length script.containers) (whole : IsContentReply content) (of_script : IsReplyOf (length script.strings) content) (wide : IsWideReply content) where
  pub content_cut : IsCut (join_with_byte 32 (container_name script container ∷ codes "=" ∷ reply_text script content ∷ [])) (container_name script container ∷ codes "=" ∷ reply_tokens script.strings content)
  content_cut =
      let name : List ℕ = container_name script container in
      let said : List ℕ = reply_text script content in
      let tokens : List (List ℕ) = reply_tokens script.strings content in
      let reply_cut : IsCut said tokens = reply_is_cut script false content wide (whole_readable content whole) in
      let equals : IsCut (codes "=" ++ (32 ∷ said)) (codes "=" ∷ tokens) = cut_tail (codes "=") (32 ∷ said) (codes "=" ∷ []) tokens (word_is_cut (codes "=") (refl, refl)) (after_space said tokens reply_cut) in
      cut_tail name (32 ∷ (codes "=" ++ (32 ∷ said))) (name ∷ []) (codes "=" ∷ tokens) (word_is_cut name (container_word name (container_form script container rule low)).0) (after_space (codes "=" ++ (32 ∷ said)) (codes "=" ∷ tokens) equals)

  pub content_back : read_content script (tokens_of (content_line script container content)) ≡ Ok (container, content)
  unfolding read_content
  content_back =
      rw (line_cut (join_with_byte 32 (container_name script container ∷ codes "=" ∷ reply_text script content ∷ [])) (container_name script container ∷ codes "=" ∷ reply_tokens script.strings content) content_cut)
      (rw (container_place_at script container rule.containers_differ low, reply_back script.strings false content rule.strings_differ of_script wide (whole_readable content whole)) refl)
