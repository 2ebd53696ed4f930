-- What is read of tokens is of the script, and no number of it is too great.
use Rattle.std.proofs.Common.{◌≡◌, ℕ, pos, negsuc, ◌-◌, ◌^◌, ◌<◌, ◌≤◌, Bool, true, false, ltb, leb, ◌&&◌, List, [], ◌∷◌, length, Option, Some, None, Result, Ok, Err, refl, sym, ◌∙◌, subst, arith}
use Rattle.std.specs.Prelude.{All, IfOk, IfSome, codes}
use Rattle.std.specs.Str.{bytes_eq}
use Rattle.std.specs.Str.Parse.{digits_value}
use Rattle.std.proofs.lemmas.Bool.{and_parts, leb-true, ltb-true}
use Rattle.std.proofs.lemmas.List.{length-map}
use Rattle.std.proofs.lemmas.List.Elements.{All-nil, All-cons}
use Rattle.ft_model.specs.declared.data.Key.{Key}
use Rattle.ft_model.specs.declared.data.Key.TheVariants as key
use Rattle.ft_model.specs.declared.data.Value.{Value}
use Rattle.ft_model.specs.declared.data.Value.TheVariants as value
use Rattle.ft_model.specs.declared.entry.Entry.{Entry}
use Rattle.ft_model.specs.declared.reply.Raise.{Raise}
use Rattle.ft_model.specs.declared.reply.Raise.TheVariants as raise
use Rattle.ft_model.specs.declared.reply.Reply.{Reply}
use Rattle.ft_model.specs.declared.reply.Reply.TheVariants as reply
use Rattle.ft_model.specs.declared.script.ScriptParts.{ScriptParts}
use Rattle.ft_model.specs.Parts.{IsReplyOf}
use Rattle.ft_model.specs.Scripts.{IsKeyOf, IsValueOf}
use Rattle.ft_model.specs.Keys.{as_value}
use Rattle.ft_model.specs.Classes.{least_class, greatest_class}
use Rattle.ft_script.specs.declared.fault.Fault.{Fault}
use Rattle.ft_script.specs.declared.fault.Fault.TheVariants as fault
use Rattle.ft_script.specs.declared.reply_words.ReplyWord.{ReplyWord}
use Rattle.ft_script.specs.declared.reply_words.ReplyWord.TheVariants as word
use Rattle.ft_script.specs.Arguments.{read_index}
use Rattle.ft_script.specs.Awaits.{MayAwait, has_awaits}
use Rattle.ft_script.specs.Internal.Candidates.{is_decimal, natural_in, read_u64, read_u32, known_key, known_value, known_pair, read_each, read_pairs, read_reply_word, read_suspended, read_runtime_error, read_class_error, read_memory_error, has_pairs, read_braced, but_last, worded_reply, counted_reply, shown_reply, first_reply, read_reply, read_thread, read_numbered, read_stamp, read_waited, thread_call, read_entry, read_content}
use Rattle.ft_script.specs.Drafts.{draft_at, only_named, or_fault, text_place, thread_place, container_place}
use Rattle.ft_script.specs.ScriptLines.{just_call}
use Rattle.ft_script.specs.Transcripts.{counts, IsWideKey, IsWideValue, IsWideReply, IsReadableReply}
use Rattle.ft_script.specs.LineWords.{is_wide, is_string, text_of}
use Rattle.ft_script.proofs.Kept.{bind_holds, cond_holds, or_holds, anything, index_keeps}
use Rattle.ft_script.proofs.DistinctNames.{place_within}
use Rattle.ft_script.proofs.KeptAwaits.{call_awaits}
use Rattle.ft_script.proofs.NumberLemmas.{natural_by}

-- ---- numbers

low_by : (token : List ℕ) (form low : Bool) (n : ℕ) → is_decimal token ≡ form → ltb (digits_value 10 token) (2 ^ 64) ≡ low → natural_in token ≡ Some n → n < 2 ^ 64
low_by token true true n is_form is_low found =
    let e : Some (digits_value 10 token) ≡ Some n = sym (natural_by token true true is_form is_low) ∙ found in
    let same : digits_value 10 token ≡ n = cc in
    let low : digits_value 10 token < 2 ^ 64 = ltb-true (digits_value 10 token) (2 ^ 64) is_low in
    omega arith
low_by token true false n is_form is_low found = absurd (let e : None ≡ Some n = sym (natural_by token true false is_form is_low) ∙ found in cc)
low_by token false low n is_form is_low found = absurd (let e : None ≡ Some n = sym (natural_by token false low is_form is_low) ∙ found in cc)

u64_sound : (token : List ℕ) → IfOk (read_u64 token) (λ n. n < 2 ^ 64)
unfolding read_u64
u64_sound token = or_holds fault.Number (natural_in token) (λ n. n < 2 ^ 64) (λ n found. low_by token (is_decimal token) (ltb (digits_value 10 token) (2 ^ 64)) n refl refl found)

u32_sound : (token : List ℕ) → IfOk (read_u32 token) (λ n. n < 2 ^ 32)
unfolding read_u32
u32_sound token =
    bind_holds (read_u64 token) _ (λ n. n < 2 ^ 64) (λ n. n < 2 ^ 32) (u64_sound token) (λ n low.
    cond_holds (ltb n (2 ^ 32)) (Ok n) (Err fault.Number) (λ m. m < 2 ^ 32) (λ small. ltb-true n (2 ^ 32) small) (λ _. tt))

-- ---- keys and values

abbrev KeyFits : List (List ℕ) → Key → Type 0
KeyFits strings found = IsKeyOf (length strings) found × IsWideKey found

abbrev ValueFits : List (List ℕ) → Value → Type 0
ValueFits strings found = IsValueOf (length strings) found × IsWideValue found

abbrev PairFits : List (List ℕ) → Key × Value → Type 0
PairFits strings pair = KeyFits strings pair.0 × ValueFits strings pair.1

key_sound : (strings : List (List ℕ)) (token : List ℕ) → IfOk (known_key strings token) (KeyFits strings)
unfolding known_key
key_sound strings token =
    cond_holds (is_string token) _ _ (KeyFits strings)
    (λ _. bind_holds (or_fault fault.String (text_place strings (text_of token))) _ (λ place. place < length strings) (KeyFits strings)
    (or_holds fault.String (text_place strings (text_of token)) (λ place. place < length strings) (λ place found. place_within (λ other. bytes_eq (text_of token) other) strings place found)) (λ place low. (low, tt)))
    (λ _. bind_holds (read_index token) _ (λ n. is_wide n ≡ true) (KeyFits strings) (index_keeps token) (λ n wide. (tt, wide)))

as_value_fits : (strings : List (List ℕ)) (found : Key) → KeyFits strings found → ValueFits strings (as_value found)
as_value_fits strings (key.Int n) h = h
as_value_fits strings (key.Text symbol) h = h

value_sound : (strings : List (List ℕ)) (token : List ℕ) → IfOk (known_value strings token) (ValueFits strings)
unfolding known_value
value_sound strings token =
    cond_holds (bytes_eq token (codes "None")) _ _ (ValueFits strings) (λ _. (tt, tt))
    (λ _. bind_holds (known_key strings token) _ (KeyFits strings) (ValueFits strings) (key_sound strings token) (as_value_fits strings))

pair_sound : (strings : List (List ℕ)) (first second : List ℕ) → IfOk (known_pair strings first second) (PairFits strings)
unfolding known_pair
pair_sound strings first second =
    bind_holds (known_key strings first) _ (KeyFits strings) (PairFits strings) (key_sound strings first) (λ found k.
    bind_holds (known_value strings second) _ (ValueFits strings) (PairFits strings) (value_sound strings second) (λ stored v. (k, v)))

each_sound : {X : Type 0} (read : List ℕ → Result X Fault) (P : X → Type 0) → ((token : List ℕ) → IfOk (read token) P) → (tokens : List (List ℕ)) → IfOk (read_each read tokens) (All P)
unfolding read_each
each_sound read P each [] = All-nil P
each_sound read P each (token ∷ tokens) =
    bind_holds (read token) _ P (All P) (each token) (λ x h. bind_holds (read_each read tokens) _ (All P) (All P) (each_sound read P each tokens) (λ xs all. All-cons P x xs h all))

pairs_sound : (strings tokens : List (List ℕ)) → IfOk (read_pairs strings tokens) (All (PairFits strings))
unfolding read_pairs
pairs_sound strings [] = All-nil (PairFits strings)
pairs_sound strings (first ∷ []) = tt
pairs_sound strings (first ∷ colon ∷ []) = tt
pairs_sound strings (first ∷ colon ∷ second ∷ tokens) =
    bind_holds (known_pair strings first second) _ (PairFits strings) (All (PairFits strings)) (pair_sound strings first second) (λ pair h.
    bind_holds (read_pairs strings tokens) _ (All (PairFits strings)) (All (PairFits strings)) (pairs_sound strings tokens) (λ pairs all. All-cons (PairFits strings) pair pairs h all))

-- ---- replies

pub record ReplyFits (strings : List (List ℕ)) (counted : Bool) (said : Reply) : Type 0 where
  pub of_script : IsReplyOf (length strings) said
  pub wide : IsWideReply said
  pub readable : IsReadableReply counted said

abbrev RaiseFits : Raise → Type 0
RaiseFits (raise.Memory class) = (least_class ≤ class) × (class ≤ greatest_class)
RaiseFits raise.Moved = ⊥
RaiseFits other = Unit {0}

runtime_sound : (tokens : List (List ℕ)) → IfOk (read_runtime_error tokens) RaiseFits
unfolding read_runtime_error
runtime_sound [] = tt
runtime_sound (cause ∷ more) = cond_holds (bytes_eq cause (codes "size")) _ _ RaiseFits (λ _. tt) (λ _. cond_holds (bytes_eq cause (codes "keys")) _ _ RaiseFits (λ _. tt) (λ _. tt))

class_sound : (token : List ℕ) → IfOk (read_class_error token) RaiseFits
unfolding read_class_error
class_sound token =
    bind_holds (read_u32 token) _ (λ n. n < 2 ^ 32) RaiseFits (u32_sound token) (λ class _.
    cond_holds (leb least_class class && leb class greatest_class) _ _ RaiseFits (λ within. let both = and_parts (leb least_class class) (leb class greatest_class) within in (leb-true least_class class both.0, leb-true class greatest_class both.1)) (λ _. tt))

memory_sound : (tokens : List (List ℕ)) → IfOk (read_memory_error tokens) RaiseFits
unfolding read_memory_error
memory_sound [] = tt
memory_sound (cause ∷ more) = cond_holds (bytes_eq cause (codes "over")) _ _ RaiseFits (λ _. tt) (λ _. cond_holds (bytes_eq cause (codes "heap")) _ _ RaiseFits (λ _. tt) (λ _. class_sound cause))

raise_fits : (strings : List (List ℕ)) (counted : Bool) (raised : Raise) → RaiseFits raised → ReplyFits strings counted (reply.Raised raised)
raise_fits strings counted raise.NoKey h = record { of_script = tt; wide = tt; readable = tt }
raise_fits strings counted raise.NoIndex h = record { of_script = tt; wide = tt; readable = tt }
raise_fits strings counted raise.NoValue h = record { of_script = tt; wide = tt; readable = tt }
raise_fits strings counted raise.Size h = record { of_script = tt; wide = tt; readable = tt }
raise_fits strings counted raise.Keys h = record { of_script = tt; wide = tt; readable = tt }
raise_fits strings counted raise.Moved h = absurd h
raise_fits strings counted (raise.Memory class) h = record { of_script = tt; wide = tt; readable = h }
raise_fits strings counted raise.Over h = record { of_script = tt; wide = tt; readable = tt }
raise_fits strings counted raise.Heap h = record { of_script = tt; wide = tt; readable = tt }

count_low : (n : ℕ) → is_wide (pos n) ≡ true → n < 2 ^ 63
count_low n wide = let e : n ≤ 2 ^ 63 - 1 = leb-true n (2 ^ 63 - 1) wide in omega arith

counted_fits : (strings : List (List ℕ)) (counted : Bool) (found : Value) → ValueFits strings found → ReplyFits strings counted (counted_reply counted found)
counted_fits strings true value.Nothing h = record { of_script = tt; wide = tt; readable = tt }
counted_fits strings true (value.Int (pos n)) h = record { of_script = tt; wide = tt; readable = (refl, count_low n h.1) }
counted_fits strings true (value.Int (negsuc n)) h = record { of_script = tt; wide = h.1; readable = λ count is. absurd cc }
counted_fits strings true (value.Text symbol) h = record { of_script = h.0; wide = tt; readable = tt }
counted_fits strings false value.Nothing h = record { of_script = tt; wide = tt; readable = tt }
counted_fits strings false (value.Int n) h = record { of_script = tt; wide = h.1; readable = λ count is. refl }
counted_fits strings false (value.Text symbol) h = record { of_script = h.0; wide = tt; readable = tt }

shown_sound : (strings : List (List ℕ)) (counted : Bool) (first : List ℕ) (tokens : List (List ℕ)) → IfOk (shown_reply strings counted first tokens) (ReplyFits strings counted)
unfolding shown_reply
shown_sound strings counted first [] = bind_holds (known_value strings first) _ (ValueFits strings) (ReplyFits strings counted) (value_sound strings first) (counted_fits strings counted)
shown_sound strings counted first (colon ∷ []) = bind_holds (known_value strings first) _ (ValueFits strings) (ReplyFits strings counted) (value_sound strings first) (counted_fits strings counted)
shown_sound strings counted first (colon ∷ second ∷ more) =
    bind_holds (known_pair strings first second) _ (PairFits strings) (ReplyFits strings counted) (pair_sound strings first second) (λ pair h. record { of_script = (h.0.0, h.1.0); wide = (h.0.1, h.1.1); readable = tt })

braced_sound : (strings : List (List ℕ)) (counted : Bool) (tokens : List (List ℕ)) → IfOk (read_braced strings tokens) (ReplyFits strings counted)
unfolding read_braced
braced_sound strings counted tokens =
    cond_holds (has_pairs tokens) _ _ (ReplyFits strings counted)
    (λ _. bind_holds (read_pairs strings tokens) _ (All (PairFits strings)) (ReplyFits strings counted) (pairs_sound strings tokens)
    (λ pairs h. record { of_script = λ k d low. ((h k d low).0.0, (h k d low).1.0); wide = λ k d low. ((h k d low).0.1, (h k d low).1.1); readable = tt }))
    (λ _. bind_holds (read_each (known_key strings) tokens) _ (All (KeyFits strings)) (ReplyFits strings counted) (each_sound (known_key strings) (KeyFits strings) (key_sound strings) tokens)
    (λ keys h. record { of_script = λ k d low. (h k d low).0; wide = λ k d low. (h k d low).1; readable = tt }))

suspended_sound : (strings : List (List ℕ)) (counted : Bool) (tokens : List (List ℕ)) → IfOk (read_suspended tokens) (ReplyFits strings counted)
unfolding read_suspended
suspended_sound strings counted [] = tt
suspended_sound strings counted (count ∷ more) = bind_holds (read_u32 count) _ (λ n. n < 2 ^ 32) (ReplyFits strings counted) (u32_sound count) (λ n low. record { of_script = tt; wide = low; readable = tt })

worded_sound : (strings : List (List ℕ)) (counted : Bool) (w : ReplyWord) (tokens : List (List ℕ)) → IfOk (worded_reply strings w tokens) (ReplyFits strings counted)
unfolding worded_reply
worded_sound strings counted word.Done tokens = record { of_script = tt; wide = tt; readable = tt }
worded_sound strings counted word.True tokens = record { of_script = tt; wide = tt; readable = tt }
worded_sound strings counted word.False tokens = record { of_script = tt; wide = tt; readable = tt }
worded_sound strings counted word.Stop tokens = record { of_script = tt; wide = tt; readable = tt }
worded_sound strings counted word.Entered tokens = record { of_script = tt; wide = tt; readable = tt }
worded_sound strings counted word.Kept tokens = record { of_script = tt; wide = tt; readable = tt }
worded_sound strings counted word.Suspended tokens = suspended_sound strings counted tokens
worded_sound strings counted word.KeyError tokens = record { of_script = tt; wide = tt; readable = tt }
worded_sound strings counted word.IndexError tokens = record { of_script = tt; wide = tt; readable = tt }
worded_sound strings counted word.ValueError tokens = record { of_script = tt; wide = tt; readable = tt }
worded_sound strings counted word.RuntimeError tokens = bind_holds (read_runtime_error tokens) _ RaiseFits (ReplyFits strings counted) (runtime_sound tokens) (raise_fits strings counted)
worded_sound strings counted word.MemoryError tokens = bind_holds (read_memory_error tokens) _ RaiseFits (ReplyFits strings counted) (memory_sound tokens) (raise_fits strings counted)
worded_sound strings counted word.NoElements tokens = record { of_script = All-nil (IsKeyOf (length strings)); wide = All-nil IsWideKey; readable = tt }
worded_sound strings counted word.Brace tokens = braced_sound strings counted (but_last tokens)
worded_sound strings counted word.Bracket tokens =
    bind_holds (read_each (known_value strings) (but_last tokens)) _ (All (ValueFits strings)) (ReplyFits strings counted) (each_sound (known_value strings) (ValueFits strings) (value_sound strings) (but_last tokens))
    (λ items h. record { of_script = λ k d low. (h k d low).0; wide = λ k d low. (h k d low).1; readable = tt })

first_sound : (strings : List (List ℕ)) (counted : Bool) (first : List ℕ) (tokens : List (List ℕ)) (found : Option ReplyWord) → IfOk (first_reply strings counted first tokens found) (ReplyFits strings counted)
unfolding first_reply
first_sound strings counted first tokens None = shown_sound strings counted first tokens
first_sound strings counted first tokens (Some w) = worded_sound strings counted w tokens

pub reply_sound : (strings : List (List ℕ)) (counted : Bool) (tokens : List (List ℕ)) → IfOk (read_reply strings counted tokens) (ReplyFits strings counted)
unfolding read_reply
reply_sound strings counted [] = tt
reply_sound strings counted (first ∷ tokens) = first_sound strings counted first tokens (read_reply_word first)

-- ---- entries and contents

thread_sound : (script : ScriptParts) (name : List ℕ) → IfOk (read_thread script name) (λ thread. thread < length script.threads)
unfolding read_thread
thread_sound script name = or_holds fault.Name (thread_place script.threads name) (λ thread. thread < length script.threads) (λ thread found. place_within (λ other. bytes_eq other.name name) script.threads thread found)

pub record EntryFits (script : ScriptParts) (entry : Entry) : Type 0 where
  pub thread : entry.thread < length script.threads
  pub index : entry.index < 2 ^ 32
  pub stamp : entry.stamp < 2 ^ 64
  pub awaited : MayAwait (has_awaits script.threads) (length script.threads) entry.call
  pub reply : ReplyFits script.strings (counts entry.call) entry.reply
  pub waited : IfSome entry.waited (λ thread. thread < length script.threads)

abbrev pub Numbered : ScriptParts → ℕ × ℕ → Type 0
Numbered script numbered = (numbered.0 < length script.threads) × (numbered.1 < 2 ^ 32)

pub numbered_sound : (script : ScriptParts) (token : List ℕ) → IfOk (read_numbered script token) (Numbered script)
unfolding read_numbered
numbered_sound script token =
    bind_holds _ _ (λ thread. thread < length script.threads) (Numbered script) (thread_sound script _) (λ thread low. bind_holds _ _ (λ n. n < 2 ^ 32) (Numbered script) (u32_sound _) (λ index small. (low, small)))

abbrev Stamped : Bool × ℕ → Type 0
Stamped stamped = stamped.1 < 2 ^ 64

stamp_sound : (token : List ℕ) → IfOk (read_stamp token) Stamped
unfolding read_stamp
stamp_sound [] = tt
stamp_sound (letter ∷ digits) = bind_holds (read_u64 digits) _ (λ n. n < 2 ^ 64) Stamped (u64_sound digits) (λ n low. low)

abbrev Waited : ScriptParts → Option ℕ → Type 0
Waited script waited = IfSome waited (λ thread. thread < length script.threads)

waited_sound : (script : ScriptParts) (tokens : List (List ℕ)) → IfOk (read_waited script tokens) (Waited script)
unfolding read_waited
waited_sound script [] = tt
waited_sound script (name ∷ more) = bind_holds (read_thread script name) _ (λ thread. thread < length script.threads) (Waited script) (thread_sound script name) (λ thread low. low)

-- an `await` is read only where the script has one, and names a thread of the script
call_sound : (script : ScriptParts) (thread : ℕ) (words : List (List ℕ)) → IfOk (thread_call script thread words) (MayAwait (has_awaits script.threads) (length script.threads))
unfolding thread_call
call_sound script thread words =
    let allowed : Bool = has_awaits script.threads in
    let of_names = call_awaits (draft_at script thread) words in
    bind_holds (just_call (draft_at script thread) words) _ (λ both. MayAwait allowed (length script.threads) both.0) (MayAwait allowed (length script.threads))
    (subst (λ (n : ℕ). IfOk (just_call (draft_at script thread) words) (λ both. MayAwait allowed n both.0)) (length-map script.threads only_named) of_names) (λ both h. h)

pub entry_sound : (script : ScriptParts) (tokens : List (List ℕ)) → IfOk (read_entry script tokens) (EntryFits script)
unfolding read_entry
entry_sound script [] = tt
entry_sound script (one ∷ []) = tt
entry_sound script (place ∷ stamp ∷ words) =
    bind_holds _ _ (Numbered script) (EntryFits script) (numbered_sound script place) (λ numbered n.
    bind_holds _ _ Stamped (EntryFits script) (stamp_sound stamp) (λ stamped s.
    bind_holds (thread_call script numbered.0 _) _ (MayAwait (has_awaits script.threads) (length script.threads)) (EntryFits script) (call_sound script numbered.0 _) (λ called a.
    bind_holds _ _ (ReplyFits script.strings (counts called)) (EntryFits script) (reply_sound script.strings (counts called) _) (λ said r.
    bind_holds _ _ (Waited script) (EntryFits script) (waited_sound script _) (λ waited w.
    record { thread = n.0; index = n.1; stamp = s; awaited = a; reply = r; waited = w })))))

pub record ContentFits (script : ScriptParts) (read : ℕ × Reply) : Type 0 where
  pub container : read.0 < length script.containers
  pub content : ReplyFits script.strings false read.1

pub content_sound : (script : ScriptParts) (tokens : List (List ℕ)) → IfOk (read_content script tokens) (ContentFits script)
unfolding read_content
content_sound script [] = tt
content_sound script (one ∷ []) = tt
content_sound script (name ∷ equals ∷ tokens) =
    bind_holds _ _ (λ place. place < length script.containers) (ContentFits script) (or_holds fault.Name (container_place script.containers name) (λ place. place < length script.containers) (λ place found. place_within (λ other. bytes_eq other.name name) script.containers place found)) (λ container low.
    bind_holds _ _ (ReplyFits script.strings false) (ContentFits script) (reply_sound script.strings false tokens) (λ content h. record { container = low; content = h }))
