-- The one entry or content whose line some tokens may be. They are its line where it is printed so: what else may stand
-- between the tokens or after them is passed over here. (profile)
use Rattle.std.specs.Prelude.{ℕ, pos, ◌-◌, ◌^◌, Bool, true, false, ◌==◌, ◌&&◌, nat_lt, nat_le, List, [], ◌∷◌, length, take, codes, Option, Some, None, Result, Ok, Err, if◌then◌else◌}
use Rattle.std.specs.List.{list_all, before_first, after_first, find}
use Rattle.std.specs.Str.{bytes_eq}
use Rattle.std.specs.Str.Parse.{digits_value}
use Rattle.ft_model.specs.declared.data.Key.{Key}
use Rattle.ft_model.specs.declared.data.Key.TheVariants as key
use Rattle.ft_model.specs.declared.data.Value.{Value}
use Rattle.ft_model.specs.declared.data.Value.TheVariants as value
use Rattle.ft_model.specs.declared.call.Call.{Call}
use Rattle.ft_model.specs.declared.entry.Entry.{Entry}
use Rattle.ft_model.specs.declared.reply.Raise.{Raise}
use Rattle.ft_model.specs.declared.reply.Raise.TheVariants as raise
use Rattle.ft_model.specs.declared.reply.Reply.{Reply}
use Rattle.ft_model.specs.declared.reply.Reply.TheVariants as reply
use Rattle.ft_model.specs.declared.script.ScriptParts.{ScriptParts}
use Rattle.ft_model.specs.Names.{is_digit}
use Rattle.ft_model.specs.Keys.{as_value}
use Rattle.ft_model.specs.Classes.{least_class, greatest_class}
use Rattle.ft_script.specs.Drafts.{Draft}
use Rattle.ft_script.specs.declared.fault.Fault.{Fault}
use Rattle.ft_script.specs.declared.fault.Fault.TheVariants as fault
use Rattle.ft_script.specs.declared.reply_words.ReplyWord.{ReplyWord}
use Rattle.ft_script.specs.declared.reply_words.ReplyWord.TheVariants as word
use Rattle.ft_script.specs.Arguments.{read_index}
use Rattle.ft_script.specs.Drafts.{◌>>=◌, or_fault, container_place, thread_place, text_place, draft_at}
use Rattle.ft_script.specs.ScriptLines.{just_call}
use Rattle.ft_script.specs.Transcripts.{counts}
use Rattle.ft_script.specs.Internal.Tokens.{before_word, after_word}
use Rattle.ft_script.specs.LineWords.{is_string, text_of}

-- ---- numbers

-- one or more digits
abbrev pub is_decimal : List ℕ → Bool
is_decimal [] = false
is_decimal (b ∷ bytes) = is_digit b && list_all is_digit bytes

-- the number below 2^64 that digits are
unfoldable pub natural_in : List ℕ → Option ℕ
natural_in token =
    if is_decimal token && nat_lt (digits_value 10 token) (2 ^ 64) then Some (digits_value 10 token) else None

unfoldable pub read_u64 : List ℕ → Result ℕ Fault
read_u64 token = or_fault fault.Number (natural_in token)

-- and below 2^32
unfoldable pub read_u32 : List ℕ → Result ℕ Fault
read_u32 token = read_u64 token >>= λ n. if nat_lt n (2 ^ 32) then Ok n else Err fault.Number

-- ---- keys and values

-- a key whose string, if it is one, is among these
unfoldable pub known_key : List (List ℕ) → List ℕ → Result Key Fault
known_key strings token =
    if is_string token
    then (or_fault fault.String (text_place strings (text_of token)) >>= λ place. Ok
    (key.Text (record { 0 = place })))
    else (read_index token >>= λ n. Ok (key.Int n))

unfoldable pub known_value : List (List ℕ) → List ℕ → Result Value Fault
known_value strings token =
    if bytes_eq token (codes "None") then Ok value.Nothing
    else (known_key strings token >>= λ found. Ok (as_value found))

unfoldable pub known_pair : List (List ℕ) → List ℕ → List ℕ → Result (Key × Value) Fault
known_pair strings first second = do
  found ← known_key strings first
  stored ← known_value strings second
  Ok (found, stored)

-- what each token is
unfoldable pub read_each : {X : Type 0} → (List ℕ → Result X Fault) → List (List ℕ) → Result (List X) Fault
read_each read [] = Ok []
read_each read (token ∷ tokens) = do
  x ← read token
  xs ← read_each read tokens
  Ok (x ∷ xs)

-- the pairs that the tokens are by threes, a `:` being the second of them
unfoldable pub read_pairs : List (List ℕ) → List (List ℕ) → Result (List (Key × Value)) Fault
read_pairs strings [] = Ok []
read_pairs strings (first ∷ colon ∷ second ∷ tokens) = do
  pair ← known_pair strings first second
  pairs ← read_pairs strings tokens
  Ok (pair ∷ pairs)
read_pairs strings others = Err fault.WordCount

-- ---- replies

abbrev pub reply_word_text : ReplyWord → List ℕ
reply_word_text word.Done = codes "ok"
reply_word_text word.True = codes "True"
reply_word_text word.False = codes "False"
reply_word_text word.Stop = codes "StopIteration"
reply_word_text word.Entered = codes "entered"
reply_word_text word.Kept = codes "kept"
reply_word_text word.Suspended = codes "suspended"
reply_word_text word.KeyError = codes "KeyError"
reply_word_text word.IndexError = codes "IndexError"
reply_word_text word.ValueError = codes "ValueError"
reply_word_text word.RuntimeError = codes "RuntimeError"
reply_word_text word.MemoryError = codes "MemoryError"
reply_word_text word.NoElements = codes "set()"
reply_word_text word.Brace = codes "{"
reply_word_text word.Bracket = codes "["

abbrev pub reply_words : List ReplyWord
reply_words =
    word.Done ∷ word.True ∷ word.False ∷ word.Stop ∷ word.Entered ∷ word.Kept ∷ word.Suspended ∷ word.KeyError
    ∷ word.IndexError ∷ word.ValueError ∷ word.RuntimeError ∷ word.MemoryError ∷ word.NoElements ∷ word.Brace
    ∷ word.Bracket ∷ []

-- the word of a reply that a token is
unfoldable pub read_reply_word : List ℕ → Option ReplyWord
read_reply_word token = find (λ word. bytes_eq (reply_word_text word) token) reply_words

unfoldable pub read_suspended : List (List ℕ) → Result Reply Fault
read_suspended [] = Err fault.WordCount
read_suspended (count ∷ more) = read_u32 count >>= λ n. Ok (reply.Suspended n)

unfoldable pub read_runtime_error : List (List ℕ) → Result Raise Fault
read_runtime_error [] = Err fault.WordCount
read_runtime_error (cause ∷ more) =
    if bytes_eq cause (codes "size") then Ok raise.Size
    else (if bytes_eq cause (codes "keys") then Ok raise.Keys else Err fault.UnknownWord)

-- the classes are those from 3 to 16
unfoldable pub read_class_error : List ℕ → Result Raise Fault
read_class_error token =
    read_u32 token >>= λ class. if nat_le least_class class
    && nat_le class greatest_class then Ok (raise.Memory class) else Err fault.Number

unfoldable pub read_memory_error : List (List ℕ) → Result Raise Fault
read_memory_error [] = Err fault.WordCount
read_memory_error (cause ∷ more) =
    if bytes_eq cause (codes "over") then Ok raise.Over
    else (if bytes_eq cause (codes "heap") then Ok raise.Heap else read_class_error cause)

-- whether the second token is a `:`, or there is none
abbrev pub has_pairs : List (List ℕ) → Bool
has_pairs [] = true
has_pairs (token ∷ []) = false
has_pairs (token ∷ colon ∷ tokens) = bytes_eq colon (codes ":")

-- what stands between the braces of a dict or a set
unfoldable pub read_braced : List (List ℕ) → List (List ℕ) → Result Reply Fault
read_braced strings tokens =
    if has_pairs tokens then (read_pairs strings tokens >>= λ pairs. Ok (reply.Dict pairs))
    else (read_each (known_key strings) tokens >>= λ elements. Ok (reply.Set elements))

-- all but the last token
abbrev pub but_last : List (List ℕ) → List (List ℕ)
but_last tokens = take (length tokens - 1) tokens

unfoldable pub worded_reply : List (List ℕ) → ReplyWord → List (List ℕ) → Result Reply Fault
worded_reply strings word.Done tokens = Ok reply.Done
worded_reply strings word.True tokens = Ok (reply.Truth true)
worded_reply strings word.False tokens = Ok (reply.Truth false)
worded_reply strings word.Stop tokens = Ok reply.Stop
worded_reply strings word.Entered tokens = Ok reply.Entered
worded_reply strings word.Kept tokens = Ok reply.Kept
worded_reply strings word.Suspended tokens = read_suspended tokens
worded_reply strings word.KeyError tokens = Ok (reply.Raised raise.NoKey)
worded_reply strings word.IndexError tokens = Ok (reply.Raised raise.NoIndex)
worded_reply strings word.ValueError tokens = Ok (reply.Raised raise.NoValue)
worded_reply strings word.RuntimeError tokens = read_runtime_error tokens >>= λ raised. Ok (reply.Raised raised)
worded_reply strings word.MemoryError tokens = read_memory_error tokens >>= λ raised. Ok (reply.Raised raised)
worded_reply strings word.NoElements tokens = Ok (reply.Set [])
worded_reply strings word.Brace tokens = read_braced strings (but_last tokens)
worded_reply strings word.Bracket tokens =
    read_each (known_value strings) (but_last tokens) >>= λ items. Ok (reply.List items)

-- an integer that isn't negative stands for a count where the call counts
abbrev pub counted_reply : Bool → Value → Reply
counted_reply true (value.Int (pos n)) = reply.Count n
counted_reply counted found = reply.Value found

-- a value or a pair
unfoldable pub shown_reply : List (List ℕ) → Bool → List ℕ → List (List ℕ) → Result Reply Fault
shown_reply strings counted first (colon ∷ second ∷ more) =
    known_pair strings first second >>= λ pair. Ok (reply.Pair pair.0 pair.1)
shown_reply strings counted first others = known_value strings first >>= λ found. Ok (counted_reply counted found)

unfoldable pub first_reply : List (List ℕ) → Bool → List ℕ → List (List ℕ) → Option ReplyWord → Result Reply Fault
first_reply strings counted first tokens None = shown_reply strings counted first tokens
first_reply strings counted first tokens (Some found) = worded_reply strings found tokens

-- the reply that some tokens may be
unfoldable pub read_reply : List (List ℕ) → Bool → List (List ℕ) → Result Reply Fault
read_reply strings counted [] = Err fault.WordCount
read_reply strings counted (first ∷ tokens) = first_reply strings counted first tokens (read_reply_word first)

-- ---- calls

abbrev pub only_call : Result (Call × Draft) Fault → Result Call Fault
only_call read = read >>= λ both. Ok both.0

unfoldable pub thread_call : ScriptParts → ℕ → List (List ℕ) → Result Call Fault
thread_call script thread words = only_call (just_call (draft_at script thread) words)

-- ---- entries

unfoldable pub read_thread : ScriptParts → List ℕ → Result ℕ Fault
read_thread script name = or_fault fault.Name (thread_place script.threads name)

-- the thread and the index, which a dot parts
unfoldable pub read_numbered : ScriptParts → List ℕ → Result (ℕ × ℕ) Fault
read_numbered script token = do
  thread ← read_thread script (before_first (λ b. b == 46) token)
  index ← read_u32 (after_first (λ b. b == 46) token)
  Ok (thread, index)

-- whether a `w` stands there, and the number after it
unfoldable pub read_stamp : List ℕ → Result (Bool × ℕ) Fault
read_stamp [] = Err fault.WordCount
read_stamp (letter ∷ digits) = read_u64 digits >>= λ stamp. Ok (letter == 119, stamp)

unfoldable pub read_waited : ScriptParts → List (List ℕ) → Result (Option ℕ) Fault
read_waited script [] = Ok None
read_waited script (name ∷ more) = read_thread script name >>= λ thread. Ok (Some thread)

-- the entry whose line some tokens may be
unfoldable pub read_entry : ScriptParts → List (List ℕ) → Result Entry Fault
read_entry script (place ∷ stamp ∷ words) = do
  numbered ← read_numbered script place
  stamped ← read_stamp stamp
  called ← thread_call script numbered.0 (before_word (codes "=") words)
  said ← read_reply script.strings (counts called) (before_word (codes "waited") (after_word (codes "=") words))
  waited ← read_waited script (after_word (codes "waited") (after_word (codes "=") words))
  Ok (record {
    thread = numbered.0;
    index = numbered.1;
    stamp = stamped.1;
    wrote = stamped.0;
    call = called;
    reply = said;
    waited = waited;
  })
read_entry script others = Err fault.WordCount

-- ---- contents

-- the container and the content whose line some tokens may be
unfoldable pub read_content : ScriptParts → List (List ℕ) → Result (ℕ × Reply) Fault
read_content script (name ∷ equals ∷ tokens) = do
  container ← or_fault fault.Name (container_place script.containers name)
  content ← read_reply script.strings false tokens
  Ok (container, content)
read_content script others = Err fault.WordCount
