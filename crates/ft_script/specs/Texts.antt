-- The texts of keys, values, calls, entries and contents, as bytes, and the transcript of a history.
use Rattle.std.specs.Prelude.{ℕ, true, false, List, [], ◌∷◌, ◌++◌, map, length, Option, Some, None, codes, slice_get, slice_index_or, ◌==◌, if◌then◌else◌}
use Rattle.std.specs.Fmt.{decimal, signed_decimal}
use Rattle.std.specs.List.{flat_map, join_with_byte, zip}
use Rattle.std.specs.Option.{option_map_or}
use Rattle.ft_model.specs.declared.data.Key.{Key}
use Rattle.ft_model.specs.declared.data.Key.TheVariants as key
use Rattle.ft_model.specs.declared.data.Value.{Value}
use Rattle.ft_model.specs.declared.data.Value.TheVariants as value
use Rattle.ft_model.specs.declared.call.Call.{Call}
use Rattle.ft_model.specs.declared.reply.Raise.{Raise}
use Rattle.ft_model.specs.declared.reply.Raise.TheVariants as raise
use Rattle.ft_model.specs.declared.reply.Reply.{Reply}
use Rattle.ft_model.specs.declared.reply.Reply.TheVariants as reply
use Rattle.ft_model.specs.declared.reply.Shown.{Shown}
use Rattle.ft_model.specs.declared.reply.Shown.TheVariants as shown
use Rattle.ft_model.specs.declared.content.Content.{Content}
use Rattle.ft_model.specs.declared.content.Content.TheVariants as content
use Rattle.ft_model.specs.declared.content.DictPair.{DictPair}
use Rattle.ft_model.specs.declared.content.Element.{Element}
use Rattle.ft_model.specs.declared.entry.Entry.{Entry}
use Rattle.ft_model.specs.declared.script.Declaration.{Declaration}
use Rattle.ft_model.specs.declared.script.ScriptParts.{ScriptParts}
use Rattle.ft_model.specs.Histories.{world_at, writes}
use Rattle.ft_script.specs.declared.forms.Argument.{Argument}
use Rattle.ft_script.specs.declared.forms.Argument.TheVariants as argument
use Rattle.ft_script.specs.Forms.{Form, call_form}

-- words parted by one space, and a line feed
abbrev pub line : List (List ℕ) → List ℕ
line words = join_with_byte 32 words ++ 10 ∷ []

-- ---- keys and values

-- a byte of a string: a quotation mark, a backslash, a line feed and a tab stand after a backslash, and all others as
-- they are
abbrev pub escaped : ℕ → List ℕ
escaped b =
    if b == 34 then 92 ∷ 34
    ∷ [] else
    (if b == 92 then 92 ∷ 92 ∷ [] else (if b == 10 then codes "\\n" else (if b == 9 then codes "\\t" else b ∷ [])))

abbrev pub quoted : List ℕ → List ℕ
quoted text = 34 ∷ flat_map escaped text ++ 34 ∷ []

-- a string between quotation marks, an integer in decimal
abbrev pub key_text : List (List ℕ) → Key → List ℕ
key_text strings (key.Int n) = signed_decimal n
key_text strings (key.Text symbol) = quoted (slice_index_or strings symbol.0 [])

abbrev pub value_text : List (List ℕ) → Value → List ℕ
value_text strings value.Nothing = codes "None"
value_text strings (value.Int n) = signed_decimal n
value_text strings (value.Text symbol) = quoted (slice_index_or strings symbol.0 [])

-- ---- calls

abbrev pub container_name : ScriptParts → ℕ → List ℕ
container_name script container = option_map_or (λ found. found.name) (slice_get script.containers container) []

abbrev pub thread_name : ScriptParts → ℕ → List ℕ
thread_name script thread = option_map_or (λ found. found.name) (slice_get script.threads thread) []

-- cursors are named by thread
abbrev pub cursor_name : ScriptParts → ℕ → ℕ → List ℕ
cursor_name script thread cursor =
    option_map_or (λ found. slice_index_or found.cursors cursor []) (slice_get script.threads thread) []

-- a call of a thread: the thread's name and the index, parted by a dot
abbrev pub call_place : ScriptParts → ℕ → ℕ → List ℕ
call_place script thread index = thread_name script thread ++ 46 ∷ decimal index

-- a word after the word of a call
abbrev pub argument_text : ScriptParts → ℕ → Argument → List ℕ
argument_text script thread (argument.Container place) = container_name script place
argument_text script thread (argument.Cursor number) = cursor_name script thread number
argument_text script thread (argument.Key key) = key_text script.strings key
argument_text script thread (argument.Value value) = value_text script.strings value
argument_text script thread (argument.Index index) = signed_decimal index
argument_text script thread (argument.Call other index) = call_place script other index

abbrev pub form_words : ScriptParts → ℕ → Form → List (List ℕ)
form_words script thread form = form.word ∷ map (argument_text script thread) form.arguments

-- the words of a thread's call, in a script and in a transcript alike
abbrev pub call_words : ScriptParts → ℕ → Call → List (List ℕ)
call_words script thread call = form_words script thread (call_form call)

-- ---- replies

-- texts parted by a comma and a space
abbrev pub listed : List (List ℕ) → List ℕ
listed [] = []
listed (text ∷ []) = text
listed (text ∷ next ∷ texts) = text ++ codes ", " ++ listed (next ∷ texts)

abbrev pub pair_text : List (List ℕ) → Key × Value → List ℕ
pair_text strings pair = key_text strings pair.0 ++ codes ": " ++ value_text strings pair.1

-- all pairs of a dict
abbrev pub braced_text : List (List ℕ) → List ℕ
braced_text texts = codes "{" ++ listed texts ++ codes "}"

-- all items of a list
abbrev pub list_text : List (List ℕ) → List Value → List ℕ
list_text strings items = codes "[" ++ listed (map (value_text strings) items) ++ codes "]"

-- all elements of a set
abbrev pub elements_text : List (List ℕ) → List ℕ
elements_text [] = codes "set()"
elements_text (text ∷ texts) = braced_text (text ∷ texts)

abbrev pub raise_text : Raise → List ℕ
raise_text raise.NoKey = codes "KeyError"
raise_text raise.NoIndex = codes "IndexError"
raise_text raise.NoValue = codes "ValueError"
raise_text raise.Size = codes "RuntimeError size"
raise_text raise.Keys = codes "RuntimeError keys"
raise_text raise.Moved = codes "RuntimeError moved"
raise_text (raise.Memory class) = codes "MemoryError " ++ decimal class
raise_text raise.Over = codes "MemoryError over"
raise_text raise.Heap = codes "MemoryError heap"

-- what a container is shown to have
abbrev pub shown_text : List (List ℕ) → Shown → List ℕ
shown_text strings (shown.Dict pairs) = braced_text (map (pair_text strings) pairs)
shown_text strings (shown.List items) = list_text strings items
shown_text strings (shown.Set elements) = elements_text (map (key_text strings) elements)

-- a space, the name of a container, a space, and what it has
abbrev pub named_text : List (List ℕ) → Declaration × Shown → List ℕ
named_text strings one = 32 ∷ one.0.name ++ 32 ∷ shown_text strings one.1

-- what all containers have, in the order of declaration, with a semicolon between two
abbrev pub all_text : ScriptParts → List Shown → List ℕ
all_text script world =
    codes "world" ++ join_with_byte 59 (map (named_text script.strings) (zip script.containers world))

abbrev pub reply_text : ScriptParts → Reply → List ℕ
reply_text script reply.Done = codes "ok"
reply_text script (reply.Value value) = value_text script.strings value
reply_text script (reply.Pair key value) = pair_text script.strings (key, value)
reply_text script (reply.Truth true) = codes "True"
reply_text script (reply.Truth false) = codes "False"
reply_text script (reply.Count count) = decimal count
reply_text script (reply.Dict pairs) = braced_text (map (pair_text script.strings) pairs)
reply_text script (reply.List items) = list_text script.strings items
reply_text script (reply.Set elements) = elements_text (map (key_text script.strings) elements)
reply_text script (reply.World world) = all_text script world
reply_text script reply.Stop = codes "StopIteration"
reply_text script reply.Entered = codes "entered"
reply_text script reply.Kept = codes "kept"
reply_text script (reply.Suspended count) = codes "suspended " ++ decimal count
reply_text script (reply.Raised raise) = raise_text raise

-- ---- entries

-- the entry's call
abbrev pub place_word : ScriptParts → Entry → List ℕ
place_word script entry = call_place script entry.thread entry.index

-- `w` for a write and `r` for any other call, with the stamp
abbrev pub stamp_word : Entry → List ℕ
stamp_word entry = (if entry.wrote then 119 else 114) ∷ decimal entry.stamp

abbrev pub mark_words : ScriptParts → Option ℕ → List (List ℕ)
mark_words script None = []
mark_words script (Some thread) = codes "waited" ∷ thread_name script thread ∷ []

abbrev pub entry_line_words : ScriptParts → Entry → List (List ℕ)
entry_line_words script entry =
    place_word script entry ∷ stamp_word entry ∷ call_words script entry.thread entry.call ++ codes "="
    ∷ reply_text script entry.reply ∷ mark_words script entry.waited

abbrev pub entry_line : ScriptParts → Entry → List ℕ
entry_line script entry = line (entry_line_words script entry)

-- ---- contents

abbrev pub dict_pair_text : List (List ℕ) → DictPair → List ℕ
dict_pair_text strings pair = pair_text strings (pair.key, pair.value)

abbrev pub element_text : List (List ℕ) → Element → List ℕ
element_text strings element = key_text strings element.key

abbrev pub content_text : List (List ℕ) → Content → List ℕ
content_text strings (content.Dict dict) = braced_text (map (dict_pair_text strings) dict.pairs)
content_text strings (content.List items) = list_text strings items
content_text strings (content.Set set) = elements_text (map (element_text strings) set.elements)
content_text strings (content.Deque deque) = list_text strings deque.items

abbrev pub world_line : ScriptParts → Declaration → Content → List ℕ
world_line script container content = line (container.name ∷ codes "=" ∷ content_text script.strings content ∷ [])

-- a line for each container in the order of declaration
abbrev pub world_text : ScriptParts → List Content → List ℕ
world_text script world = flat_map (λ shown. world_line script shown.0 shown.1) (zip script.containers world)

-- ---- the transcript

-- the entries' lines in order, and then the contents after all writes
abbrev pub transcript : ScriptParts → List Entry → List ℕ
transcript script entries =
    flat_map (entry_line script) entries ++ world_text script (world_at script entries (length (writes entries)))
