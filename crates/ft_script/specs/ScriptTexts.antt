-- The text of a script, which scripts have one, and what the lines of a text say. (profile)
use Rattle.std.specs.Prelude.{◌≡◌, ◌⊎◌, ℕ, ◌+◌, ◌<◌, Bool, true, false, List, [], ◌∷◌, ◌++◌, length, map, All, codes, Option, option_map, Some, None, if◌then◌else◌}
use Rattle.std.specs.List.{flat_map}
use Rattle.std.specs.Fmt.{decimal}
use Rattle.ft_model.specs.declared.data.Key.{Key}
use Rattle.ft_model.specs.declared.data.Key.TheVariants as key
use Rattle.ft_model.specs.declared.data.Value.{Value}
use Rattle.ft_model.specs.declared.data.Value.TheVariants as value
use Rattle.ft_model.specs.declared.call.Call.{Call}
use Rattle.ft_model.specs.declared.script.Declaration.{Declaration}
use Rattle.ft_model.specs.declared.script.Kind.{Kind}
use Rattle.ft_model.specs.declared.script.Kind.TheVariants as kind
use Rattle.ft_model.specs.declared.script.Thread.{Thread}
use Rattle.ft_model.specs.declared.script.ScriptParts.{ScriptParts}
use Rattle.ft_model.specs.Classes.{least_class}
use Rattle.ft_model.specs.Scripts.{IsScript, cursor_of}
use Rattle.ft_script.specs.Awaits.{has_awaits}
use Rattle.ft_script.specs.declared.forms.Argument.{Argument}
use Rattle.ft_script.specs.declared.forms.Argument.TheVariants as argument
use Rattle.ft_script.specs.Forms.{call_form}
use Rattle.ft_script.specs.Lines.{is_comment, lines_of, words_of}
use Rattle.ft_script.specs.Texts.{call_words, line, thread_name}
use Rattle.ft_script.specs.Transcripts.{IsWideCall}

-- ---- the text of a script

abbrev pub kind_word : Kind → List ℕ
kind_word kind.Dict = codes "dict"
kind_word kind.List = codes "list"
kind_word kind.Set = codes "set"
kind_word (kind.Deque bound) = codes "deque"

-- the line of the version, where a thread awaits another
abbrev pub version_lines : Bool → List (List (List ℕ))
version_lines false = []
version_lines true = (codes "version" ∷ codes "2" ∷ []) ∷ []

-- the words of a container's line
abbrev pub container_words : Declaration → List (List ℕ)
container_words container = kind_word container.start.kind ∷ container.name ∷ []

-- a line for each class from this one on, with its number of tables
abbrev pub tables_lines : ℕ → List ℕ → List (List (List ℕ))
tables_lines class [] = []
tables_lines class (count ∷ counts) =
    (codes "tables" ∷ decimal class ∷ decimal count ∷ []) ∷ tables_lines (class + 1) counts

-- the line of the thread at a place, and a line for each of its calls
abbrev pub thread_lines : ScriptParts → ℕ → Thread → List (List (List ℕ))
thread_lines script place thread = (codes "thread" ∷ thread.name ∷ []) ∷ map (call_words script place) thread.calls

-- the lines of all threads from a place on
abbrev pub threads_lines : ScriptParts → ℕ → List Thread → List (List (List ℕ))
threads_lines script place [] = []
threads_lines script place (thread ∷ threads) =
    thread_lines script place thread ++ threads_lines script (place + 1) threads

-- one line with the threads in whose order calls come, where there are any
abbrev pub order_lines : ScriptParts → List ℕ → List (List (List ℕ))
order_lines script [] = []
order_lines script (turn ∷ turns) = (codes "order" ∷ map (thread_name script) (turn ∷ turns)) ∷ []

-- the words of all lines: the version, the containers, the numbers of tables and of places in each heap, the threads,
-- the order
abbrev pub script_lines : ScriptParts → List (List (List ℕ))
script_lines script =
    version_lines (has_awaits script.threads)
    ++ (map container_words script.containers ++ (tables_lines least_class script.tables
    ++ (codes "heap" ∷ decimal script.heap ∷ []) ∷ (threads_lines script 0 script.threads
    ++ order_lines script script.order)))

abbrev pub script_text : ScriptParts → List ℕ
script_text script = flat_map line (script_lines script)

-- ---- the scripts that have a text

-- the strings that a key, a value, and what stands after a call's word mention, by their numbers
abbrev pub key_mentions : Key → List ℕ
key_mentions (key.Int n) = []
key_mentions (key.Text symbol) = symbol.0 ∷ []

abbrev pub value_mentions : Value → List ℕ
value_mentions value.Nothing = []
value_mentions (value.Int n) = []
value_mentions (value.Text symbol) = symbol.0 ∷ []

abbrev pub argument_mentions : Argument → List ℕ
argument_mentions (argument.Container place) = []
argument_mentions (argument.Cursor number) = []
argument_mentions (argument.Key found) = key_mentions found
argument_mentions (argument.Value found) = value_mentions found
argument_mentions (argument.Index n) = []
argument_mentions (argument.Call other index) = []

-- the strings that a call mentions, in the order of its words
abbrev pub call_mentions : Call → List ℕ
call_mentions called = flat_map argument_mentions (call_form called).arguments

abbrev pub thread_mentions : Thread → List ℕ
thread_mentions thread = flat_map call_mentions thread.calls

abbrev pub number_listed : Option ℕ → List ℕ
number_listed None = []
number_listed (Some number) = number ∷ []

-- the cursor that a call makes, if it makes one
abbrev pub call_makes : Call → List ℕ
call_makes called = number_listed (cursor_of called)

-- where this many are known, each of these numbers is one of them, or new and the next, and in the end all are known
abbrev pub AreNumbered : ℕ → List ℕ → ℕ → Type 0
AreNumbered known [] all = known ≡ all
AreNumbered known (number ∷ numbers) all =
    ((number < known) × AreNumbered known numbers all)
    ⊎ ((number ≡ known) × AreNumbered (known + 1) numbers all)

-- a thread has the cursors that its calls make, numbered in the order in which they are first made
abbrev pub HasMadeCursors : Thread → Type 0
HasMadeCursors thread = AreNumbered 0 (flat_map call_makes thread.calls) (length thread.cursors)

-- a script that a text can be: it has the strings that its calls mention, numbered in the order in which they are first
-- mentioned, and each thread has the cursors that it makes; each integer is of 64 bits; no line says that keys are shared
pub record HasText (script : ScriptParts) : Type 0 where
  pub rule : IsScript script
  pub wide : All (λ thread. All IsWideCall thread.calls) script.threads
  pub shared : script.shared ≡ []
  pub mentioned : AreNumbered 0 (flat_map thread_mentions script.threads) (length script.strings)
  pub made : All HasMadeCursors script.threads

-- ---- what the lines of a text say

-- a line says nothing: a comment, or one without words
abbrev pub SaysNothing : List ℕ → Type 0
SaysNothing text = (is_comment text ≡ true) ⊎ (words_of text ≡ Some [])

-- the words of a line before those of others, where it has some
abbrev pub with_words : List (List ℕ) → List (List (List ℕ)) → List (List (List ℕ))
with_words [] others = others
with_words (word ∷ words) others = (word ∷ words) ∷ others

-- the words of each line that says something; none where the words of a line can't be told
unfoldable pub said_by : List (List ℕ) → Option (List (List (List ℕ)))
said_by [] = Some []
said_by (first ∷ lines) =
    if is_comment first then said_by lines
    else (elim (words_of first) [ None ↦ None | Some words ↦ option_map (with_words words) (said_by lines) ])

abbrev pub said_in : List ℕ → Option (List (List (List ℕ)))
said_in text = said_by (lines_of text)
