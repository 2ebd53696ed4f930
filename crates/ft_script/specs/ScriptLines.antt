-- Which script the lines of a text are, or which fault they have first. (profile)
use Rattle.std.specs.Prelude.{ℕ, ℤ, ◌+◌, ◌-◌, ◌%◌, Bool, true, false, not, ◌==◌, ◌&&◌, nat_lt, pos, int_le, List, [], ◌∷◌, ◌++◌, length, slice_get, slice_set, codes, Option, Some, None, Result, Ok, Err, if◌then◌else◌}
use Rattle.std.specs.List.{list_any}
use Rattle.std.specs.Str.{bytes_eq}
use Rattle.std.specs.Option.{is_some}
use Rattle.ft_model.specs.Limits.{heap_step, most_calls, most_containers, most_heap, most_sections, most_tables, most_threads, most_turns}
use Rattle.ft_model.specs.declared.call.Call.{Call}
use Rattle.ft_model.specs.declared.call.Call.TheVariants as call
use Rattle.ft_model.specs.declared.call.DictCall.{DictCall}
use Rattle.ft_model.specs.declared.call.DictCall.TheVariants as dict
use Rattle.ft_model.specs.declared.call.ListCall.{ListCall}
use Rattle.ft_model.specs.declared.call.ListCall.TheVariants as list
use Rattle.ft_model.specs.declared.call.SetCall.{SetCall}
use Rattle.ft_model.specs.declared.call.SetCall.TheVariants as set
use Rattle.ft_model.specs.declared.script.Kind.{Kind}
use Rattle.ft_model.specs.declared.script.Kind.TheVariants as kind
use Rattle.ft_model.specs.Names.{is_container_name, is_thread_name}
use Rattle.ft_model.specs.Classes.{least_class, greatest_class}
use Rattle.ft_script.specs.declared.call_words.CallWord.{CallWord}
use Rattle.ft_script.specs.declared.call_words.CallWord.TheVariants.{Next, Begin, End, Quiesce, Await, On}
use Rattle.ft_script.specs.declared.call_words.Operation.{Operation}
use Rattle.ft_script.specs.declared.call_words.Operation.TheVariants as of
use Rattle.ft_script.specs.Drafts.{Draft}
use Rattle.ft_script.specs.declared.fault.Fault.{Fault}
use Rattle.ft_script.specs.declared.fault.Fault.TheVariants as fault
use Rattle.ft_script.specs.declared.fault.Which.TheVariants as which
use Rattle.ft_script.specs.Awaits.{has_awaited}
use Rattle.ft_script.specs.LineWords.{natural_of}
use Rattle.ft_script.specs.CallWords.{call_word_of}
use Rattle.ft_script.specs.Lines.{words_of, is_comment, ends_thread}
use Rattle.ft_script.specs.Drafts.{◌>>=◌, or_fault, container_place, thread_place, end_thread}
use Rattle.ft_script.specs.Arguments.{read_index, read_container, kind_at, just_nothing, just_key, just_key_and_value, just_value, just_index, just_some_index, just_two_indices, just_index_and_value, just_other, just_made_cursor, just_cursor, just_section, just_awaited}

-- ---- calls

-- the calls of a dict: the word, and what stands after the container's name
unfoldable pub dict_call : Draft → Operation → List (List ℕ) → Result (DictCall × Draft) Fault
dict_call draft of.Get words = just_key draft words >>= λ read. Ok (dict.Get read.0, read.1)
dict_call draft of.GetOr words = just_key_and_value draft words >>= λ read. Ok (dict.GetOr read.0.0 read.0.1, read.1)
dict_call draft of.Set words = just_key_and_value draft words >>= λ read. Ok (dict.Set read.0.0 read.0.1, read.1)
dict_call draft of.Del words = just_key draft words >>= λ read. Ok (dict.Del read.0, read.1)
dict_call draft of.Pop words = just_key draft words >>= λ read. Ok (dict.Pop read.0, read.1)
dict_call draft of.PopOr words = just_key_and_value draft words >>= λ read. Ok (dict.PopOr read.0.0 read.0.1, read.1)
dict_call draft of.PopItem words = just_nothing words >>= λ _. Ok (dict.PopItem, draft)
dict_call draft of.SetDefault words =
    just_key_and_value draft words >>= λ read. Ok (dict.SetDefault read.0.0 read.0.1, read.1)
dict_call draft of.Has words = just_key draft words >>= λ read. Ok (dict.Has read.0, read.1)
dict_call draft of.Len words = just_nothing words >>= λ _. Ok (dict.Len, draft)
dict_call draft of.Items words = just_nothing words >>= λ _. Ok (dict.Items, draft)
dict_call draft of.Update words = just_other draft kind.Dict words >>= λ other. Ok (dict.Update other, draft)
dict_call draft of.Clear words = just_nothing words >>= λ _. Ok (dict.Clear, draft)
dict_call draft of.CopyTo words = just_other draft kind.Dict words >>= λ other. Ok (dict.CopyTo other, draft)
dict_call draft of.Eq words = just_other draft kind.Dict words >>= λ other. Ok (dict.Eq other, draft)
dict_call draft of.Iter words = just_made_cursor draft words >>= λ read. Ok (dict.Iter read.0, read.1)
dict_call draft of.Append words = Err fault.WrongKind
dict_call draft of.Insert words = Err fault.WrongKind
dict_call draft of.Remove words = Err fault.WrongKind
dict_call draft of.Index words = Err fault.WrongKind
dict_call draft of.Count words = Err fault.WrongKind
dict_call draft of.Reverse words = Err fault.WrongKind
dict_call draft of.Extend words = Err fault.WrongKind
dict_call draft of.Slice words = Err fault.WrongKind
dict_call draft of.Add words = Err fault.WrongKind
dict_call draft of.Discard words = Err fault.WrongKind
dict_call draft of.Or words = Err fault.WrongKind
dict_call draft of.And words = Err fault.WrongKind
dict_call draft of.Sub words = Err fault.WrongKind
dict_call draft of.Xor words = Err fault.WrongKind
dict_call draft of.Subset words = Err fault.WrongKind
dict_call draft of.Disjoint words = Err fault.WrongKind

-- and of a list
unfoldable pub list_call : Draft → Operation → List (List ℕ) → Result (ListCall × Draft) Fault
list_call draft of.Append words = just_value draft words >>= λ read. Ok (list.Append read.0, read.1)
list_call draft of.Insert words =
    just_index_and_value draft words >>= λ read. Ok (list.Insert read.0.0 read.0.1, read.1)
list_call draft of.Get words = just_index words >>= λ index. Ok (list.Get index, draft)
list_call draft of.Set words = just_index_and_value draft words >>= λ read. Ok (list.Set read.0.0 read.0.1, read.1)
list_call draft of.Del words = just_index words >>= λ index. Ok (list.Del index, draft)
list_call draft of.Pop words = just_some_index words >>= λ index. Ok (list.Pop index, draft)
list_call draft of.Remove words = just_value draft words >>= λ read. Ok (list.Remove read.0, read.1)
list_call draft of.Index words = just_value draft words >>= λ read. Ok (list.Index read.0, read.1)
list_call draft of.Count words = just_value draft words >>= λ read. Ok (list.Count read.0, read.1)
list_call draft of.Has words = just_value draft words >>= λ read. Ok (list.Has read.0, read.1)
list_call draft of.Reverse words = just_nothing words >>= λ _. Ok (list.Reverse, draft)
list_call draft of.Extend words = just_other draft kind.List words >>= λ other. Ok (list.Extend other, draft)
list_call draft of.Slice words = just_two_indices words >>= λ ends. Ok (list.Slice ends.0 ends.1, draft)
list_call draft of.Clear words = just_nothing words >>= λ _. Ok (list.Clear, draft)
list_call draft of.Len words = just_nothing words >>= λ _. Ok (list.Len, draft)
list_call draft of.Items words = just_nothing words >>= λ _. Ok (list.Items, draft)
list_call draft of.Eq words = just_other draft kind.List words >>= λ other. Ok (list.Eq other, draft)
list_call draft of.Iter words = just_made_cursor draft words >>= λ read. Ok (list.Iter read.0, read.1)
list_call draft of.GetOr words = Err fault.WrongKind
list_call draft of.PopOr words = Err fault.WrongKind
list_call draft of.PopItem words = Err fault.WrongKind
list_call draft of.SetDefault words = Err fault.WrongKind
list_call draft of.Update words = Err fault.WrongKind
list_call draft of.CopyTo words = Err fault.WrongKind
list_call draft of.Add words = Err fault.WrongKind
list_call draft of.Discard words = Err fault.WrongKind
list_call draft of.Or words = Err fault.WrongKind
list_call draft of.And words = Err fault.WrongKind
list_call draft of.Sub words = Err fault.WrongKind
list_call draft of.Xor words = Err fault.WrongKind
list_call draft of.Subset words = Err fault.WrongKind
list_call draft of.Disjoint words = Err fault.WrongKind

-- and of a set
unfoldable pub set_call : Draft → Operation → List (List ℕ) → Result (SetCall × Draft) Fault
set_call draft of.Add words = just_key draft words >>= λ read. Ok (set.Add read.0, read.1)
set_call draft of.Discard words = just_key draft words >>= λ read. Ok (set.Discard read.0, read.1)
set_call draft of.Remove words = just_key draft words >>= λ read. Ok (set.Remove read.0, read.1)
set_call draft of.Pop words = just_nothing words >>= λ _. Ok (set.Pop, draft)
set_call draft of.Has words = just_key draft words >>= λ read. Ok (set.Has read.0, read.1)
set_call draft of.Len words = just_nothing words >>= λ _. Ok (set.Len, draft)
set_call draft of.Items words = just_nothing words >>= λ _. Ok (set.Items, draft)
set_call draft of.Eq words = just_other draft kind.Set words >>= λ other. Ok (set.Eq other, draft)
set_call draft of.Or words = just_other draft kind.Set words >>= λ other. Ok (set.Or other, draft)
set_call draft of.And words = just_other draft kind.Set words >>= λ other. Ok (set.And other, draft)
set_call draft of.Sub words = just_other draft kind.Set words >>= λ other. Ok (set.Sub other, draft)
set_call draft of.Xor words = just_other draft kind.Set words >>= λ other. Ok (set.Xor other, draft)
set_call draft of.Subset words = just_other draft kind.Set words >>= λ other. Ok (set.Subset other, draft)
set_call draft of.Disjoint words = just_other draft kind.Set words >>= λ other. Ok (set.Disjoint other, draft)
set_call draft of.Clear words = just_nothing words >>= λ _. Ok (set.Clear, draft)
set_call draft of.Iter words = just_made_cursor draft words >>= λ read. Ok (set.Iter read.0, read.1)
set_call draft of.Get words = Err fault.WrongKind
set_call draft of.GetOr words = Err fault.WrongKind
set_call draft of.Set words = Err fault.WrongKind
set_call draft of.Del words = Err fault.WrongKind
set_call draft of.PopOr words = Err fault.WrongKind
set_call draft of.PopItem words = Err fault.WrongKind
set_call draft of.SetDefault words = Err fault.WrongKind
set_call draft of.Update words = Err fault.WrongKind
set_call draft of.CopyTo words = Err fault.WrongKind
set_call draft of.Append words = Err fault.WrongKind
set_call draft of.Insert words = Err fault.WrongKind
set_call draft of.Index words = Err fault.WrongKind
set_call draft of.Count words = Err fault.WrongKind
set_call draft of.Reverse words = Err fault.WrongKind
set_call draft of.Extend words = Err fault.WrongKind
set_call draft of.Slice words = Err fault.WrongKind

-- a call of the container at a place, which is of a kind
unfoldable pub call_at : Draft → ℕ → Operation → List (List ℕ) → Option Kind → Result (Call × Draft) Fault
call_at draft place operation words None = Err fault.Name
call_at draft place operation words (Some kind.Dict) =
    dict_call draft operation words >>= λ read. Ok (call.Dict place read.0, read.1)
call_at draft place operation words (Some kind.List) =
    list_call draft operation words >>= λ read. Ok (call.List place read.0, read.1)
call_at draft place operation words (Some kind.Set) =
    set_call draft operation words >>= λ read. Ok (call.Set place read.0, read.1)
call_at draft place operation words (Some (kind.Deque bound)) = Err fault.WrongKind

-- a call whose first argument is a container, which says what stands after it
unfoldable pub container_call : Draft → Operation → List (List ℕ) → Result (Call × Draft) Fault
container_call draft operation [] = Err fault.WordCount
container_call draft operation (name ∷ words) =
    read_container draft name >>= λ place. call_at draft place operation words (kind_at draft place)

-- the call that a word and those after it are
unfoldable pub read_call : Draft → CallWord → List (List ℕ) → Result (Call × Draft) Fault
read_call draft Next words = just_cursor draft words >>= λ cursor. Ok (call.Next cursor, draft)
read_call draft Begin words = just_section draft words >>= λ both. Ok (call.Begin both.0 both.1, draft)
read_call draft End words = just_nothing words >>= λ _. Ok (call.End, draft)
read_call draft Quiesce words = just_nothing words >>= λ _. Ok (call.Quiesce, draft)
read_call draft Await words =
    if draft.awaits then (just_awaited draft words >>= λ named. Ok (call.Await named.0 named.1, draft))
    else Err fault.UnknownWord
read_call draft (On operation) words = container_call draft operation words

-- the call that all words of a line are, and the draft after it
unfoldable pub just_call : Draft → List (List ℕ) → Result (Call × Draft) Fault
just_call draft [] = Err fault.WordCount
just_call draft (word ∷ words) = or_fault fault.UnknownWord (call_word_of word) >>= λ found. read_call draft found words

-- the open sections after a call, of which there are no more than there may be, and none where a thread awaits
unfoldable pub depth_after : ℕ → Call → Result ℕ Fault
depth_after depth (call.Begin first second) = if nat_lt depth most_sections then Ok (depth + 1) else Err fault.TooDeep
depth_after depth call.End = if depth == 0 then Err fault.EndWithoutBegin else Ok (depth - 1)
depth_after depth (call.Dict container dict_call) = Ok depth
depth_after depth (call.List container list_call) = Ok depth
depth_after depth (call.Set container set_call) = Ok depth
depth_after depth (call.Deque container deque_call) = Ok depth
depth_after depth (call.Next cursor) = Ok depth
depth_after depth call.Quiesce = Ok depth
depth_after depth (call.Await thread index) = if depth == 0 then Ok depth else Err fault.Await
depth_after depth call.Dump = Ok depth

-- a call more; what it awaits is a call of a thread that stands above
abbrev pub added_call : Draft → Call × Draft → ℕ → Result Draft Fault
added_call draft read depth =
    if has_awaited read.1.threads read.0
    then Ok (record read.1 { calls = read.1.calls ++ read.0 ∷ []; called = draft.called + 1; depth = depth })
    else Err fault.Await

-- the line of a call that isn't one too many
unfoldable pub counted_call : Draft → CallWord → List (List ℕ) → Result Draft Fault
counted_call draft word words = do
  read ← read_call draft word words
  depth ← depth_after draft.depth read.0
  added_call draft read depth

-- of a call that is one too many only an unknown word and a wrong count of words are reported before that
abbrev pub limit_fault : Fault → Fault
limit_fault fault.Encoding = fault.Limit which.Calls
limit_fault fault.UnknownWord = fault.UnknownWord
limit_fault fault.WordCount = fault.WordCount
limit_fault fault.Number = fault.Limit which.Calls
limit_fault fault.String = fault.Limit which.Calls
limit_fault fault.Name = fault.Limit which.Calls
limit_fault fault.NameTwice = fault.Limit which.Calls
limit_fault fault.WrongKind = fault.Limit which.Calls
limit_fault fault.EndWithoutBegin = fault.Limit which.Calls
limit_fault fault.BeginWithoutEnd = fault.Limit which.Calls
limit_fault fault.TooDeep = fault.Limit which.Calls
limit_fault (fault.Limit limit) = fault.Limit which.Calls
limit_fault fault.OrderName = fault.Limit which.Calls
limit_fault fault.Await = fault.Limit which.Calls

abbrev pub past_limit : Result (Call × Draft) Fault → Result Draft Fault
past_limit (Ok read) = Err (fault.Limit which.Calls)
past_limit (Err found) = Err (limit_fault found)

-- the line of a call
unfoldable pub call_line : Draft → CallWord → List (List ℕ) → Result Draft Fault
call_line draft word words =
    if nat_lt draft.called most_calls then counted_call draft word words else past_limit (read_call draft word words)

-- ---- declarations

-- `dict NAME`, `list NAME` and `set NAME`
unfoldable pub container_line : Draft → Kind → List (List ℕ) → Result Draft Fault
container_line draft kind (name ∷ []) =
    if not (is_container_name name) then Err fault.Name else (
    if is_some (container_place draft.containers name) then Err fault.NameTwice else (
    if nat_lt (length draft.containers) most_containers
    then Ok (record draft {
      containers = draft.containers ++ record { start = record { kind = kind; keys = [] }; name = name } ∷ [];
    })
    else Err (fault.Limit which.Containers)))
container_line draft kind others = Err fault.WordCount

-- the place of a class among those from 3 to 16
abbrev pub class_place : ℤ → Option ℕ
class_place n =
    if int_le (pos least_class) n && int_le n (pos greatest_class) then Some (natural_of n - least_class) else None

-- whether a line names the number of tables of the class
abbrev pub is_reported : Option (Option ℕ) → Bool
is_reported None = false
is_reported (Some count) = is_some count

unfoldable pub read_class : List ℕ → Result ℕ Fault
read_class word = read_index word >>= λ n. or_fault (fault.Limit which.Class) (class_place n)

unfoldable pub tables_at : Draft → ℕ → List ℕ → Result Draft Fault
tables_at draft place count =
    if is_reported (slice_get draft.tables place) then Err fault.NameTwice else (read_index count >>= λ n.
    if int_le (pos 1) n
    && int_le n (pos most_tables) then Ok (record draft { tables = slice_set draft.tables place (Some (natural_of n)) })
    else Err (fault.Limit which.Tables))

unfoldable pub tables_by_words : Draft → List ℕ → List ℕ → Result Draft Fault
tables_by_words draft class count = read_class class >>= λ place. tables_at draft place count

-- `tables CLASS COUNT`
unfoldable pub tables_line : Draft → List (List ℕ) → Result Draft Fault
tables_line draft (class ∷ count ∷ []) = tables_by_words draft class count
tables_line draft others = Err fault.WordCount

-- `heap COUNT`
unfoldable pub heap_line : Draft → List (List ℕ) → Result Draft Fault
heap_line draft (count ∷ []) =
    if is_some draft.heap then Err fault.NameTwice else (read_index count >>= λ n.
    if int_le (pos heap_step) n && int_le n (pos most_heap)
    && (natural_of n % heap_step == 0) then Ok (record draft { heap = Some (natural_of n) })
    else Err (fault.Limit which.Heap))
heap_line draft others = Err fault.WordCount

-- whether no line above says anything
abbrev pub is_first : Draft → Bool
is_first draft =
    not draft.awaits && (length draft.containers == 0) && not (list_any is_some draft.tables) && not (is_some draft.heap)

-- `version 2`
unfoldable pub version_line : Draft → List (List ℕ) → Result Draft Fault
version_line draft (word ∷ []) =
    if bytes_eq word (codes "2") then Ok (record draft { awaits = true }) else Err fault.Number
version_line draft others = Err fault.WordCount

-- a line that isn't a declaration: it says the version, if it is the first that says anything
unfoldable pub first_line : Draft → List ℕ → List (List ℕ) → Result Draft Fault
first_line draft word words =
    if bytes_eq word (codes "version") && is_first draft then version_line draft words else Err fault.UnknownWord

-- the lines above all threads
unfoldable pub declaration : Draft → List ℕ → List (List ℕ) → Result Draft Fault
declaration draft word words =
    if bytes_eq word (codes "dict") then container_line draft kind.Dict words else (
    if bytes_eq word (codes "list") then container_line draft kind.List words else (
    if bytes_eq word (codes "set") then container_line draft kind.Set words else (
    if bytes_eq word (codes "tables") then tables_line draft words else (
    if bytes_eq word (codes "heap") then heap_line draft words else first_line draft word words))))

-- ---- threads and their order

-- `thread NAME`
unfoldable pub thread_line : Draft → List (List ℕ) → Result Draft Fault
thread_line draft (name ∷ []) =
    if not (is_thread_name name) then Err fault.Name else (
    if is_some (thread_place draft.threads name) then Err fault.NameTwice else (
    if nat_lt (length draft.threads) most_threads then Ok (record draft { name = Some name; depth = 0 })
    else Err (fault.Limit which.Threads)))
thread_line draft others = Err fault.WordCount

-- a name of an `order` line
unfoldable pub read_turn : Draft → List ℕ → Result Draft Fault
read_turn draft name =
    if not (is_thread_name name) then Err fault.Name
    else (or_fault fault.OrderName (thread_place draft.threads name) >>= λ thread.
    if nat_lt (length draft.order) most_turns then Ok (record draft { order = draft.order ++ thread ∷ [] })
    else Err (fault.Limit which.Order))

unfoldable pub read_turns : Draft → List (List ℕ) → Result Draft Fault
read_turns draft [] = Ok draft
read_turns draft (name ∷ names) = read_turn draft name >>= λ next. read_turns next names

-- `order NAME NAME ..`
unfoldable pub order_line : Draft → List (List ℕ) → Result Draft Fault
order_line draft [] = Err fault.WordCount
order_line draft (name ∷ names) = read_turns draft (name ∷ names)

-- ---- lines

-- a line of a thread
unfoldable pub thread_statement : Draft → List ℕ → List (List ℕ) → Result Draft Fault
thread_statement draft word words =
    or_fault fault.UnknownWord (call_word_of word) >>= λ found. call_line draft found words

-- a line in a thread, where no declaration stands, or above all threads
unfoldable pub plain_statement : Draft → List ℕ → List (List ℕ) → Result Draft Fault
plain_statement draft word words =
    if is_some draft.name then thread_statement draft word words else declaration draft word words

-- a line above all `order` lines
unfoldable pub unordered_statement : Draft → List ℕ → List (List ℕ) → Result Draft Fault
unordered_statement draft word words =
    if bytes_eq word (codes "thread") then thread_line draft words else plain_statement draft word words

-- a line that isn't an `order` line, and stands after none
unfoldable pub other_statement : Draft → List ℕ → List (List ℕ) → Result Draft Fault
other_statement draft word words =
    if length draft.order == 0 then unordered_statement draft word words else Err fault.UnknownWord

-- a line by its words
unfoldable pub statement : Draft → List (List ℕ) → Result Draft Fault
statement draft [] = Ok draft
statement draft (word ∷ words) =
    if bytes_eq word (codes "order") then order_line draft words else other_statement draft word words

unfoldable pub words_line : Draft → List ℕ → Result Draft Fault
words_line draft line = or_fault fault.String (words_of line) >>= λ words. statement draft words

unfoldable pub open_line : Draft → List ℕ → Result Draft Fault
open_line draft line =
    if ends_thread line then (end_thread draft >>= λ ended. words_line ended line) else words_line draft line

-- a line: it ends the calls of the thread above it before anything else is reported, and no word is read of one whose
-- strings are broken
unfoldable pub read_line : Draft → List ℕ → Result Draft Fault
read_line draft line = if is_comment line then Ok draft else open_line draft line
