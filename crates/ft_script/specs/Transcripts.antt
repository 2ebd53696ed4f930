-- Which bytes are a transcript of a script, and which line is the first that is none. (profile)
use Rattle.std.specs.Prelude.{◌≡◌, ◌≢◌, ℕ, pos, ◌+◌, ◌-◌, ◌^◌, ◌<◌, ◌≤◌, min, Bool, true, false, List, [], ◌∷◌, ◌++◌, length, All, codes}
use Rattle.std.specs.List.{flat_map, AllByRecursion}
use Rattle.ft_model.specs.declared.data.Key.{Key}
use Rattle.ft_model.specs.declared.data.Key.TheVariants as key
use Rattle.ft_model.specs.declared.data.Value.{Value}
use Rattle.ft_model.specs.declared.data.Value.TheVariants as value
use Rattle.ft_model.specs.declared.call.Call.{Call}
use Rattle.ft_model.specs.declared.call.Call.TheVariants as call
use Rattle.ft_model.specs.declared.call.DictCall.{DictCall}
use Rattle.ft_model.specs.declared.call.DictCall.TheVariants as dict
use Rattle.ft_model.specs.declared.call.ListCall.{ListCall}
use Rattle.ft_model.specs.declared.call.ListCall.TheVariants as list
use Rattle.ft_model.specs.declared.call.SetCall.{SetCall}
use Rattle.ft_model.specs.declared.call.SetCall.TheVariants as set
use Rattle.ft_model.specs.declared.call.DequeCall.{DequeCall}
use Rattle.ft_model.specs.declared.call.DequeCall.TheVariants as deque
use Rattle.ft_model.specs.declared.entry.Entry.{Entry}
use Rattle.ft_model.specs.declared.reply.Reply.{Reply}
use Rattle.ft_model.specs.declared.reply.Reply.TheVariants as reply
use Rattle.ft_model.specs.declared.reply.Raise.TheVariants as raise
use Rattle.ft_model.specs.declared.script.ScriptParts.{ScriptParts}
use Rattle.ft_model.specs.Landed.{is_landed_call}
use Rattle.ft_model.specs.Parts.{IsEntryOf, IsReplyOf}
use Rattle.ft_model.specs.Classes.{least_class, greatest_class}
use Rattle.ft_script.specs.Awaits.{MayAwait, has_awaits}
use Rattle.ft_script.specs.declared.forms.Argument.{Argument}
use Rattle.ft_script.specs.declared.forms.Argument.TheVariants as argument
use Rattle.ft_script.specs.Forms.{call_form}
use Rattle.ft_script.specs.Texts.{container_name, reply_text, entry_line, line}
use Rattle.ft_script.specs.LineWords.{is_wide}

-- ---- entries

-- the calls of a dict whose reply is a count, and of a list, of a set, of a deque
abbrev pub counts_dict : DictCall → Bool
counts_dict (dict.Get key) = false
counts_dict (dict.GetOr key default) = false
counts_dict (dict.Set key value) = false
counts_dict (dict.Del key) = false
counts_dict (dict.Pop key) = false
counts_dict (dict.PopOr key default) = false
counts_dict dict.PopItem = false
counts_dict (dict.SetDefault key default) = false
counts_dict (dict.Has key) = false
counts_dict dict.Len = true
counts_dict dict.Items = false
counts_dict (dict.Update other) = false
counts_dict dict.Clear = false
counts_dict (dict.CopyTo other) = false
counts_dict (dict.Eq other) = false
counts_dict (dict.Iter cursor) = false
counts_dict (dict.KeysAnd other) = false
counts_dict (dict.KeysSub other) = false
counts_dict (dict.KeysOr other) = false
counts_dict (dict.KeysXor other) = false
counts_dict (dict.ItemsHas key value) = false
counts_dict (dict.Reversed cursor) = false

abbrev pub counts_list : ListCall → Bool
counts_list (list.Append value) = false
counts_list (list.Insert index value) = false
counts_list (list.Get index) = false
counts_list (list.Set index value) = false
counts_list (list.Del index) = false
counts_list (list.Pop index) = false
counts_list (list.Remove value) = false
counts_list (list.Index value) = true
counts_list (list.Count value) = true
counts_list (list.Has value) = false
counts_list list.Reverse = false
counts_list (list.Extend other) = false
counts_list (list.Slice start end) = false
counts_list list.Clear = false
counts_list list.Len = true
counts_list list.Items = false
counts_list (list.Eq other) = false
counts_list (list.Iter cursor) = false
counts_list (list.Reversed cursor) = false

abbrev pub counts_set : SetCall → Bool
counts_set (set.Add key) = false
counts_set (set.Discard key) = false
counts_set (set.Remove key) = false
counts_set set.Pop = false
counts_set (set.Has key) = false
counts_set set.Len = true
counts_set set.Items = false
counts_set (set.Eq other) = false
counts_set (set.Or other) = false
counts_set (set.And other) = false
counts_set (set.Sub other) = false
counts_set (set.Xor other) = false
counts_set (set.Subset other) = false
counts_set (set.Disjoint other) = false
counts_set set.Clear = false
counts_set (set.Iter cursor) = false

abbrev pub counts_deque : DequeCall → Bool
counts_deque (deque.Append value) = false
counts_deque (deque.AppendLeft value) = false
counts_deque deque.Pop = false
counts_deque deque.PopLeft = false
counts_deque (deque.Extend other) = false
counts_deque (deque.ExtendLeft other) = false
counts_deque (deque.Rotate steps) = false
counts_deque deque.Clear = false
counts_deque (deque.Get index) = false
counts_deque deque.Len = true
counts_deque deque.Items = false
counts_deque (deque.Has value) = false
counts_deque (deque.Iter cursor) = false

-- the calls whose reply is a count
abbrev pub counts : Call → Bool
counts (call.Dict place dict_call) = counts_dict dict_call
counts (call.List place list_call) = counts_list list_call
counts (call.Set place set_call) = counts_set set_call
counts (call.Deque place deque_call) = counts_deque deque_call
counts (call.Next cursor) = false
counts (call.Begin first second) = false
counts call.End = false
counts call.Quiesce = false
counts (call.Await thread index) = false
counts call.Dump = false

-- an integer stands for a count where the call counts and it isn't negative, and else for a value; a count, too, is
-- within 64 signed bits; MemoryError has a class from 3 to 16; no line is read that shows all containers, nor one that
-- says that a deque was changed
abbrev pub IsReadableReply : Bool → Reply → Type 0
IsReadableReply counted (reply.Count count) = (counted ≡ true) × (count < 2 ^ 63)
IsReadableReply counted (reply.Value (value.Int n)) = (count : ℕ) → n ≡ pos count → counted ≡ false
IsReadableReply counted (reply.Raised (raise.Memory class)) = (least_class ≤ class) × (class ≤ greatest_class)
IsReadableReply counted (reply.Raised raise.Moved) = ⊥
IsReadableReply counted (reply.World world) = ⊥
IsReadableReply counted other = Unit {0}

-- an integer of 64 bits, if it is one
abbrev pub IsWideKey : Key → Type 0
IsWideKey (key.Int n) = is_wide n ≡ true
IsWideKey (key.Text symbol) = Unit {0}

abbrev pub IsWideValue : Value → Type 0
IsWideValue value.Nothing = Unit {0}
IsWideValue (value.Int n) = is_wide n ≡ true
IsWideValue (value.Text symbol) = Unit {0}

-- each number that stands after a call's word
abbrev pub IsWideArgument : Argument → Type 0
IsWideArgument (argument.Container place) = Unit {0}
IsWideArgument (argument.Cursor number) = Unit {0}
IsWideArgument (argument.Key found) = IsWideKey found
IsWideArgument (argument.Value found) = IsWideValue found
IsWideArgument (argument.Index n) = is_wide n ≡ true
IsWideArgument (argument.Call other index) = index < 2 ^ 32

-- each integer of a call is of 64 bits, and an index that it awaits below 2^32
abbrev pub IsWideCall : Call → Type 0
IsWideCall called = AllByRecursion IsWideArgument (call_form called).arguments

-- each integer of a reply is of 64 bits, and the number after `suspended` below 2^32
abbrev pub IsWideReply : Reply → Type 0
IsWideReply (reply.Value found) = IsWideValue found
IsWideReply (reply.Pair first second) = IsWideKey first × IsWideValue second
IsWideReply (reply.Dict pairs) = All (λ pair. IsWideKey pair.0 × IsWideValue pair.1) pairs
IsWideReply (reply.List items) = All IsWideValue items
IsWideReply (reply.Set elements) = All IsWideKey elements
IsWideReply (reply.Suspended count) = count < 2 ^ 32
IsWideReply other = Unit {0}

-- an entry that a line can have: it names what the script has, its call is one that a script may have and numbered from
-- 1, an `await` only where the script has one, and no number is too great
pub record IsReadable (script : ScriptParts) (entry : Entry) : Type 0 where
  pub of_script : IsEntryOf script entry
  pub first_index : 1 ≤ entry.index
  pub last_index : entry.index < 2 ^ 32
  pub stamp : entry.stamp < 2 ^ 64
  pub landed : is_landed_call entry.call ≡ true
  pub awaited : MayAwait (has_awaits script.threads) (length script.threads) entry.call
  pub call : IsWideCall entry.call
  pub reply : IsReadableReply (counts entry.call) entry.reply
  pub said : IsWideReply entry.reply

-- ---- contents

-- what a container of any kind has
abbrev pub IsContentReply : Reply → Type 0
IsContentReply (reply.Dict pairs) = Unit {0}
IsContentReply (reply.List items) = Unit {0}
IsContentReply (reply.Set elements) = Unit {0}
IsContentReply other = ⊥

-- the line of a container and a content
abbrev pub content_line : ScriptParts → ℕ → Reply → List ℕ
content_line script container content =
    line (container_name script container ∷ codes "=" ∷ reply_text script content ∷ [])

-- the line of a content, without its line feed: the name of a container, and the text of a container of any kind
pub record IsContentLine (script : ScriptParts) (text : List ℕ) : Type 0 where
  pub container : ℕ
  pub declared : container < length script.containers
  pub content : Reply
  pub whole : IsContentReply content
  pub of_script : IsReplyOf (length script.strings) content
  pub wide : IsWideReply content
  pub written : text ++ 10 ∷ [] ≡ content_line script container content

-- ---- transcripts

-- some lines, each with its line feed
abbrev pub fed : List (List ℕ) → List ℕ
fed lines = flat_map (λ text. text ++ 10 ∷ []) lines

-- the bytes are the lines of these entries, and then these lines of contents
pub record IsTranscript (script : ScriptParts) (bytes : List ℕ) (entries : List Entry)
    (world : List (List ℕ)) : Type 0 where
  pub entries_read : All (IsReadable script) entries
  pub world_read : All (IsContentLine script) world
  pub written : bytes ≡ flat_map (entry_line script) entries ++ fed world

-- the first line that is none: the lines before it are a transcript, and what is left begins neither with the line of
-- an entry, where no line of a content stands above, nor with the line of a content; numbers of lines stand still at
-- the greatest of 32 bits
pub record IsFirstBad (script : ScriptParts) (bytes : List ℕ) (number : ℕ) : Type 0 where
  pub entries : List Entry
  pub world : List (List ℕ)
  pub front : List ℕ
  pub rest : List ℕ
  pub parts : bytes ≡ front ++ rest
  pub before : IsTranscript script front entries world
  pub left : rest ≢ []
  pub no_entry : world ≡ [] → (entry : Entry) (more : List ℕ) → IsReadable script entry
      → rest ≢ entry_line script entry ++ more
  pub no_content : (text more : List ℕ) → IsContentLine script text → rest ≢ text ++ 10 ∷ more
  pub counted : number ≡ min (length entries + length world + 1) (2 ^ 32 - 1)
