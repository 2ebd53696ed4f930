-- The form of each call as text: its word, and what stands after it.
use Rattle.std.specs.Prelude.{ℕ, ◌<◌, List, [], ◌∷◌, length, Option, Some, None, codes, ℤ}
use Rattle.ft_model.specs.declared.call.Call.{Call}
use Rattle.ft_model.specs.declared.call.Call.TheVariants as call
use Rattle.ft_model.specs.declared.call.DictCall.{DictCall}
use Rattle.ft_model.specs.declared.call.DictCall.TheVariants as dict
use Rattle.ft_model.specs.declared.call.ListCall.{ListCall}
use Rattle.ft_model.specs.declared.call.ListCall.TheVariants as list
use Rattle.ft_model.specs.declared.call.SetCall.{SetCall}
use Rattle.ft_model.specs.declared.call.SetCall.TheVariants as set
use Rattle.ft_model.specs.declared.call.DequeCall.{DequeCall}
use Rattle.ft_model.specs.declared.call.DequeCall.TheVariants as deque
use Rattle.ft_model.specs.declared.script.ScriptParts.{ScriptParts}
use Rattle.ft_model.specs.Histories.{cursors_of}
use Rattle.ft_model.specs.Scripts.{IsKeyOf, IsValueOf}
use Rattle.ft_script.specs.declared.forms.Argument.{Argument}
use Rattle.ft_script.specs.declared.forms.Argument.TheVariants as argument

-- a call's word, and what stands after it
pub record Form : Type 0 where
  pub word : List ℕ
  pub arguments : List Argument

abbrev pub form : List ℕ → List Argument → Form
form word arguments = record { word = word; arguments = arguments }

abbrev pub dict_form : Argument → DictCall → Form
dict_form this (dict.Get key) = form (codes "get") (this ∷ argument.Key key ∷ [])
dict_form this (dict.GetOr key default) = form (codes "getd") (this ∷ argument.Key key ∷ argument.Value default ∷ [])
dict_form this (dict.Set key value) = form (codes "set") (this ∷ argument.Key key ∷ argument.Value value ∷ [])
dict_form this (dict.Del key) = form (codes "del") (this ∷ argument.Key key ∷ [])
dict_form this (dict.Pop key) = form (codes "pop") (this ∷ argument.Key key ∷ [])
dict_form this (dict.PopOr key default) = form (codes "popd") (this ∷ argument.Key key ∷ argument.Value default ∷ [])
dict_form this dict.PopItem = form (codes "popitem") (this ∷ [])
dict_form this (dict.SetDefault key default) =
    form (codes "setdefault") (this ∷ argument.Key key ∷ argument.Value default ∷ [])
dict_form this (dict.Has key) = form (codes "has") (this ∷ argument.Key key ∷ [])
dict_form this dict.Len = form (codes "len") (this ∷ [])
dict_form this dict.Items = form (codes "items") (this ∷ [])
dict_form this (dict.Update other) = form (codes "update") (this ∷ argument.Container other ∷ [])
dict_form this dict.Clear = form (codes "clear") (this ∷ [])
dict_form this (dict.CopyTo other) = form (codes "copyto") (this ∷ argument.Container other ∷ [])
dict_form this (dict.Eq other) = form (codes "eq") (this ∷ argument.Container other ∷ [])
dict_form this (dict.Iter cursor) = form (codes "iter") (this ∷ argument.Cursor cursor ∷ [])
dict_form this (dict.KeysAnd other) = form (codes "keysand") (this ∷ argument.Container other ∷ [])
dict_form this (dict.KeysSub other) = form (codes "keyssub") (this ∷ argument.Container other ∷ [])
dict_form this (dict.KeysOr other) = form (codes "keysor") (this ∷ argument.Container other ∷ [])
dict_form this (dict.KeysXor other) = form (codes "keysxor") (this ∷ argument.Container other ∷ [])
dict_form this (dict.ItemsHas key value) =
    form (codes "itemshas") (this ∷ argument.Key key ∷ argument.Value value ∷ [])
dict_form this (dict.Reversed cursor) = form (codes "riter") (this ∷ argument.Cursor cursor ∷ [])

-- `pop` of a list has an index or none
abbrev pub pop_arguments : Argument → Option ℤ → List Argument
pop_arguments this None = this ∷ []
pop_arguments this (Some index) = this ∷ argument.Index index ∷ []

abbrev pub list_form : Argument → ListCall → Form
list_form this (list.Append value) = form (codes "append") (this ∷ argument.Value value ∷ [])
list_form this (list.Insert index value) =
    form (codes "insert") (this ∷ argument.Index index ∷ argument.Value value ∷ [])
list_form this (list.Get index) = form (codes "get") (this ∷ argument.Index index ∷ [])
list_form this (list.Set index value) = form (codes "set") (this ∷ argument.Index index ∷ argument.Value value ∷ [])
list_form this (list.Del index) = form (codes "del") (this ∷ argument.Index index ∷ [])
list_form this (list.Pop index) = form (codes "pop") (pop_arguments this index)
list_form this (list.Remove value) = form (codes "remove") (this ∷ argument.Value value ∷ [])
list_form this (list.Index value) = form (codes "index") (this ∷ argument.Value value ∷ [])
list_form this (list.Count value) = form (codes "count") (this ∷ argument.Value value ∷ [])
list_form this (list.Has value) = form (codes "has") (this ∷ argument.Value value ∷ [])
list_form this list.Reverse = form (codes "reverse") (this ∷ [])
list_form this (list.Extend other) = form (codes "extend") (this ∷ argument.Container other ∷ [])
list_form this (list.Slice start end) = form (codes "slice") (this ∷ argument.Index start ∷ argument.Index end ∷ [])
list_form this list.Clear = form (codes "clear") (this ∷ [])
list_form this list.Len = form (codes "len") (this ∷ [])
list_form this list.Items = form (codes "items") (this ∷ [])
list_form this (list.Eq other) = form (codes "eq") (this ∷ argument.Container other ∷ [])
list_form this (list.Iter cursor) = form (codes "iter") (this ∷ argument.Cursor cursor ∷ [])
list_form this (list.Reversed cursor) = form (codes "riter") (this ∷ argument.Cursor cursor ∷ [])

abbrev pub set_form : Argument → SetCall → Form
set_form this (set.Add key) = form (codes "add") (this ∷ argument.Key key ∷ [])
set_form this (set.Discard key) = form (codes "discard") (this ∷ argument.Key key ∷ [])
set_form this (set.Remove key) = form (codes "remove") (this ∷ argument.Key key ∷ [])
set_form this set.Pop = form (codes "pop") (this ∷ [])
set_form this (set.Has key) = form (codes "has") (this ∷ argument.Key key ∷ [])
set_form this set.Len = form (codes "len") (this ∷ [])
set_form this set.Items = form (codes "items") (this ∷ [])
set_form this (set.Eq other) = form (codes "eq") (this ∷ argument.Container other ∷ [])
set_form this (set.Or other) = form (codes "or") (this ∷ argument.Container other ∷ [])
set_form this (set.And other) = form (codes "and") (this ∷ argument.Container other ∷ [])
set_form this (set.Sub other) = form (codes "sub") (this ∷ argument.Container other ∷ [])
set_form this (set.Xor other) = form (codes "xor") (this ∷ argument.Container other ∷ [])
set_form this (set.Subset other) = form (codes "subset") (this ∷ argument.Container other ∷ [])
set_form this (set.Disjoint other) = form (codes "disjoint") (this ∷ argument.Container other ∷ [])
set_form this set.Clear = form (codes "clear") (this ∷ [])
set_form this (set.Iter cursor) = form (codes "iter") (this ∷ argument.Cursor cursor ∷ [])

abbrev pub deque_form : Argument → DequeCall → Form
deque_form this (deque.Append value) = form (codes "append") (this ∷ argument.Value value ∷ [])
deque_form this (deque.AppendLeft value) = form (codes "appendleft") (this ∷ argument.Value value ∷ [])
deque_form this deque.Pop = form (codes "pop") (this ∷ [])
deque_form this deque.PopLeft = form (codes "popleft") (this ∷ [])
deque_form this (deque.Extend other) = form (codes "extend") (this ∷ argument.Container other ∷ [])
deque_form this (deque.ExtendLeft other) = form (codes "extendleft") (this ∷ argument.Container other ∷ [])
deque_form this (deque.Rotate steps) = form (codes "rotate") (this ∷ argument.Index steps ∷ [])
deque_form this deque.Clear = form (codes "clear") (this ∷ [])
deque_form this (deque.Get index) = form (codes "get") (this ∷ argument.Index index ∷ [])
deque_form this deque.Len = form (codes "len") (this ∷ [])
deque_form this deque.Items = form (codes "items") (this ∷ [])
deque_form this (deque.Has value) = form (codes "has") (this ∷ argument.Value value ∷ [])
deque_form this (deque.Iter cursor) = form (codes "iter") (this ∷ argument.Cursor cursor ∷ [])

abbrev pub begin_arguments : ℕ → Option ℕ → List Argument
begin_arguments first None = argument.Container first ∷ []
begin_arguments first (Some second) = argument.Container first ∷ argument.Container second ∷ []

abbrev pub call_form : Call → Form
call_form (call.Dict container dict_call) = dict_form (argument.Container container) dict_call
call_form (call.List container list_call) = list_form (argument.Container container) list_call
call_form (call.Set container set_call) = set_form (argument.Container container) set_call
call_form (call.Deque container deque_call) = deque_form (argument.Container container) deque_call
call_form (call.Next cursor) = form (codes "next") (argument.Cursor cursor ∷ [])
call_form (call.Begin first second) = form (codes "begin") (begin_arguments first second)
call_form call.End = form (codes "end") []
call_form call.Quiesce = form (codes "quiesce") []
call_form (call.Await thread index) = form (codes "await") (argument.Call thread index ∷ [])
call_form call.Dump = form (codes "dump") []

-- what stands after a thread's call is the script's
abbrev pub IsArgumentOf : ScriptParts → ℕ → Argument → Type 0
IsArgumentOf script thread (argument.Container place) = place < length script.containers
IsArgumentOf script thread (argument.Cursor number) = number < cursors_of script thread
IsArgumentOf script thread (argument.Key key) = IsKeyOf (length script.strings) key
IsArgumentOf script thread (argument.Value value) = IsValueOf (length script.strings) value
IsArgumentOf script thread (argument.Index index) = Unit {0}
IsArgumentOf script thread (argument.Call other index) = Unit {0}
