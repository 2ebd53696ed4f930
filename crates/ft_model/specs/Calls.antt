-- What is known of a call before it is made: whether its kind changes a container, which containers it names, how many
-- locks it takes, and what it does to tables.
use Rattle.std.specs.Prelude.{ℕ, Bool, true, false, List, [], ◌∷◌, length, Option, Some, None, ◌==◌, if◌then◌else◌}
use Rattle.ft_model.specs.declared.call.Call.{Call}
use Rattle.ft_model.specs.declared.call.Call.TheVariants as call
use Rattle.ft_model.specs.declared.call.Containers.{Containers}
use Rattle.ft_model.specs.declared.call.Containers.TheVariants as named
use Rattle.ft_model.specs.declared.call.DictCall.{DictCall}
use Rattle.ft_model.specs.declared.call.DictCall.TheVariants as dict
use Rattle.ft_model.specs.declared.call.ListCall.{ListCall}
use Rattle.ft_model.specs.declared.call.ListCall.TheVariants as list
use Rattle.ft_model.specs.declared.call.SetCall.{SetCall}
use Rattle.ft_model.specs.declared.call.SetCall.TheVariants as set
use Rattle.ft_model.specs.declared.call.DequeCall.{DequeCall}
use Rattle.ft_model.specs.declared.call.DequeCall.TheVariants as deque
use Rattle.ft_model.specs.declared.call.TableChange.{TableChange}
use Rattle.ft_model.specs.declared.call.TableChange.TheVariants as change

-- ---- changing kinds

-- whether a call is of a kind that changes a dict (Python manual, Mapping Types)
abbrev pub is_changing_dict : DictCall → Bool
is_changing_dict (dict.Get key) = false
is_changing_dict (dict.GetOr key default) = false
is_changing_dict (dict.Set key value) = true
is_changing_dict (dict.Del key) = true
is_changing_dict (dict.Pop key) = true
is_changing_dict (dict.PopOr key default) = true
is_changing_dict dict.PopItem = true
is_changing_dict (dict.SetDefault key default) = true
is_changing_dict (dict.Has key) = false
is_changing_dict dict.Len = false
is_changing_dict dict.Items = false
is_changing_dict (dict.Update other) = true
is_changing_dict dict.Clear = true
is_changing_dict (dict.CopyTo other) = true
is_changing_dict (dict.Eq other) = false
is_changing_dict (dict.Iter cursor) = false
is_changing_dict (dict.KeysAnd other) = false
is_changing_dict (dict.KeysSub other) = false
is_changing_dict (dict.KeysOr other) = false
is_changing_dict (dict.KeysXor other) = false
is_changing_dict (dict.ItemsHas key value) = false
is_changing_dict (dict.Reversed cursor) = false

-- whether a call is of a kind that changes a list (Python manual, Mutable Sequence Types)
abbrev pub is_changing_list : ListCall → Bool
is_changing_list (list.Append value) = true
is_changing_list (list.Insert index value) = true
is_changing_list (list.Get index) = false
is_changing_list (list.Set index value) = true
is_changing_list (list.Del index) = true
is_changing_list (list.Pop index) = true
is_changing_list (list.Remove value) = true
is_changing_list (list.Index value) = false
is_changing_list (list.Count value) = false
is_changing_list (list.Has value) = false
is_changing_list list.Reverse = true
is_changing_list (list.Extend other) = true
is_changing_list (list.Slice start end) = false
is_changing_list list.Clear = true
is_changing_list list.Len = false
is_changing_list list.Items = false
is_changing_list (list.Eq other) = false
is_changing_list (list.Iter cursor) = false
is_changing_list (list.Reversed cursor) = false

-- whether a call is of a kind that changes a set (Python manual, Set Types)
abbrev pub is_changing_set : SetCall → Bool
is_changing_set (set.Add key) = true
is_changing_set (set.Discard key) = true
is_changing_set (set.Remove key) = true
is_changing_set set.Pop = true
is_changing_set (set.Has key) = false
is_changing_set set.Len = false
is_changing_set set.Items = false
is_changing_set (set.Eq other) = false
is_changing_set (set.Or other) = true
is_changing_set (set.And other) = true
is_changing_set (set.Sub other) = true
is_changing_set (set.Xor other) = true
is_changing_set (set.Subset other) = false
is_changing_set (set.Disjoint other) = false
is_changing_set set.Clear = true
is_changing_set (set.Iter cursor) = false

-- whether a call is of a kind that changes a deque (Python manual, collections.deque)
abbrev pub is_changing_deque : DequeCall → Bool
is_changing_deque (deque.Append value) = true
is_changing_deque (deque.AppendLeft value) = true
is_changing_deque deque.Pop = true
is_changing_deque deque.PopLeft = true
is_changing_deque (deque.Extend other) = true
is_changing_deque (deque.ExtendLeft other) = true
is_changing_deque (deque.Rotate steps) = true
is_changing_deque deque.Clear = true
is_changing_deque (deque.Get index) = false
is_changing_deque deque.Len = false
is_changing_deque deque.Items = false
is_changing_deque (deque.Has value) = false
is_changing_deque (deque.Iter cursor) = false

-- whether a call is of a kind that changes a container (profile)
abbrev pub is_changing : Call → Bool
is_changing (call.Dict container dict_call) = is_changing_dict dict_call
is_changing (call.List container list_call) = is_changing_list list_call
is_changing (call.Set container set_call) = is_changing_set set_call
is_changing (call.Deque container deque_call) = is_changing_deque deque_call
is_changing (call.Next cursor) = false
is_changing (call.Begin first second) = false
is_changing call.End = false
is_changing call.Quiesce = false
is_changing (call.Await thread index) = false
is_changing call.Dump = false

-- ---- containers

-- the other container that a call of a dict names
abbrev pub other_dict : DictCall → Option ℕ
other_dict (dict.Get key) = None
other_dict (dict.GetOr key default) = None
other_dict (dict.Set key value) = None
other_dict (dict.Del key) = None
other_dict (dict.Pop key) = None
other_dict (dict.PopOr key default) = None
other_dict dict.PopItem = None
other_dict (dict.SetDefault key default) = None
other_dict (dict.Has key) = None
other_dict dict.Len = None
other_dict dict.Items = None
other_dict (dict.Update other) = Some other
other_dict dict.Clear = None
other_dict (dict.CopyTo other) = Some other
other_dict (dict.Eq other) = Some other
other_dict (dict.Iter cursor) = None
other_dict (dict.KeysAnd other) = Some other
other_dict (dict.KeysSub other) = Some other
other_dict (dict.KeysOr other) = Some other
other_dict (dict.KeysXor other) = Some other
other_dict (dict.ItemsHas key value) = None
other_dict (dict.Reversed cursor) = None

-- the other container that a call of a list names
abbrev pub other_list : ListCall → Option ℕ
other_list (list.Append value) = None
other_list (list.Insert index value) = None
other_list (list.Get index) = None
other_list (list.Set index value) = None
other_list (list.Del index) = None
other_list (list.Pop index) = None
other_list (list.Remove value) = None
other_list (list.Index value) = None
other_list (list.Count value) = None
other_list (list.Has value) = None
other_list list.Reverse = None
other_list (list.Extend other) = Some other
other_list (list.Slice start end) = None
other_list list.Clear = None
other_list list.Len = None
other_list list.Items = None
other_list (list.Eq other) = Some other
other_list (list.Iter cursor) = None
other_list (list.Reversed cursor) = None

-- the other container that a call of a set names
abbrev pub other_set : SetCall → Option ℕ
other_set (set.Add key) = None
other_set (set.Discard key) = None
other_set (set.Remove key) = None
other_set set.Pop = None
other_set (set.Has key) = None
other_set set.Len = None
other_set set.Items = None
other_set (set.Eq other) = Some other
other_set (set.Or other) = Some other
other_set (set.And other) = Some other
other_set (set.Sub other) = Some other
other_set (set.Xor other) = Some other
other_set (set.Subset other) = Some other
other_set (set.Disjoint other) = Some other
other_set set.Clear = None
other_set (set.Iter cursor) = None

-- the other container that a call of a deque names
abbrev pub other_deque : DequeCall → Option ℕ
other_deque (deque.Append value) = None
other_deque (deque.AppendLeft value) = None
other_deque deque.Pop = None
other_deque deque.PopLeft = None
other_deque (deque.Extend other) = Some other
other_deque (deque.ExtendLeft other) = Some other
other_deque (deque.Rotate steps) = None
other_deque deque.Clear = None
other_deque (deque.Get index) = None
other_deque deque.Len = None
other_deque deque.Items = None
other_deque (deque.Has value) = None
other_deque (deque.Iter cursor) = None

-- one container or two; two equal ones count as one (C API, critical sections)
abbrev pub one_or_two : ℕ → Option ℕ → List ℕ
one_or_two first None = first ∷ []
one_or_two first (Some second) = if first == second then first ∷ [] else first ∷ second ∷ []

-- the containers that a call names; a `next` names a cursor and no container, and a dump names none
abbrev pub containers_of : Call → List ℕ
containers_of (call.Dict container dict_call) = one_or_two container (other_dict dict_call)
containers_of (call.List container list_call) = one_or_two container (other_list list_call)
containers_of (call.Set container set_call) = one_or_two container (other_set set_call)
containers_of (call.Deque container deque_call) = one_or_two container (other_deque deque_call)
containers_of (call.Next cursor) = []
containers_of (call.Begin first second) = one_or_two first second
containers_of call.End = []
containers_of call.Quiesce = []
containers_of (call.Await thread index) = []
containers_of call.Dump = []

-- those containers as a list
abbrev pub container_list : Containers → List ℕ
container_list named.None = []
container_list (named.One first) = first ∷ []
container_list (named.Two first second) = first ∷ second ∷ []

-- ---- cursors

-- the cursor that a call makes, if it makes one (Python manual, Iterator Types)
abbrev pub cursor_of_dict : DictCall → Option ℕ
cursor_of_dict (dict.Get key) = None
cursor_of_dict (dict.GetOr key default) = None
cursor_of_dict (dict.Set key value) = None
cursor_of_dict (dict.Del key) = None
cursor_of_dict (dict.Pop key) = None
cursor_of_dict (dict.PopOr key default) = None
cursor_of_dict dict.PopItem = None
cursor_of_dict (dict.SetDefault key default) = None
cursor_of_dict (dict.Has key) = None
cursor_of_dict dict.Len = None
cursor_of_dict dict.Items = None
cursor_of_dict (dict.Update other) = None
cursor_of_dict dict.Clear = None
cursor_of_dict (dict.CopyTo other) = None
cursor_of_dict (dict.Eq other) = None
cursor_of_dict (dict.Iter cursor) = Some cursor
cursor_of_dict (dict.KeysAnd other) = None
cursor_of_dict (dict.KeysSub other) = None
cursor_of_dict (dict.KeysOr other) = None
cursor_of_dict (dict.KeysXor other) = None
cursor_of_dict (dict.ItemsHas key value) = None
cursor_of_dict (dict.Reversed cursor) = Some cursor

abbrev pub cursor_of_list : ListCall → Option ℕ
cursor_of_list (list.Append value) = None
cursor_of_list (list.Insert index value) = None
cursor_of_list (list.Get index) = None
cursor_of_list (list.Set index value) = None
cursor_of_list (list.Del index) = None
cursor_of_list (list.Pop index) = None
cursor_of_list (list.Remove value) = None
cursor_of_list (list.Index value) = None
cursor_of_list (list.Count value) = None
cursor_of_list (list.Has value) = None
cursor_of_list list.Reverse = None
cursor_of_list (list.Extend other) = None
cursor_of_list (list.Slice start end) = None
cursor_of_list list.Clear = None
cursor_of_list list.Len = None
cursor_of_list list.Items = None
cursor_of_list (list.Eq other) = None
cursor_of_list (list.Iter cursor) = Some cursor
cursor_of_list (list.Reversed cursor) = Some cursor

abbrev pub cursor_of_set : SetCall → Option ℕ
cursor_of_set (set.Add key) = None
cursor_of_set (set.Discard key) = None
cursor_of_set (set.Remove key) = None
cursor_of_set set.Pop = None
cursor_of_set (set.Has key) = None
cursor_of_set set.Len = None
cursor_of_set set.Items = None
cursor_of_set (set.Eq other) = None
cursor_of_set (set.Or other) = None
cursor_of_set (set.And other) = None
cursor_of_set (set.Sub other) = None
cursor_of_set (set.Xor other) = None
cursor_of_set (set.Subset other) = None
cursor_of_set (set.Disjoint other) = None
cursor_of_set set.Clear = None
cursor_of_set (set.Iter cursor) = Some cursor

abbrev pub cursor_of_deque : DequeCall → Option ℕ
cursor_of_deque (deque.Append value) = None
cursor_of_deque (deque.AppendLeft value) = None
cursor_of_deque deque.Pop = None
cursor_of_deque deque.PopLeft = None
cursor_of_deque (deque.Extend other) = None
cursor_of_deque (deque.ExtendLeft other) = None
cursor_of_deque (deque.Rotate steps) = None
cursor_of_deque deque.Clear = None
cursor_of_deque (deque.Get index) = None
cursor_of_deque deque.Len = None
cursor_of_deque deque.Items = None
cursor_of_deque (deque.Has value) = None
cursor_of_deque (deque.Iter cursor) = Some cursor

-- the cursor that a call makes or moves; no other call changes a thread's cursors
abbrev pub moved_cursor : Call → Option ℕ
moved_cursor (call.Dict container dict_call) = cursor_of_dict dict_call
moved_cursor (call.List container list_call) = cursor_of_list list_call
moved_cursor (call.Set container set_call) = cursor_of_set set_call
moved_cursor (call.Deque container deque_call) = cursor_of_deque deque_call
moved_cursor (call.Next cursor) = Some cursor
moved_cursor (call.Begin first second) = None
moved_cursor call.End = None
moved_cursor call.Quiesce = None
moved_cursor (call.Await thread index) = None
moved_cursor call.Dump = None

-- ---- locks

-- whether a call of a dict takes the locks of what it names from the start; the others are tried without a lock first
-- (PEP 703, Optimistically avoiding locking)
abbrev pub is_locked_dict : DictCall → Bool
is_locked_dict (dict.Get key) = false
is_locked_dict (dict.GetOr key default) = false
is_locked_dict (dict.Set key value) = true
is_locked_dict (dict.Del key) = true
is_locked_dict (dict.Pop key) = true
is_locked_dict (dict.PopOr key default) = true
is_locked_dict dict.PopItem = true
is_locked_dict (dict.SetDefault key default) = true
is_locked_dict (dict.Has key) = false
is_locked_dict dict.Len = false
is_locked_dict dict.Items = false
is_locked_dict (dict.Update other) = true
is_locked_dict dict.Clear = true
is_locked_dict (dict.CopyTo other) = true
is_locked_dict (dict.Eq other) = false
is_locked_dict (dict.Iter cursor) = true
is_locked_dict (dict.KeysAnd other) = true
is_locked_dict (dict.KeysSub other) = true
is_locked_dict (dict.KeysOr other) = true
is_locked_dict (dict.KeysXor other) = true
is_locked_dict (dict.ItemsHas key value) = false
is_locked_dict (dict.Reversed cursor) = true

-- whether a call of a list does
abbrev pub is_locked_list : ListCall → Bool
is_locked_list (list.Append value) = true
is_locked_list (list.Insert index value) = true
is_locked_list (list.Get index) = false
is_locked_list (list.Set index value) = true
is_locked_list (list.Del index) = true
is_locked_list (list.Pop index) = true
is_locked_list (list.Remove value) = true
is_locked_list (list.Index value) = true
is_locked_list (list.Count value) = true
is_locked_list (list.Has value) = false
is_locked_list list.Reverse = true
is_locked_list (list.Extend other) = true
is_locked_list (list.Slice start end) = true
is_locked_list list.Clear = true
is_locked_list list.Len = false
is_locked_list list.Items = false
is_locked_list (list.Eq other) = false
is_locked_list (list.Iter cursor) = true
is_locked_list (list.Reversed cursor) = true

-- whether a call of a set does
abbrev pub is_locked_set : SetCall → Bool
is_locked_set (set.Add key) = true
is_locked_set (set.Discard key) = true
is_locked_set (set.Remove key) = true
is_locked_set set.Pop = true
is_locked_set (set.Has key) = false
is_locked_set set.Len = false
is_locked_set set.Items = false
is_locked_set (set.Eq other) = false
is_locked_set (set.Or other) = true
is_locked_set (set.And other) = true
is_locked_set (set.Sub other) = true
is_locked_set (set.Xor other) = true
is_locked_set (set.Subset other) = true
is_locked_set (set.Disjoint other) = true
is_locked_set set.Clear = true
is_locked_set (set.Iter cursor) = true

-- whether a call of a deque does
abbrev pub is_locked_deque : DequeCall → Bool
is_locked_deque (deque.Append value) = true
is_locked_deque (deque.AppendLeft value) = true
is_locked_deque deque.Pop = true
is_locked_deque deque.PopLeft = true
is_locked_deque (deque.Extend other) = true
is_locked_deque (deque.ExtendLeft other) = true
is_locked_deque (deque.Rotate steps) = true
is_locked_deque deque.Clear = true
is_locked_deque (deque.Get index) = false
is_locked_deque deque.Len = false
is_locked_deque deque.Items = false
is_locked_deque (deque.Has value) = true
is_locked_deque (deque.Iter cursor) = true

-- how many locks a call takes from the start: those of the containers that it names, for a `next` that of its cursor's
-- container (profile)
abbrev pub locks_of : Call → ℕ
locks_of (call.Dict container dict_call) =
    if is_locked_dict dict_call then length (containers_of (call.Dict container dict_call)) else 0
locks_of (call.List container list_call) =
    if is_locked_list list_call then length (containers_of (call.List container list_call)) else 0
locks_of (call.Set container set_call) =
    if is_locked_set set_call then length (containers_of (call.Set container set_call)) else 0
locks_of (call.Deque container deque_call) =
    if is_locked_deque deque_call then length (containers_of (call.Deque container deque_call)) else 0
locks_of (call.Next cursor) = 1
locks_of (call.Begin first second) = length (containers_of (call.Begin first second))
locks_of call.End = 0
locks_of call.Quiesce = 0
locks_of (call.Await thread index) = 0
locks_of call.Dump = 0

-- ---- tables

-- what a call of a dict does to tables, where it is not split (profile)
abbrev pub dict_change : DictCall → TableChange
dict_change (dict.Get key) = change.Stays
dict_change (dict.GetOr key default) = change.Stays
dict_change (dict.Set key value) = change.Grows
dict_change (dict.Del key) = change.Stays
dict_change (dict.Pop key) = change.Stays
dict_change (dict.PopOr key default) = change.Stays
dict_change dict.PopItem = change.Stays
dict_change (dict.SetDefault key default) = change.Grows
dict_change (dict.Has key) = change.Stays
dict_change dict.Len = change.Stays
dict_change dict.Items = change.Stays
dict_change (dict.Update other) = change.Grows
dict_change dict.Clear = change.GivesUp
dict_change (dict.CopyTo other) = change.CopiesTo other
dict_change (dict.Eq other) = change.Stays
dict_change (dict.Iter cursor) = change.Stays
dict_change (dict.KeysAnd other) = change.Stays
dict_change (dict.KeysSub other) = change.Stays
dict_change (dict.KeysOr other) = change.Stays
dict_change (dict.KeysXor other) = change.Stays
dict_change (dict.ItemsHas key value) = change.Stays
dict_change (dict.Reversed cursor) = change.Stays

-- what a call of a list does
abbrev pub list_change : ListCall → TableChange
list_change (list.Append value) = change.Grows
list_change (list.Insert index value) = change.Grows
list_change (list.Get index) = change.Stays
list_change (list.Set index value) = change.Stays
list_change (list.Del index) = change.Stays
list_change (list.Pop index) = change.Stays
list_change (list.Remove value) = change.Stays
list_change (list.Index value) = change.Stays
list_change (list.Count value) = change.Stays
list_change (list.Has value) = change.Stays
list_change list.Reverse = change.Stays
list_change (list.Extend other) = change.Grows
list_change (list.Slice start end) = change.Stays
list_change list.Clear = change.GivesUp
list_change list.Len = change.Stays
list_change list.Items = change.Stays
list_change (list.Eq other) = change.Stays
list_change (list.Iter cursor) = change.Stays
list_change (list.Reversed cursor) = change.Stays

-- what a call of a set does
abbrev pub set_change : SetCall → TableChange
set_change (set.Add key) = change.Grows
set_change (set.Discard key) = change.Stays
set_change (set.Remove key) = change.Stays
set_change set.Pop = change.Stays
set_change (set.Has key) = change.Stays
set_change set.Len = change.Stays
set_change set.Items = change.Stays
set_change (set.Eq other) = change.Stays
set_change (set.Or other) = change.Grows
set_change (set.And other) = change.Stays
set_change (set.Sub other) = change.Stays
set_change (set.Xor other) = change.Grows
set_change (set.Subset other) = change.Stays
set_change (set.Disjoint other) = change.Stays
set_change set.Clear = change.GivesUp
set_change (set.Iter cursor) = change.Stays

-- what a call of a deque does
abbrev pub deque_change : DequeCall → TableChange
deque_change (deque.Append value) = change.Grows
deque_change (deque.AppendLeft value) = change.Grows
deque_change deque.Pop = change.Stays
deque_change deque.PopLeft = change.Stays
deque_change (deque.Extend other) = change.Grows
deque_change (deque.ExtendLeft other) = change.Grows
deque_change (deque.Rotate steps) = change.Stays
deque_change deque.Clear = change.GivesUp
deque_change (deque.Get index) = change.Stays
deque_change deque.Len = change.Stays
deque_change deque.Items = change.Stays
deque_change (deque.Has value) = change.Stays
deque_change (deque.Iter cursor) = change.Stays

-- whether a call that does this to tables can put something new into a container
abbrev pub adds : TableChange → Bool
adds change.Stays = false
adds change.Grows = true
adds (change.CopiesTo other) = true
adds change.GivesUp = false

-- whether a call can put something new into a container, and so raise a MemoryError of a class or over
abbrev pub can_add : Call → Bool
can_add (call.Dict container dict_call) = adds (dict_change dict_call)
can_add (call.List container list_call) = adds (list_change list_call)
can_add (call.Set container set_call) = adds (set_change set_call)
can_add (call.Deque container deque_call) = adds (deque_change deque_call)
can_add (call.Next cursor) = false
can_add (call.Begin first second) = false
can_add call.End = false
can_add call.Quiesce = false
can_add (call.Await thread index) = false
can_add call.Dump = false
