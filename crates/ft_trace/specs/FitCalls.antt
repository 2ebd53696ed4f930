-- Calls and contents whose keys and values words can represent: integers of 64 bits, and strings with numbers of 32
-- bits. (profile)
use Rattle.std.specs.Prelude.{All}
use Rattle.ft_model.specs.declared.call.Call.{Call}
use Rattle.ft_model.specs.declared.call.Call.TheVariants as call
use Rattle.ft_model.specs.declared.call.DictCall.{DictCall}
use Rattle.ft_model.specs.declared.call.DictCall.TheVariants as dict
use Rattle.ft_model.specs.declared.call.ListCall.{ListCall}
use Rattle.ft_model.specs.declared.call.ListCall.TheVariants as list
use Rattle.ft_model.specs.declared.call.SetCall.{SetCall}
use Rattle.ft_model.specs.declared.call.SetCall.TheVariants as set
use Rattle.ft_model.specs.declared.call.DequeCall.{DequeCall}
use Rattle.ft_model.specs.declared.call.DequeCall.TheVariants as deque
use Rattle.ft_model.specs.declared.data.Value.{Value}
use Rattle.ft_model.specs.declared.content.Content.{Content}
use Rattle.ft_model.specs.declared.content.Content.TheVariants as content
use Rattle.ft_layout.specs.declared.slot.Stored.TheVariants.{Plain}
use Rattle.ft_layout.specs.Words.{FitsKey, FitsStored}

-- words can represent the value
abbrev pub FitsValue : Value → Type 0
FitsValue value = FitsStored (Plain value)

-- ---- calls

-- words can represent the key and the value of a call on a dict
abbrev pub FitsDictCall : DictCall → Type 0
FitsDictCall (dict.Get key) = FitsKey key
FitsDictCall (dict.GetOr key default) = FitsKey key × FitsValue default
FitsDictCall (dict.Set key value) = FitsKey key × FitsValue value
FitsDictCall (dict.Del key) = FitsKey key
FitsDictCall (dict.Pop key) = FitsKey key
FitsDictCall (dict.PopOr key default) = FitsKey key × FitsValue default
FitsDictCall dict.PopItem = Unit {0}
FitsDictCall (dict.SetDefault key default) = FitsKey key × FitsValue default
FitsDictCall (dict.Has key) = FitsKey key
FitsDictCall dict.Len = Unit {0}
FitsDictCall dict.Items = Unit {0}
FitsDictCall (dict.Update other) = Unit {0}
FitsDictCall dict.Clear = Unit {0}
FitsDictCall (dict.CopyTo other) = Unit {0}
FitsDictCall (dict.Eq other) = Unit {0}
FitsDictCall (dict.Iter cursor) = Unit {0}
FitsDictCall (dict.KeysAnd other) = Unit {0}
FitsDictCall (dict.KeysSub other) = Unit {0}
FitsDictCall (dict.KeysOr other) = Unit {0}
FitsDictCall (dict.KeysXor other) = Unit {0}
FitsDictCall (dict.ItemsHas key value) = FitsKey key × FitsValue value
FitsDictCall (dict.Reversed cursor) = Unit {0}

-- words can represent the value of a call on a list
abbrev pub FitsListCall : ListCall → Type 0
FitsListCall (list.Append value) = FitsValue value
FitsListCall (list.Insert index value) = FitsValue value
FitsListCall (list.Get index) = Unit {0}
FitsListCall (list.Set index value) = FitsValue value
FitsListCall (list.Del index) = Unit {0}
FitsListCall (list.Pop index) = Unit {0}
FitsListCall (list.Remove value) = FitsValue value
FitsListCall (list.Index value) = FitsValue value
FitsListCall (list.Count value) = FitsValue value
FitsListCall (list.Has value) = FitsValue value
FitsListCall list.Reverse = Unit {0}
FitsListCall (list.Extend other) = Unit {0}
FitsListCall (list.Slice start end) = Unit {0}
FitsListCall list.Clear = Unit {0}
FitsListCall list.Len = Unit {0}
FitsListCall list.Items = Unit {0}
FitsListCall (list.Eq other) = Unit {0}
FitsListCall (list.Iter cursor) = Unit {0}
FitsListCall (list.Reversed cursor) = Unit {0}

-- words can represent the key of a call on a set
abbrev pub FitsSetCall : SetCall → Type 0
FitsSetCall (set.Add key) = FitsKey key
FitsSetCall (set.Discard key) = FitsKey key
FitsSetCall (set.Remove key) = FitsKey key
FitsSetCall set.Pop = Unit {0}
FitsSetCall (set.Has key) = FitsKey key
FitsSetCall set.Len = Unit {0}
FitsSetCall set.Items = Unit {0}
FitsSetCall (set.Eq other) = Unit {0}
FitsSetCall (set.Or other) = Unit {0}
FitsSetCall (set.And other) = Unit {0}
FitsSetCall (set.Sub other) = Unit {0}
FitsSetCall (set.Xor other) = Unit {0}
FitsSetCall (set.Subset other) = Unit {0}
FitsSetCall (set.Disjoint other) = Unit {0}
FitsSetCall set.Clear = Unit {0}
FitsSetCall (set.Iter cursor) = Unit {0}

-- words can represent the value of a call on a deque
abbrev pub FitsDequeCall : DequeCall → Type 0
FitsDequeCall (deque.Append value) = FitsValue value
FitsDequeCall (deque.AppendLeft value) = FitsValue value
FitsDequeCall deque.Pop = Unit {0}
FitsDequeCall deque.PopLeft = Unit {0}
FitsDequeCall (deque.Extend other) = Unit {0}
FitsDequeCall (deque.ExtendLeft other) = Unit {0}
FitsDequeCall (deque.Rotate steps) = Unit {0}
FitsDequeCall deque.Clear = Unit {0}
FitsDequeCall (deque.Get index) = Unit {0}
FitsDequeCall deque.Len = Unit {0}
FitsDequeCall deque.Items = Unit {0}
FitsDequeCall (deque.Has value) = FitsValue value
FitsDequeCall (deque.Iter cursor) = Unit {0}

-- words can represent the keys and values of a call
abbrev pub FitsCall : Call → Type 0
FitsCall (call.Dict o dict_call) = FitsDictCall dict_call
FitsCall (call.List o list_call) = FitsListCall list_call
FitsCall (call.Set o set_call) = FitsSetCall set_call
FitsCall (call.Deque o deque_call) = FitsDequeCall deque_call
FitsCall (call.Next cursor) = Unit {0}
FitsCall (call.Begin one other) = Unit {0}
FitsCall call.End = Unit {0}
FitsCall call.Quiesce = Unit {0}
FitsCall (call.Await thread index) = Unit {0}
FitsCall call.Dump = Unit {0}

-- ---- contents

-- words can represent each key and each value of a content
abbrev pub FitsContent : Content → Type 0
FitsContent (content.Dict dict) = All (λ pair. FitsKey pair.key × FitsValue pair.value) dict.pairs
FitsContent (content.List values) = All FitsValue values
FitsContent (content.Set set) = All (λ element. FitsKey element.key) set.elements
FitsContent (content.Deque deque) = All FitsValue deque.items
