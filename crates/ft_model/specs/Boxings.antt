-- Which writes put a value in a box: an integer that isn't small, or a string, takes a place of the heap of the thread
-- that stores it. Keys are never boxed. (profile)
use Rattle.std.specs.Prelude.{ℕ, suc, Bool, true, false, not, ◌&&◌, nat_le, if◌then◌else◌, List, take, Option, Some, None, ℤ, pos, negsuc}
use Rattle.std.specs.Option.{option_map_or}
use Rattle.std.specs.List.{count_by}
use Rattle.ft_model.specs.declared.data.Value.{Value}
use Rattle.ft_model.specs.declared.data.Value.TheVariants as value
use Rattle.ft_model.specs.declared.call.Call.{Call}
use Rattle.ft_model.specs.declared.call.Call.TheVariants as call
use Rattle.ft_model.specs.declared.call.DictCall.{DictCall}
use Rattle.ft_model.specs.declared.call.DictCall.TheVariants as dict
use Rattle.ft_model.specs.declared.call.ListCall.{ListCall}
use Rattle.ft_model.specs.declared.call.ListCall.TheVariants as list
use Rattle.ft_model.specs.declared.call.DequeCall.{DequeCall}
use Rattle.ft_model.specs.declared.call.DequeCall.TheVariants as deque
use Rattle.ft_model.specs.declared.content.Content.{Content}
use Rattle.ft_model.specs.declared.entry.Entry.{Entry}
use Rattle.ft_model.specs.declared.script.Start.{Start}
use Rattle.ft_model.specs.Contents.{DictContent, has_key}
use Rattle.ft_model.specs.Worlds.{dict_at}
use Rattle.ft_model.specs.Answers.{world_by}

-- ---- values

-- whether an integer is small: from -5 to 256 (profile; CPython keeps objects of these integers for good)
abbrev pub is_small : ℤ → Bool
is_small (pos n) = nat_le n 256
is_small (negsuc below) = nat_le (suc below) 5

-- whether a value is stored in a box: integers that aren't small, and strings
abbrev pub is_boxed : Value → Bool
is_boxed value.Nothing = false
is_boxed (value.Int n) = not (is_small n)
is_boxed (value.Text symbol) = true

-- ---- calls

-- the value that a call of a dict stores which it did not find in a container; a default is stored only where the key
-- isn't there
abbrev pub stored_in_dict : DictContent → DictCall → Option Value
stored_in_dict old (dict.Set key value) = Some value
stored_in_dict old (dict.SetDefault key default) = if has_key old.pairs key then None else Some default
stored_in_dict old _ = None

-- that of a call of a list
abbrev pub stored_in_list : ListCall → Option Value
stored_in_list (list.Append value) = Some value
stored_in_list (list.Insert index value) = Some value
stored_in_list (list.Set index value) = Some value
stored_in_list _ = None

-- that of a call of a deque
abbrev pub stored_in_deque : DequeCall → Option Value
stored_in_deque (deque.Append value) = Some value
stored_in_deque (deque.AppendLeft value) = Some value
stored_in_deque _ = None

-- that of any call: elements of sets are keys
abbrev pub newly_stored : List Content → Call → Option Value
newly_stored world (call.Dict container dict_call) = stored_in_dict (dict_at world container) dict_call
newly_stored world (call.List container list_call) = stored_in_list list_call
newly_stored world (call.Deque container deque_call) = stored_in_deque deque_call
newly_stored world _ = None

-- whether a call that is made there would put a value in a box
abbrev pub boxes : List Content → Call → Bool
boxes world called = option_map_or is_boxed (newly_stored world called) false

-- ---- threads

-- whether an entry did, where `calls` are all writes in their order
abbrev pub has_boxed : List Start → List Call → Entry → Bool
has_boxed starts calls entry = entry.wrote && boxes (world_by starts (take entry.stamp calls)) entry.call

-- how many of a thread's entries did
abbrev pub boxings : List Start → List Call → List Entry → ℕ
boxings starts calls mine = count_by (has_boxed starts calls) mine
