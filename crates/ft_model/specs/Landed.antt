-- Which starts and calls the bank of shared words can do so far. Every script has these alone; the plain containers can
-- do all. (profile)
use Rattle.std.specs.Prelude.{◌≡◌, Bool, true, false, List, [], ◌∷◌, ◌&&◌, All}
use Rattle.ft_model.specs.declared.data.Key.{Key}
use Rattle.ft_model.specs.declared.call.Call.{Call}
use Rattle.ft_model.specs.declared.call.Call.TheVariants as call
use Rattle.ft_model.specs.declared.call.DictCall.{DictCall}
use Rattle.ft_model.specs.declared.call.DictCall.TheVariants as dict
use Rattle.ft_model.specs.declared.call.ListCall.{ListCall}
use Rattle.ft_model.specs.declared.call.ListCall.TheVariants as list
use Rattle.ft_model.specs.declared.script.Kind.{Kind}
use Rattle.ft_model.specs.declared.script.Kind.TheVariants as kind
use Rattle.ft_model.specs.declared.script.Start.{Start}

-- ---- starts

-- no deque yet
abbrev pub is_landed_kind : Kind → Bool
is_landed_kind kind.Dict = true
is_landed_kind kind.List = true
is_landed_kind kind.Set = true
is_landed_kind (kind.Deque bound) = false

-- no keys that a dict shares yet
abbrev pub shares_none : List Key → Bool
shares_none [] = true
shares_none (key ∷ keys) = false

-- whether a container may start so
abbrev pub is_landed_start : Start → Bool
is_landed_start start = is_landed_kind start.kind && shares_none start.keys

-- all of them may
abbrev pub AreLanded : List Start → Type 0
AreLanded starts = All (λ start. is_landed_start start ≡ true) starts

-- ---- calls

-- whether a call of a dict is there: the views of keys and items and reversed cursors are not yet
abbrev pub is_landed_dict : DictCall → Bool
is_landed_dict (dict.KeysAnd other) = false
is_landed_dict (dict.KeysSub other) = false
is_landed_dict (dict.KeysOr other) = false
is_landed_dict (dict.KeysXor other) = false
is_landed_dict (dict.ItemsHas key value) = false
is_landed_dict (dict.Reversed cursor) = false
is_landed_dict _ = true

-- whether a call of a list is: reversed cursors are not yet
abbrev pub is_landed_list : ListCall → Bool
is_landed_list (list.Reversed cursor) = false
is_landed_list _ = true

-- whether a call is: no call of a deque and no dump yet
abbrev pub is_landed_call : Call → Bool
is_landed_call (call.Dict container dict_call) = is_landed_dict dict_call
is_landed_call (call.List container list_call) = is_landed_list list_call
is_landed_call (call.Set container set_call) = true
is_landed_call (call.Deque container deque_call) = false
is_landed_call (call.Next cursor) = true
is_landed_call (call.Begin first second) = true
is_landed_call call.End = true
is_landed_call call.Quiesce = true
is_landed_call (call.Await thread index) = true
is_landed_call call.Dump = false
