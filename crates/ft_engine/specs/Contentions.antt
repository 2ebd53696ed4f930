-- Calls that are made without a lock, and what stops them: another pass writes what they read, or raises or drops the count
-- of a box that they raise. (PEP 703, Optimistically avoiding locking)
use Rattle.std.specs.Prelude.{◌≡◌, ◌⊎◌, ℕ, ℤ, pos, negsuc, Bool, false, not, List, ◌++◌, Option, Some, None}
use Rattle.ft_model.specs.declared.call.Call.{Call}
use Rattle.ft_model.specs.declared.call.Call.TheVariants as call
use Rattle.ft_model.specs.declared.call.ListCall.{ListCall}
use Rattle.ft_model.specs.declared.call.ListCall.TheVariants as list
use Rattle.ft_model.specs.declared.data.Key.{Key}
use Rattle.ft_model.specs.Calls.{is_locked_dict, is_locked_list, is_locked_set, other_dict, other_list, other_set, is_locked_deque, other_deque}
use Rattle.ft_trace.specs.declared.Act.{Act}
use Rattle.ft_trace.specs.declared.Shape.{Shape}
use Rattle.ft_trace.specs.declared.View.{View}
use Rattle.ft_search.specs.Lengths.{StopsAtVersion}
use Rattle.ft_search.specs.KeyLooks.{Stops}
use Rattle.ft_list.specs.ItemLooks.{StopsItemLook}
use Rattle.ft_dict.specs.DictMaking.{key_of_dict}
use Rattle.ft_set.specs.SetMaking.{key_of_set}

-- whether a call may be made by a look, without a lock (PEP 703, Optimistically avoiding locking)
abbrev pub may_look : Call → Bool
may_look (call.Dict o dc) = not (is_locked_dict dc)
may_look (call.List o lc) = not (is_locked_list lc)
may_look (call.Set o sc) = not (is_locked_set sc)
may_look (call.Deque o qc) = not (is_locked_deque qc)
may_look (call.Next number) = false
may_look (call.Begin first second) = false
may_look call.End = false
may_look call.Quiesce = false
may_look (call.Await thread index) = false
may_look call.Dump = false

-- two loads of the version of the container, or of one of the two, gave a and then b, and a is odd or they differ
abbrev pub StopsAtOne : ℕ → Option ℕ → ℕ → ℕ → List Act → Type 0
StopsAtOne o None a b part = StopsAtVersion o a b part
StopsAtOne o (Some m) a b part = StopsAtVersion o a b part ⊎ StopsAtVersion m a b part

-- Of a call that names a key the version is that of the key's own entry, or the container's where its root was read 0. Or it
-- is the count of the box that the entry names.
abbrev pub StopsKeyed : Shape → ℕ → Option ℕ → Option Key → ℕ → ℕ → List Act → Type 0
StopsKeyed k o other None a b part = StopsAtOne o other a b part
StopsKeyed k o other (Some key) a b part = Stops k o key a b part

-- Of `l[i]` it is that of the very item, or the list's where its root was read 0, or the count of the box that the item
-- names; the list's where the index is negative.
abbrev pub StopsIndex : ℕ → ℤ → ℕ → ℕ → List Act → Type 0
StopsIndex o (pos index) a b part = StopsItemLook o index a b part
StopsIndex o (negsuc below) a b part = StopsAtVersion o a b part

abbrev pub StopsList : ℕ → ListCall → ℕ → ℕ → List Act → Type 0
StopsList o (list.Get index) a b part = StopsIndex o index a b part
StopsList o lc a b part = StopsAtOne o (other_list lc) a b part

-- These steps stop a look at what the call names: two loads of one version gave a and then b, and a is odd or they differ;
-- or the count of a box that was read there moved from a to b, or a and b are both the word of a dead box.
abbrev pub StopsCall : Shape → Call → ℕ → ℕ → List Act → Type 0
StopsCall k (call.Dict o dc) a b part = StopsKeyed k o (other_dict dc) (key_of_dict dc) a b part
StopsCall k (call.List o lc) a b part = StopsList o lc a b part
StopsCall k (call.Set o sc) a b part = StopsKeyed k o (other_set sc) (key_of_set sc) a b part
StopsCall k (call.Deque o qc) a b part = StopsAtOne o (other_deque qc) a b part
StopsCall k (call.Next number) a b part = ⊥
StopsCall k (call.Begin first second) a b part = ⊥
StopsCall k call.End a b part = ⊥
StopsCall k call.Quiesce a b part = ⊥
StopsCall k (call.Await thread index) a b part = ⊥
StopsCall k call.Dump a b part = ⊥

-- After the first of these moments and before the second a look at what the call names was stopped. With the floor
-- none is.
pub record WasContended (called : Call) (v w : View) : Type 0 where
  pub first : ℕ
  pub second : ℕ
  pub newer : List Act
  pub part : List Act
  pub is : w.log ≡ newer ++ (part ++ v.log)
  pub stops : StopsCall v.shape called first second part
  pub floor : v.has_floor ≡ false
