-- A call that appends an item to a list whose table has no room, or that has none: the list gets another table.
-- (profile)
use Rattle.std.specs.Prelude.{◌≡◌, ◌≢◌, ℕ, suc, ◌+◌, ◌<◌, List, [], ◌∷◌, ◌++◌, length, Some}
use Rattle.ft_model.specs.declared.call.Call.TheVariants as call
use Rattle.ft_model.specs.declared.call.ListCall.TheVariants as list
use Rattle.ft_model.specs.declared.content.Content.TheVariants as content
use Rattle.ft_model.specs.declared.data.Value.{Value}
use Rattle.ft_model.specs.declared.reply.Reply.TheVariants as reply
use Rattle.ft_model.specs.TableUses.{list_takes}
use Rattle.ft_layout.specs.Containers.{IsListWords}
use Rattle.ft_trace.specs.declared.Snap.{Snap}
use Rattle.ft_trace.specs.declared.View.{View}
use Rattle.ft_trace.specs.Addresses.{class_of, slots, IsTableName}
use Rattle.ft_trace.specs.Acts.{owes, stage}
use Rattle.ft_trace.specs.FitCalls.{FitsValue}
use Rattle.ft_trace.specs.Pictures.{item_offset, item_field, root_in}
use Rattle.ft_trace.specs.Holds.{held_words, known_state, hand_unboxed}
use Rattle.ft_trace.specs.declared.Act.TheVariants.{PutRoot}
use Rattle.ft_trace.specs.Boxes.{HasReferences}
use Rattle.ft_trace.specs.Traces.{IsReachable}
use Rattle.ft_trace.specs.WholeWrites.{to_block, to_table, WholeWrite, at_commit, after_write_of, MayBegin}

-- The new root is put first, then the length, and after the commit the version of the new item is made even, which was
-- 1 in the new table.
abbrev pub list_grow_write : View → ℕ → ℕ → Value → List Value → WholeWrite
list_grow_write v o t value values =
    record {
      root = Some (suc t);
      early = to_block 1 (length values + 1) ∷ [];
      call = call.List o (list.Append value);
      reply = reply.Done;
      late = to_table (item_offset (length values) 0) 2 ∷ [];
    }

-- what the pass has in hand: a table of the class that the call takes, fresh, whose words stand for the list with the
-- new item; of its versions that of the new item is 1, and each other 0
pub record HasListGrown (v : View) (o t : ℕ) (value : Value) (values : List Value) : Type 0 where
  pub table : IsTableName v.shape t
  pub fresh : stage t v.log ≡ 1
  pub references : HasReferences v.shape v.log (PutRoot o (suc t) (root_in (held_words o v))) o
  pub owed : owes v.log ≡ suc (class_of t)
  pub fits : FitsValue value
  pub takes : list_takes (known_state o v).table (length values + 1) ≡ Some (class_of t)
  pub words : IsListWords (at_commit v o (list_grow_write v o t value values)).block (0 ∷ 0 ∷ hand_unboxed o t v)
      (Some (class_of t)) (values ++ value ∷ [])
  pub open_item : item_field (hand_unboxed o t v) (length values) 0 ≡ 1
  pub others : (p : ℕ) → p < slots (class_of t) → p ≢ length values → item_field (hand_unboxed o t v) p 0 ≡ 0

-- a pass with the lock of a list that has such a table in hand may put it in the root and append the item, whatever
-- other passes have done
abbrev pub ListsMayGrow : Type 0
ListsMayGrow =
    (v : View) (o t : ℕ) (value : Value) (values : List Value) → MayBegin v o
    → (known_state o v).content ≡ content.List values → HasListGrown v o t value values
    → (start number : ℕ) × (s : Snap) × (stop : ℕ)
    × IsReachable (after_write_of v o t (list_grow_write v o t value values) start number s stop)
