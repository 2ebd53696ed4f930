-- Calls that put one item of a list, as whole writes. (profile)
use Rattle.std.specs.Prelude.{◌≡◌, ℕ, suc, ◌+◌, ◌<◌, ℤ, List, [], ◌∷◌, length, Option, Some, None, ◌≢◌, slice_get}
use Rattle.ft_model.specs.declared.call.Call.TheVariants as call
use Rattle.ft_model.specs.declared.call.ListCall.TheVariants as list
use Rattle.ft_model.specs.declared.content.Content.TheVariants as content
use Rattle.ft_model.specs.declared.data.Value.{Value}
use Rattle.ft_model.specs.declared.reply.Reply.TheVariants as reply
use Rattle.ft_model.specs.Lists.{index_in}
use Rattle.ft_layout.specs.declared.slot.Stored.TheVariants.{Plain}
use Rattle.ft_layout.specs.Words.{FitsStored, stored_kind, stored_payload}
use Rattle.ft_trace.specs.declared.Snap.{Snap}
use Rattle.ft_trace.specs.declared.View.{View}
use Rattle.ft_trace.specs.Addresses.{class_of, slots}
use Rattle.ft_trace.specs.Pictures.{item_offset, item_field, root_in}
use Rattle.ft_trace.specs.Holds.{held_words, held_unboxed, known_state}
use Rattle.ft_trace.specs.Traces.{IsReachable}
use Rattle.ft_trace.specs.Grants.{MayWrite}
use Rattle.ft_trace.specs.EntryWrites.{MayStandIn}
use Rattle.ft_trace.specs.WholeWrites.{Put, to_block, to_table, to_value, WholeWrite, after_write_of}

-- before the commit the version of the item is made odd, and its kind and payload are put
abbrev pub item_puts : List ℕ → ℕ → Option ℕ → Value → List Put
item_puts words place box value =
    to_table (item_offset place 0) (item_field words place 0 + 1)
    ∷ to_value box (item_offset place 1) (item_offset place 2) (stored_kind (Plain value))
    (stored_payload (Plain value))
    ∷ []

-- after it the version is made even
abbrev pub item_closed : List ℕ → ℕ → List Put
item_closed words place = to_table (item_offset place 0) (item_field words place 0 + 2) ∷ []

-- l[i] = v, at the place that the index means
abbrev pub list_set_write : View → ℕ → ℕ → ℤ → Option ℕ → Value → WholeWrite
list_set_write v o place index box value =
    record {
      root = None;
      early = item_puts (held_unboxed o v).table place box value;
      call = call.List o (list.Set index value);
      reply = reply.Done;
      late = item_closed (held_unboxed o v).table place;
    }

-- a pass with the lock of a list may put one of its items, where it has another value, whatever other passes have done
abbrev pub ItemsMayBePut : Type 0
ItemsMayBePut =
    (v : View) (o t place : ℕ) (index : ℤ) (box : Option ℕ) (value : Value) (values : List Value) → MayWrite v o
    → (known_state o v).content ≡ content.List values → root_in (held_words o v) ≡ suc t
    → index_in (length values) index ≡ Some place → place < length values → FitsStored (Plain value)
    → slice_get values place ≢ Some value → MayStandIn v box value
    → (start number : ℕ) × (s : Snap) × (stop : ℕ)
    × IsReachable (after_write_of v o t (list_set_write v o place index box value) start number s stop)

-- l.append(v), where the table has room: the length is put too, then the item after the last
abbrev pub list_append_write : View → ℕ → ℕ → Option ℕ → Value → WholeWrite
list_append_write v o count box value =
    record {
      root = None;
      early = to_block 1 (count + 1) ∷ item_puts (held_unboxed o v).table count box value;
      call = call.List o (list.Append value);
      reply = reply.Done;
      late = item_closed (held_unboxed o v).table count;
    }

-- a pass with the lock of a list whose table has room may append an item, whatever other passes have done
abbrev pub ItemsMayBeAppended : Type 0
ItemsMayBeAppended =
    (v : View) (o t : ℕ) (box : Option ℕ) (value : Value) (values : List Value) → MayWrite v o
    → (known_state o v).content ≡ content.List values → root_in (held_words o v) ≡ suc t
    → length values < slots (class_of t)
    → FitsStored (Plain value) → MayStandIn v box value
    → (start number : ℕ) × (s : Snap) × (stop : ℕ)
    × IsReachable (after_write_of v o t (list_append_write v o (length values) box value) start number s stop)
