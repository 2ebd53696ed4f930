-- Calls that put a value at a key of a dict, as whole writes. (profile)
use Rattle.std.specs.Prelude.{◌≡◌, ℕ, suc, ◌+◌, ◌<◌, List, [], ◌∷◌, Option, None, ◌≢◌, Some}
use Rattle.ft_model.specs.declared.call.Call.TheVariants as call
use Rattle.ft_model.specs.declared.call.DictCall.TheVariants as dict
use Rattle.ft_model.specs.declared.content.Content.TheVariants as content
use Rattle.ft_model.specs.declared.data.Key.{Key}
use Rattle.ft_model.specs.declared.data.Value.{Value}
use Rattle.ft_model.specs.declared.reply.Reply.TheVariants as reply
use Rattle.ft_model.specs.Contents.{DictContent, dict_get}
use Rattle.ft_layout.specs.declared.slot.Stored.TheVariants.{Plain}
use Rattle.ft_layout.specs.Words.{FitsKey, FitsStored, stored_kind, stored_payload}
use Rattle.ft_trace.specs.declared.Snap.{Snap}
use Rattle.ft_trace.specs.declared.View.{View}
use Rattle.ft_trace.specs.Addresses.{class_of, slots, places}
use Rattle.ft_trace.specs.Pictures.{entry_offset, entry_field, root_in}
use Rattle.ft_trace.specs.Carefuls.{HasLiveKey}
use Rattle.ft_trace.specs.Holds.{held_words, held_unboxed, known_state}
use Rattle.ft_trace.specs.Traces.{IsReachable}
use Rattle.ft_trace.specs.Boxes.{references_held}
use Rattle.ft_trace.specs.Grants.{MayWrite}
use Rattle.ft_trace.specs.WholeWrites.{Put, to_table, to_value, HasBox, WholeWrite, after_write_of}

-- the value is put in place, or in a box that has it and for which the pass holds a reference
abbrev pub MayStandIn : View → Option ℕ → Value → Type 0
MayStandIn v box value =
    HasBox v.shape v.log (λ b. references_held v.shape b v.log) box (stored_kind (Plain value))
    (stored_payload (Plain value))

-- before the commit the version of the entry is made odd, and the kind and payload of its value are put, which may
-- stand in a box; n says how many index slots there are
abbrev pub value_puts : ℕ → List ℕ → ℕ → Option ℕ → Value → List Put
value_puts n words place box value =
    to_table (entry_offset n place 0) (entry_field n words place 0 + 1)
    ∷ to_value box (entry_offset n place 4) (entry_offset n place 5) (stored_kind (Plain value))
    (stored_payload (Plain value))
    ∷ []

-- after it the version is made even
abbrev pub entry_closed : ℕ → List ℕ → ℕ → List Put
entry_closed n words place = to_table (entry_offset n place 0) (entry_field n words place 0 + 2) ∷ []

-- d[k] = v for a key that is there, in the entry at this place
abbrev pub dict_set_write : View → ℕ → ℕ → ℕ → Key → Option ℕ → Value → WholeWrite
dict_set_write v o t place key box value =
    record {
      root = None;
      early = value_puts (slots (class_of t)) (held_unboxed o v).table place box value;
      call = call.Dict o (dict.Set key value);
      reply = reply.Done;
      late = entry_closed (slots (class_of t)) (held_unboxed o v).table place;
    }

-- a pass with the lock of a dict may put another value at a key that is there than the one it has, in place or in a
-- box, whatever other passes have done
abbrev pub ValuesMayBePut : Type 0
ValuesMayBePut =
    (v : View) (o t place : ℕ) (key : Key) (box : Option ℕ) (value : Value) (pairs : DictContent) → MayWrite v o
    → (known_state o v).content ≡ content.Dict pairs → root_in (held_words o v) ≡ suc t → place < places (class_of t)
    → HasLiveKey (slots (class_of t)) (held_unboxed o v).table place key → FitsKey key → FitsStored (Plain value)
    → dict_get pairs.pairs key ≢ Some value → MayStandIn v box value
    → (start number : ℕ) × (s : Snap) × (stop : ℕ)
    × IsReachable (after_write_of v o t (dict_set_write v o t place key box value) start number s stop)
