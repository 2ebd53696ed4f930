-- A call that adds a key to a dict whose table has no room, or that has none: the dict gets another table. (profile)
use Rattle.std.specs.Prelude.{◌≡◌, ◌≢◌, ℕ, suc, ◌+◌, ◌<◌, false, [], ◌∷◌, length, Some}
use Rattle.ft_model.specs.declared.call.Call.TheVariants as call
use Rattle.ft_model.specs.declared.call.DictCall.TheVariants as dict
use Rattle.ft_model.specs.declared.content.Content.TheVariants as content
use Rattle.ft_model.specs.declared.data.Key.{Key}
use Rattle.ft_model.specs.declared.data.Value.{Value}
use Rattle.ft_model.specs.declared.reply.Reply.TheVariants as reply
use Rattle.ft_model.specs.Contents.{DictContent, has_key, dict_set}
use Rattle.ft_model.specs.TableUses.{dict_takes}
use Rattle.ft_layout.specs.Containers.{IsDictWords}
use Rattle.ft_trace.specs.declared.Snap.{Snap}
use Rattle.ft_trace.specs.declared.View.{View}
use Rattle.ft_trace.specs.Addresses.{class_of, slots, places, IsTableName}
use Rattle.ft_trace.specs.Acts.{owes, stage}
use Rattle.ft_trace.specs.Pictures.{entry_offset, entry_field, root_in}
use Rattle.ft_trace.specs.Carefuls.{HasLiveKey}
use Rattle.ft_trace.specs.Holds.{held_words, known_state, hand_unboxed}
use Rattle.ft_trace.specs.declared.Act.TheVariants.{PutRoot}
use Rattle.ft_trace.specs.Boxes.{HasReferences}
use Rattle.ft_trace.specs.Traces.{IsReachable}
use Rattle.ft_trace.specs.WholeWrites.{to_table, WholeWrite, at_commit, after_write_of, MayBegin}
use Rattle.ft_trace.specs.KeyWrites.{count_puts}

-- The new root is put first, then the counts, and after the commit the version of the entry of the new key is made
-- even, which was 1 in the new table.
abbrev pub dict_grow_write : View → ℕ → ℕ → ℕ → Key → Value → DictContent → WholeWrite
dict_grow_write v o t place key value pairs =
    record {
      root = Some (suc t);
      early = count_puts (length pairs.pairs + 1) (length pairs.pairs + 1) (pairs.next + 1);
      call = call.Dict o (dict.Set key value);
      reply = reply.Done;
      late = to_table (entry_offset (slots (class_of t)) place 0) 2 ∷ [];
    }

-- what the pass has in hand: a table of the class that the call takes, fresh, whose words stand for the dict with the
-- new key; of its versions that of the new key's entry is 1, and each other 0
pub record HasGrown (v : View) (o t place : ℕ) (key : Key) (value : Value) (pairs : DictContent) : Type 0 where
  pub table : IsTableName v.shape t
  pub fresh : stage t v.log ≡ 1
  pub references : HasReferences v.shape v.log (PutRoot o (suc t) (root_in (held_words o v))) o
  pub owed : owes v.log ≡ suc (class_of t)
  pub missing : has_key pairs.pairs key ≡ false
  pub takes : dict_takes (known_state o v).table pairs (dict_set pairs key value) ≡ Some (class_of t)
  pub words : IsDictWords v.shape.texts (at_commit v o (dict_grow_write v o t place key value pairs)).block
      (0 ∷ 0 ∷ hand_unboxed o t v) (Some (class_of t)) (length pairs.pairs + 1) (dict_set pairs key value)
  pub low : place < places (class_of t)
  pub live : HasLiveKey (slots (class_of t)) (hand_unboxed o t v) place key
  pub open_entry : entry_field (slots (class_of t)) (hand_unboxed o t v) place 0 ≡ 1
  pub others : (p : ℕ) → p < places (class_of t) → p ≢ place
      → entry_field (slots (class_of t)) (hand_unboxed o t v) p 0 ≡ 0

-- a pass with the lock of a dict that has such a table in hand may put it in the root and add the key, whatever other
-- passes have done
abbrev pub DictsMayGrow : Type 0
DictsMayGrow =
    (v : View) (o t place : ℕ) (key : Key) (value : Value) (pairs : DictContent) → MayBegin v o
    → (known_state o v).content ≡ content.Dict pairs → HasGrown v o t place key value pairs
    → (start number : ℕ) × (s : Snap) × (stop : ℕ)
    × IsReachable (after_write_of v o t (dict_grow_write v o t place key value pairs) start number s stop)
