-- A call that adds a key to a dict whose table has room, as a whole write. (profile)
use Rattle.std.specs.Prelude.{◌≡◌, ℕ, suc, ◌+◌, ◌<◌, false, List, [], ◌∷◌, ◌++◌, length, Option, Some, None}
use Rattle.ft_model.specs.declared.call.Call.TheVariants as call
use Rattle.ft_model.specs.declared.call.DictCall.TheVariants as dict
use Rattle.ft_model.specs.declared.content.Content.TheVariants as content
use Rattle.ft_model.specs.declared.data.Key.{Key}
use Rattle.ft_model.specs.declared.data.Value.{Value}
use Rattle.ft_model.specs.declared.reply.Reply.TheVariants as reply
use Rattle.ft_model.specs.Contents.{DictContent, has_key, dict_set}
use Rattle.ft_layout.specs.declared.slot.Stored.TheVariants.{Plain}
use Rattle.ft_layout.specs.Words.{key_kind, key_payload, stored_kind, stored_payload}
use Rattle.ft_layout.specs.Tables.{hash_of}
use Rattle.ft_layout.specs.Containers.{IsDictWords}
use Rattle.ft_trace.specs.declared.Snap.{Snap}
use Rattle.ft_trace.specs.declared.View.{View}
use Rattle.ft_trace.specs.Addresses.{class_of, slots, places}
use Rattle.ft_trace.specs.Pictures.{index_field, entry_offset, entry_field, root_in}
use Rattle.ft_trace.specs.Holds.{held_words, held_unboxed, known_state}
use Rattle.ft_trace.specs.Traces.{IsReachable}
use Rattle.ft_trace.specs.Grants.{MayWrite}
use Rattle.ft_trace.specs.WholeWrites.{Put, to_block, to_table, to_value, WholeWrite, at_commit, after_write_of}
use Rattle.ft_trace.specs.EntryWrites.{MayStandIn, entry_closed}

-- the words of a new entry: its version is made odd, its kind is put last, and then the index slot that names it;
-- n says how many index slots there are
abbrev pub key_puts : ℕ → List ℕ → ℕ → ℕ → ℕ → Key → Option ℕ → Value → ℕ → List Put
key_puts n words place slot hash key box value serial =
    to_table (entry_offset n place 0) (entry_field n words place 0 + 1)
    ∷ to_table (entry_offset n place 1) hash
    ∷ to_table (entry_offset n place 3) (key_payload key)
    ∷ to_value box (entry_offset n place 4) (entry_offset n place 5) (stored_kind (Plain value))
    (stored_payload (Plain value))
    ∷ to_table (entry_offset n place 6) serial
    ∷ to_table (entry_offset n place 2) (key_kind key)
    ∷ to_table slot (place + 1)
    ∷ []

-- how many pairs there are, how many entries are used, and the next serial
abbrev pub count_puts : ℕ → ℕ → ℕ → List Put
count_puts count fill next = to_block 1 count ∷ to_block 2 fill ∷ to_block 3 next ∷ []

-- d[k] = v for a key that isn't there: its entry is the next that was never used
abbrev pub dict_add_write : View → ℕ → ℕ → ℕ → Key → Option ℕ → Value → DictContent → WholeWrite
dict_add_write v o t slot key box value pairs =
    record {
      root = None;
      early = count_puts (length pairs.pairs + 1) ((known_state o v).table.fill + 1) (pairs.next + 1)
          ++ key_puts (slots (class_of t)) (held_unboxed o v).table (known_state o v).table.fill slot
          (hash_of v.shape.texts key) key box value pairs.next;
      call = call.Dict o (dict.Set key value);
      reply = reply.Done;
      late = entry_closed (slots (class_of t)) (held_unboxed o v).table (known_state o v).table.fill;
    }

-- A pass with the lock of a dict whose table has room may add a key, whatever other passes have done, where the index
-- slot was never used and the words that it puts stand for the dict with that key.
abbrev pub KeysMayBeAdded : Type 0
KeysMayBeAdded =
    (v : View) (o t slot : ℕ) (key : Key) (box : Option ℕ) (value : Value) (pairs : DictContent) → MayWrite v o
    → (known_state o v).content ≡ content.Dict pairs → root_in (held_words o v) ≡ suc t
    → (known_state o v).table.fill < places (class_of t) → slot < slots (class_of t)
    → index_field (held_unboxed o v).table slot ≡ 0
    → has_key pairs.pairs key ≡ false → MayStandIn v box value
    → IsDictWords v.shape.texts (at_commit v o (dict_add_write v o t slot key box value pairs)).block
    (0 ∷ 0 ∷ (at_commit v o (dict_add_write v o t slot key box value pairs)).table) (Some (class_of t))
    ((known_state o v).table.fill + 1) (dict_set pairs key value)
    → (start number : ℕ) × (s : Snap) × (stop : ℕ)
    × IsReachable (after_write_of v o t (dict_add_write v o t slot key box value pairs) start number s stop)
