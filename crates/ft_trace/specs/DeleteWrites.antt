-- A call that takes a key out of a dict, as a whole write. (profile)
use Rattle.std.specs.Prelude.{◌≡◌, ℕ, suc, ◌+◌, ◌-◌, ◌<◌, true, List, [], ◌∷◌, length, Some, None}
use Rattle.ft_model.specs.declared.call.Call.TheVariants as call
use Rattle.ft_model.specs.declared.call.DictCall.TheVariants as dict
use Rattle.ft_model.specs.declared.content.Content.TheVariants as content
use Rattle.ft_model.specs.declared.data.Key.{Key}
use Rattle.ft_model.specs.declared.reply.Reply.TheVariants as reply
use Rattle.ft_model.specs.Contents.{DictContent, has_key, dict_del}
use Rattle.ft_layout.specs.Words.{gone_kind, FitsKey}
use Rattle.ft_layout.specs.Containers.{IsDictWords}
use Rattle.ft_trace.specs.declared.Snap.{Snap}
use Rattle.ft_trace.specs.declared.View.{View}
use Rattle.ft_trace.specs.Addresses.{class_of, slots, places}
use Rattle.ft_trace.specs.Pictures.{entry_offset, entry_field, root_in}
use Rattle.ft_trace.specs.Carefuls.{HasLiveKey}
use Rattle.ft_trace.specs.Holds.{held_words, held_unboxed, known_state}
use Rattle.ft_trace.specs.Traces.{IsReachable}
use Rattle.ft_trace.specs.Grants.{MayWrite}
use Rattle.ft_trace.specs.WholeWrites.{Put, to_block, to_table, WholeWrite, at_commit, after_write_of}
use Rattle.ft_trace.specs.EntryWrites.{entry_closed}

-- before the commit the version of the entry is made odd, and its kind becomes that of a deleted key; n says how many
-- index slots there are
abbrev pub delete_puts : ℕ → List ℕ → ℕ → Key → List Put
delete_puts n words place key =
    to_table (entry_offset n place 0) (entry_field n words place 0 + 1)
    ∷ to_table (entry_offset n place 2) (gone_kind key)
    ∷ []

-- del d[k] for a key that is there, in the entry at this place; there is one pair fewer
abbrev pub dict_del_write : View → ℕ → ℕ → ℕ → Key → DictContent → WholeWrite
dict_del_write v o t place key pairs =
    record {
      root = None;
      early = to_block 1 (length pairs.pairs - 1) ∷ delete_puts (slots (class_of t)) (held_unboxed o v).table place key;
      call = call.Dict o (dict.Del key);
      reply = reply.Done;
      late = entry_closed (slots (class_of t)) (held_unboxed o v).table place;
    }

-- a pass with the lock of a dict may take out a key that is there, whatever other passes have done, where the words
-- that it puts stand for the dict without that key
abbrev pub KeysMayBeDeleted : Type 0
KeysMayBeDeleted =
    (v : View) (o t place : ℕ) (key : Key) (pairs : DictContent) → MayWrite v o
    → (known_state o v).content ≡ content.Dict pairs → root_in (held_words o v) ≡ suc t → place < places (class_of t)
    → HasLiveKey (slots (class_of t)) (held_unboxed o v).table place key → FitsKey key → has_key pairs.pairs key ≡ true
    → IsDictWords v.shape.texts (at_commit v o (dict_del_write v o t place key pairs)).block
    (0 ∷ 0 ∷ (at_commit v o (dict_del_write v o t place key pairs)).table) (Some (class_of t))
    (known_state o v).table.fill (dict_del pairs key)
    → (start number : ℕ) × (s : Snap) × (stop : ℕ)
    × IsReachable (after_write_of v o t (dict_del_write v o t place key pairs) start number s stop)
