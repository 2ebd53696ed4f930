-- Calls that add a key to a set whose table has room, or take one out, as whole writes. (profile)
use Rattle.std.specs.Prelude.{◌≡◌, ℕ, suc, ◌+◌, ◌-◌, ◌<◌, false, List, [], ◌∷◌, ◌++◌, length, Some, None}
use Rattle.ft_model.specs.declared.call.Call.TheVariants as call
use Rattle.ft_model.specs.declared.call.SetCall.TheVariants as set
use Rattle.ft_model.specs.declared.content.Content.TheVariants as content
use Rattle.ft_model.specs.declared.data.Key.{Key}
use Rattle.ft_model.specs.declared.reply.Reply.TheVariants as reply
use Rattle.ft_model.specs.Classes.{set_entries}
use Rattle.ft_model.specs.Contents.{SetContent, has_element, set_add, set_discard}
use Rattle.ft_layout.specs.Words.{key_kind, key_payload, FitsKey}
use Rattle.ft_layout.specs.Tables.{hash_of}
use Rattle.ft_layout.specs.Containers.{IsSetWords}
use Rattle.ft_trace.specs.declared.Snap.{Snap}
use Rattle.ft_trace.specs.declared.View.{View}
use Rattle.ft_trace.specs.Addresses.{class_of, slots}
use Rattle.ft_trace.specs.Pictures.{index_field, entry_offset, entry_field, root_in}
use Rattle.ft_trace.specs.Carefuls.{HasLiveKey}
use Rattle.ft_trace.specs.Holds.{held_words, held_unboxed, known_state}
use Rattle.ft_trace.specs.Traces.{IsReachable}
use Rattle.ft_trace.specs.Grants.{MayWrite}
use Rattle.ft_trace.specs.WholeWrites.{Put, to_block, to_table, WholeWrite, at_commit, after_write_of}
use Rattle.ft_trace.specs.EntryWrites.{entry_closed}
use Rattle.ft_trace.specs.KeyWrites.{count_puts}
use Rattle.ft_trace.specs.DeleteWrites.{delete_puts}

-- the words of a new entry of a set: its version is made odd, its kind is put last, and then the index slot that names
-- it; nothing is stored, and the words of the value are 0 as they were
abbrev pub element_puts : ℕ → List ℕ → ℕ → ℕ → ℕ → Key → ℕ → List Put
element_puts n words place slot hash key serial =
    to_table (entry_offset n place 0) (entry_field n words place 0 + 1)
    ∷ to_table (entry_offset n place 1) hash
    ∷ to_table (entry_offset n place 3) (key_payload key)
    ∷ to_table (entry_offset n place 6) serial
    ∷ to_table (entry_offset n place 2) (key_kind key)
    ∷ to_table slot (place + 1)
    ∷ []

-- s.add(k) for a key that isn't there: its entry is the next that was never used
abbrev pub set_add_write : View → ℕ → ℕ → ℕ → Key → SetContent → WholeWrite
set_add_write v o t slot key elements =
    record {
      root = None;
      early = count_puts (length elements.elements + 1) ((known_state o v).table.fill + 1) (elements.next + 1)
          ++ element_puts (slots (class_of t)) (held_unboxed o v).table (known_state o v).table.fill slot
          (hash_of v.shape.texts key) key elements.next;
      call = call.Set o (set.Add key);
      reply = reply.Done;
      late = entry_closed (slots (class_of t)) (held_unboxed o v).table (known_state o v).table.fill;
    }

-- a pass with the lock of a set whose table has room may add a key, whatever other passes have done, where the index
-- slot was never used and the words that it puts stand for the set with that key
abbrev pub ElementsMayBeAdded : Type 0
ElementsMayBeAdded =
    (v : View) (o t slot : ℕ) (key : Key) (elements : SetContent) → MayWrite v o
    → (known_state o v).content ≡ content.Set elements → root_in (held_words o v) ≡ suc t
    → (known_state o v).table.fill < set_entries (class_of t) → slot < slots (class_of t)
    → index_field (held_unboxed o v).table slot ≡ 0 → FitsKey key → has_element elements.elements key ≡ false
    → IsSetWords v.shape.texts (at_commit v o (set_add_write v o t slot key elements)).block
    (0 ∷ 0 ∷ (at_commit v o (set_add_write v o t slot key elements)).table) (Some (class_of t))
    ((known_state o v).table.fill + 1) (set_add elements key)
    → (start number : ℕ) × (s : Snap) × (stop : ℕ)
    × IsReachable (after_write_of v o t (set_add_write v o t slot key elements) start number s stop)

-- s.discard(k) for a key that is there, in the entry at this place; there is one element fewer
abbrev pub set_discard_write : View → ℕ → ℕ → ℕ → Key → SetContent → WholeWrite
set_discard_write v o t place key elements =
    record {
      root = None;
      early = to_block 1 (length elements.elements - 1)
          ∷ delete_puts (slots (class_of t)) (held_unboxed o v).table place key;
      call = call.Set o (set.Discard key);
      reply = reply.Done;
      late = entry_closed (slots (class_of t)) (held_unboxed o v).table place;
    }

-- a pass with the lock of a set may take out a key that is there, whatever other passes have done, where the words that
-- it puts stand for the set without that key
abbrev pub ElementsMayBeDiscarded : Type 0
ElementsMayBeDiscarded =
    (v : View) (o t place : ℕ) (key : Key) (elements : SetContent) → MayWrite v o
    → (known_state o v).content ≡ content.Set elements → root_in (held_words o v) ≡ suc t
    → place < set_entries (class_of t)
    → HasLiveKey (slots (class_of t)) (held_unboxed o v).table place key → FitsKey key
    → IsSetWords v.shape.texts (at_commit v o (set_discard_write v o t place key elements)).block
    (0 ∷ 0 ∷ (at_commit v o (set_discard_write v o t place key elements)).table) (Some (class_of t))
    (known_state o v).table.fill (set_discard elements key)
    → (start number : ℕ) × (s : Snap) × (stop : ℕ)
    × IsReachable (after_write_of v o t (set_discard_write v o t place key elements) start number s stop)
