-- Replies of look-ups without the lock: what the log shows of a key or an item is what the plain containers reply after
-- as many writes as the stamp says.
use Rattle.std.specs.Prelude.{◌≡◌, ◌⊎◌, ℕ, pos, ◌<◌, ◌≤◌, true, false, List, Option, Some, None, is_some}
use Rattle.std.specs.Option.{unwrap_or}
use Rattle.ft_model.specs.declared.call.Call.TheVariants as call
use Rattle.ft_model.specs.declared.call.DictCall.TheVariants as dict
use Rattle.ft_model.specs.declared.call.ListCall.TheVariants as list
use Rattle.ft_model.specs.declared.call.SetCall.TheVariants as set
use Rattle.ft_model.specs.declared.data.Key.{Key}
use Rattle.ft_model.specs.declared.data.Value.{Value}
use Rattle.ft_model.specs.declared.reply.Reply.{Reply}
use Rattle.ft_model.specs.declared.reply.Reply.TheVariants as reply
use Rattle.ft_model.specs.declared.reply.Raise.TheVariants as raise
use Rattle.ft_model.specs.declared.script.Kind.TheVariants as kind
use Rattle.ft_model.specs.TableUses.{StoredWorld, stored_newest}
use Rattle.ft_layout.specs.declared.slot.Stored.TheVariants.{Empty, Plain}
use Rattle.ft_layout.specs.Words.{FitsKey, IsStored}
use Rattle.ft_trace.specs.declared.Act.{Act}
use Rattle.ft_trace.specs.declared.Shape.{Shape}
use Rattle.ft_trace.specs.declared.View.{View}
use Rattle.ft_trace.specs.Addresses.{container_count, class_of, slots}
use Rattle.ft_trace.specs.Kinds.{rows}
use Rattle.ft_trace.specs.Pictures.{entry_offset, item_offset, walk_of}
use Rattle.ft_trace.specs.ContainerStates.{first_writes, kind_in, reply_in}
use Rattle.ft_trace.specs.LoggedLookUps.{Hit, Miss, Full, Bare, ItemHit, ItemPast, IsReadAt}
use Rattle.ft_trace.specs.Traces.{Event, history, Valid}
use Rattle.ft_trace.specs.TraceLaws.{HasView}
use Rattle.ft_trace.specs.HeldReads.{IsEntryReadHeld, IsItemReadHeld}

-- ---- what was read

-- the value of the entry at this place was read among these: its kind and its payload
abbrev pub IsValueRead : ℕ → ℕ → ℕ → ℕ → List Act → Type 0
IsValueRead t place kind payload mid =
    IsReadAt t (entry_offset (slots (class_of t)) place 4) (entry_offset (slots (class_of t)) place 5) kind payload mid

-- the value of the item at this place was read among these
abbrev pub IsItemRead : ℕ → ℕ → ℕ → ℕ → List Act → Type 0
IsItemRead t place kind payload mid = IsReadAt t (item_offset place 1) (item_offset place 2) kind payload mid

-- the slots of the key's probe were passed, up to one that was never used or all of them
abbrev pub IsAbsent : Shape → List Act → ℕ → ℕ → Key → ℕ → Type 0
IsAbsent k log o t key n =
    Miss log o t (rows (kind_in k.starts o) (class_of t)) (walk_of (kind_in k.starts o) k.texts (class_of t) key) key n
    ⊎ Full log o t (rows (kind_in k.starts o) (class_of t)) (walk_of (kind_in k.starts o) k.texts (class_of t) key) key
    n

-- ---- replies

-- `d[k]`, where this is at the key (Python manual, Mapping Types)
abbrev pub key_reply : Option Value → Reply
key_reply (Some value) = reply.Value value
key_reply None = reply.Raised raise.NoKey

-- `l[i]`, where this is at the index (Python manual, Sequence Types)
abbrev pub item_reply : Option Value → Reply
item_reply (Some value) = reply.Value value
item_reply None = reply.Raised raise.NoIndex

-- a dict replies so to the calls that look up a key, which has this value or none
pub record DictReplies (stored : StoredWorld) (o : ℕ) (key : Key) (found : Option Value) : Type 0 where
  pub get : reply_in stored (call.Dict o (dict.Get key)) ≡ key_reply found
  pub get_or : (default : Value)
      → reply_in stored (call.Dict o (dict.GetOr key default)) ≡ reply.Value (unwrap_or found default)
  pub has : reply_in stored (call.Dict o (dict.Has key)) ≡ reply.Truth (is_some found)

-- ---- laws

-- what is stored after the first n writes of the trace
abbrev pub stored_at : Shape → List Event → ℕ → StoredWorld
stored_at k es n = stored_newest k.starts (first_writes n (history es))

-- A key that was found in a dict is there at the stamp. The words that were read of its value are those of one value,
-- and with it the dict replies.
abbrev pub DictHitsAreReplied : Type 0
DictHitsAreReplied =
    (k : Shape) (es : List Event) → Valid k es → (o t place : ℕ) (key : Key) (n : ℕ) → o < container_count k
    → kind_in k.starts o ≡ kind.Dict → FitsKey key → place < rows kind.Dict (class_of t) → (j : ℕ) (u : View)
    → HasView k es j u → (h : Hit u.log o t place key n)
    → (reply_in (stored_at k es n) (call.Dict o (dict.Has key)) ≡ reply.Truth true)
    × ((kind payload : ℕ) → IsValueRead t place kind payload h.mid
    ⊎ IsEntryReadHeld k u.log o t place key n h kind payload
    → (value : Value) × IsStored kind payload (Plain value) × DictReplies (stored_at k es n) o key (Some value))

-- a key that was found in a set is there at the stamp
abbrev pub SetHitsAreReplied : Type 0
SetHitsAreReplied =
    (k : Shape) (es : List Event) → Valid k es → (o t place : ℕ) (key : Key) (n : ℕ) → o < container_count k
    → kind_in k.starts o ≡ kind.Set → FitsKey key → place < rows kind.Set (class_of t) → (j : ℕ) (u : View)
    → HasView k es j u → Hit u.log o t place key n
    → reply_in (stored_at k es n) (call.Set o (set.Has key)) ≡ reply.Truth true

-- a key that was not found on its probe, or where the root was read 0, is not there at the stamp
abbrev pub MissesAreReplied : Type 0
MissesAreReplied =
    (k : Shape) (es : List Event) → Valid k es → (o : ℕ) (key : Key) (n : ℕ) → o < container_count k → FitsKey key
    → (j : ℕ) (u : View) → HasView k es j u → ((t : ℕ) × IsAbsent k u.log o t key n) ⊎ Bare u.log o n
    → (kind_in k.starts o ≡ kind.Dict → DictReplies (stored_at k es n) o key None)
    × (kind_in k.starts o ≡ kind.Set → reply_in (stored_at k es n) (call.Set o (set.Has key)) ≡ reply.Truth false)

-- an item whose words were read is at its index at the stamp, where they are those of a value; words of nothing stand
-- where the list has no such item
abbrev pub ItemsAreReplied : Type 0
ItemsAreReplied =
    (k : Shape) (es : List Event) → Valid k es → (o t place n : ℕ) → o < container_count k
    → kind_in k.starts o ≡ kind.List → place < rows kind.List (class_of t) → (j : ℕ) (u : View) → HasView k es j u
    → (h : ItemHit u.log o t place n) (kind payload : ℕ)
    → IsItemRead t place kind payload h.mid ⊎ IsItemReadHeld k u.log o t place n h kind payload
    → ((value : Value) × IsStored kind payload (Plain value)
    × (reply_in (stored_at k es n) (call.List o (list.Get (pos place))) ≡ item_reply (Some value)))
    ⊎ (IsStored kind payload Empty
    × (reply_in (stored_at k es n) (call.List o (list.Get (pos place))) ≡ item_reply None))

-- a list has no item at an index past its table, and none where the root was read 0
abbrev pub PastItemsAreReplied : Type 0
PastItemsAreReplied =
    (k : Shape) (es : List Event) → Valid k es → (o index n : ℕ) → o < container_count k
    → kind_in k.starts o ≡ kind.List → (j : ℕ) (u : View) → HasView k es j u
    → ((t : ℕ) × (slots (class_of t) ≤ index) × ItemPast u.log o t n) ⊎ Bare u.log o n
    → reply_in (stored_at k es n) (call.List o (list.Get (pos index))) ≡ item_reply None
