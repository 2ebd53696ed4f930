-- A dict or a set in the midst of a write that puts the keys of another one into it.
use Rattle.std.specs.Prelude.{◌≡◌, ◌≢◌, ◌⊎◌, ℕ, ◌+◌, ◌^◌, ◌%◌, ◌<◌, ◌≤◌, true, not, ◌&&◌, List, [], ◌∷◌, drop, length, All, AllPairs, Option, Some, None, if◌then◌else◌}
use Rattle.ft_model.specs.declared.content.Content.{Content}
use Rattle.ft_model.specs.declared.data.Key.{Key}
use Rattle.ft_model.specs.declared.script.Kind.{Kind}
use Rattle.ft_model.specs.Worlds.{kind_of, length_of, serial_of}
use Rattle.ft_layout.specs.declared.slot.Pair.{Pair}
use Rattle.ft_layout.specs.declared.slot.Ref.{Ref}
use Rattle.ft_layout.specs.declared.slot.Slot.{Slot}
use Rattle.ft_layout.specs.declared.slot.Slot.TheVariants.{Gone, Live, Never}
use Rattle.ft_layout.specs.declared.slot.Stored.{Stored}
use Rattle.ft_layout.specs.declared.slot.Stored.TheVariants.{Boxed, Empty, Plain}
use Rattle.ft_layout.specs.Containers.{class_mask}
use Rattle.ft_layout.specs.Tables.{UsedEntry, is_live}
use Rattle.ft_layout.specs.Words.{FitsKey}
use Rattle.ft_keys.specs.declared.walk.Way.{Way}
use Rattle.ft_keys.specs.Ways.{IsTableOf}
use Rattle.ft_trace.specs.declared.Shape.{Shape}
use Rattle.ft_trace.specs.declared.View.{View}
use Rattle.ft_trace.specs.Addresses.{class_of, slots}
use Rattle.ft_trace.specs.BoxWords.{box_kind}
use Rattle.ft_trace.specs.Carefuls.{IsDead, HasLiveKey}
use Rattle.ft_trace.specs.EntryWrites.{value_puts}
use Rattle.ft_trace.specs.Holds.{held_words, held_unboxed, known_state}
use Rattle.ft_trace.specs.Kinds.{rows, under}
use Rattle.ft_trace.specs.Pictures.{ContainerWords, entry_field}
use Rattle.ft_trace.specs.ContainerStates.{kind_in}
use Rattle.ft_trace.specs.WholeWrites.{Put}
use Rattle.ft_bank.specs.declared.table.Table.{Table}
use Rattle.ft_bank.specs.BoxSteps.{box_id}
use Rattle.ft_bank.specs.TableNames.{table_id}
use Rattle.ft_search.specs.declared.spots.Spot.{Spot}
use Rattle.ft_search.specs.declared.spots.Spot.TheVariants as spot
use Rattle.ft_search.specs.Held.{IsHeldAt}
use Rattle.ft_search.specs.HeldValues.{NamesBoxAt}
use Rattle.ft_search.specs.Rounds.{kind_by}
use Rattle.ft_new_keys.specs.declared.counts.Counts.{Counts}
use Rattle.ft_new_keys.specs.KeyGrowth.{IsFreeFor, holds}
use Rattle.ft_new_keys.specs.Placing.{StoresAs, with_key}
use Rattle.ft_merging.specs.declared.sharing.EntryAt.{EntryAt}
use Rattle.ft_merging.specs.Joining.{HaveEqual}
use Rattle.ft_merging.specs.Internal.EntriesAtOnce.{IsMidway, version_of}
use Rattle.ft_search.specs.OneEntryWrites.{are_of_value}

-- the pair that words of an entry say, if one is there
abbrev pub pair_in : Slot → Option Pair
pair_in (Live pair) = Some pair
pair_in Never = None
pair_in (Gone key serial) = None

-- ---- used entries, put one after the other into a content

-- what an entry that is there stores is put at its key
abbrev pub with_used : Content → Key → Option Stored → Content
with_used content key None = content
with_used content key (Some stored) = with_key content key stored

abbrev pub joined_used : Content → List UsedEntry → Content
joined_used content [] = content
joined_used content (entry ∷ later) = joined_used (with_used content entry.key entry.stored) later

-- how many of them are there with a key that the content hasn't
abbrev pub lacking : Content → List UsedEntry → ℕ
lacking content [] = 0
lacking content (entry ∷ later) =
    (if is_live entry && not (holds content entry.key) then 1 else 0) + lacking content later

-- two of them that are there have other keys
abbrev pub Apart : UsedEntry → UsedEntry → Type 0
Apart a b = is_live a ≡ true → is_live b ≡ true → a.key ≢ b.key

-- none of them is there with the key
abbrev pub NoneOf : Key → List UsedEntry → Type 0
NoneOf key = All (λ (entry : UsedEntry). is_live entry ≡ true → key ≢ entry.key)

-- an entry stores what a dict has at a key, or nothing as a set does
abbrev pub StoresIn : Kind → UsedEntry → Type 0
StoresIn kind entry = (stored : Stored) → entry.stored ≡ Some stored → StoresAs kind stored

-- These entries can still be put, and are apart: with them the content comes to this one, and as many entries of its
-- table are used then.
pub record AreLeft (kind : Kind) (content goal : Content) (fill end : ℕ) (left : List UsedEntry) : Type 0 where
  pub comes : joined_used content left ≡ goal
  pub fits : fill + lacking content left ≡ end
  pub few : length_of content + lacking content left ≤ 65536
  pub serials : serial_of content + lacking content left < 2 ^ 63
  pub apart : AllPairs Apart left
  pub stores : All (StoresIn kind) left

-- ---- the write

-- no entry whose version is odd has a key that was deleted
abbrev pub NoneGone : ℕ → ℕ → ContainerWords → Type 0
NoneGone t m x =
    (p : ℕ) (key : Key) → p < m → version_of t x p % 2 ≡ 1 → IsDead (slots (class_of t)) x.table p key → ⊥

-- an entry whose version is odd has a key that none of these has, which are still to be put
abbrev pub NoneAhead : ℕ → ℕ → ContainerWords → List UsedEntry → Type 0
NoneAhead t m x left =
    (p : ℕ) (key : Key) → p < m → version_of t x p % 2 ≡ 1 → FitsKey key → HasLiveKey (slots (class_of t)) x.table p key
    → NoneOf key left

-- the words of entries before this place are as they were
abbrev pub KeepsBelow : ℕ → ℕ → ContainerWords → ContainerWords → Type 0
KeepsBelow t place before after =
    (p word : ℕ) → p < place → word < 8
    → entry_field (slots (class_of t)) after.table p word ≡ entry_field (slots (class_of t)) before.table p word

-- In the container o, which counts this, the keys of the container t are put whose entries come before this place of
-- its table; when all are, o has this content and that many used entries. No key that it had is out. (profile)
pub record IsJoining (k : Shape) (o : ℕ) (way : Way) (own : Table) (t : ℕ) (table : Table) (goal : Content) (end : ℕ)
    (place : ℕ) (counts : Counts) (v : View) : Type 0 where
  pub mid : Content
  pub midway : IsMidway k o own (record {
    content = mid;
    table = record { class = Some (class_of (table_id own)); fill = counts.fill; keys = [] };
  }) v
  pub kept : (key : Key) → under (known_state o v).content key ≢ [] → under mid key ≢ []
  pub same_kind : kind_of mid ≡ kind_by way
  pub kind_is : kind_in k.starts o ≡ kind_by way
  pub count_is : counts.count ≡ length_of mid
  pub next_is : counts.next ≡ serial_of mid
  pub alive : NoneGone (table_id own) (rows (kind_in k.starts o) (class_of (table_id own))) (held_unboxed o v)
  pub room : end ≤ rows (kind_in k.starts o) (class_of (table_id own))
  pub used : List UsedEntry
  pub filled : length used ≡ (known_state t v).table.fill
  pub source : IsTableOf way k.texts (class_mask (class_of (table_id table))) used (0 ∷ 0 ∷ (held_unboxed t v).table)
  pub left : AreLeft (kind_by way) mid goal counts.fill end (drop place used)
  pub ahead : NoneAhead (table_id own) (rows (kind_in k.starts o) (class_of (table_id own)))
      (held_unboxed o v) (drop place used)

-- Where a key is in the table of a container that is written, whose words stand for this content: in the entry at this
-- place, with these words of its value; or nowhere, and this slot is the one for it. No search there ends otherwise.
abbrev pub IsSought : Shape → Way → Table → Key → ContainerWords → Content → Spot → Type 0
IsSought k way own key x mid (spot.At table place kind payload) =
    (place < rows (kind_by way) (class_of (table_id own)))
    × HasLiveKey (slots (class_of (table_id own))) x.table place key
    × (holds mid key ≡ true)
    × (kind ≡ entry_field (slots (class_of (table_id own))) x.table place 4)
    × (payload ≡ entry_field (slots (class_of (table_id own))) x.table place 5)
IsSought k way own key x mid (spot.Free table slot) =
    IsFreeFor k.texts way own.class key x.table slot × IsHeldAt mid key None
IsSought k way own key x mid spot.Bare = ⊥

-- what is put before the commit where a key is that is there: a value, with the entry's version odd, where the entry
-- has another one; an element of a set has none
abbrev pub stored_puts : ℕ → List ℕ → ℕ → Stored → List Put
stored_puts n words place (Plain value) =
    if are_of_value (entry_field n words place 4) (entry_field n words place 5) value then []
    else value_puts n words place None value
stored_puts n words place Empty = []
stored_puts n words place (Boxed block) = []

-- ---- values in boxes

-- where the value of the one entry named a box, that of the other entry names it then
abbrev pub SharesBox : EntryAt → EntryAt → View → View → Type 0
SharesBox from to v w =
    entry_field (slots (class_of (table_id from.table))) (held_words from.o v).table from.place 4 ≡ box_kind
    → (entry_field (slots (class_of (table_id to.table))) (held_words to.o w).table to.place 4 ≡ box_kind)
    × (entry_field (slots (class_of (table_id to.table))) (held_words to.o w).table to.place 5
    ≡ entry_field (slots (class_of (table_id from.table))) (held_words from.o v).table from.place 5)

-- Where the value of an entry before this place of the table of the dict t names a box, the entry of its key in the table
-- of the dict o names that box; or o had an equal value at the key before the call.
abbrev pub SharesBelow : ℕ → ℕ → Table → ℕ → View → Type 0
SharesBelow o t table place v =
    (p : ℕ) (key : Key) (b : Ref) → p < place → FitsKey key
    → HasLiveKey (slots (class_of (table_id table))) (held_unboxed t v).table p key
    → entry_field (slots (class_of (table_id table))) (held_words t v).table p 4 ≡ box_kind
    → entry_field (slots (class_of (table_id table))) (held_words t v).table p 5 ≡ box_id b
    → NamesBoxAt o key b v ⊎ HaveEqual o t key v
