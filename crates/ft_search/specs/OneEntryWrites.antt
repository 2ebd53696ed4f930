-- What a pass needs that writes the entries of a dict or a set under its lock, and what its call leaves of it.
use Rattle.std.specs.Prelude.{◌≡◌, ◌≢◌, ℕ, suc, ◌+◌, ◌-◌, ◌%◌, ◌<◌, true, false, List, ◌∷◌, slice_index, ◌==◌, ◌&&◌, Bool}
use Rattle.ft_model.specs.declared.call.Call.{Call}
use Rattle.ft_model.specs.declared.content.Content.{Content}
use Rattle.ft_model.specs.declared.content.Content.TheVariants as content
use Rattle.ft_model.specs.declared.data.Key.{Key}
use Rattle.ft_model.specs.declared.data.Value.{Value}
use Rattle.ft_model.specs.declared.reply.Reply.{Reply}
use Rattle.ft_model.specs.Answers.{is_write}
use Rattle.ft_model.specs.Contents.{dict_del, dict_set, set_discard}
use Rattle.ft_model.specs.TableUses.{StoredWorld, after_stored, would_pass}
use Rattle.ft_model.specs.Worlds.{no_hands, IsDeclared}
use Rattle.ft_layout.specs.Words.{FitsKey, stored_kind, stored_payload}
use Rattle.ft_trace.specs.declared.Shape.{Shape}
use Rattle.ft_trace.specs.declared.View.{View}
use Rattle.ft_trace.specs.Addresses.{container_count, class_of, slots}
use Rattle.ft_trace.specs.Acts.{has_lock, is_writing, owes}
use Rattle.ft_trace.specs.Boxes.{IsDoneWithBoxes, IsSettled}
use Rattle.ft_trace.specs.Carefuls.{HasLiveKey}
use Rattle.ft_trace.specs.DeleteWrites.{delete_puts}
use Rattle.ft_trace.specs.FitCalls.{FitsCall}
use Rattle.ft_trace.specs.Holds.{held_words, held_unboxed, known_state}
use Rattle.ft_trace.specs.Kinds.{rows, version_at, CarefulAs, IsKeyed}
use Rattle.ft_trace.specs.OddVersions.{Shut}
use Rattle.ft_trace.specs.BegunSections.{HasLocksOf}
use Rattle.ft_trace.specs.Pictures.{ContainerWords, root_in, entry_offset, entry_field, Represents}
use Rattle.ft_trace.specs.ContainerStates.{ContainerState, state_at, kind_in, changes}
use Rattle.ft_trace.specs.WholeWrites.{Put, to_block}
use Rattle.ft_bank.specs.declared.table.Table.{Table}
use Rattle.ft_bank.specs.SameBoxes.{HoldsFew}
use Rattle.ft_bank.specs.TableNames.{table_id, IsTableIn}
use Rattle.ft_bank.specs.WriteSteps.{MayHave, MayCommit, with_table}
use Rattle.ft_search.specs.MadeCalls.{IsReplyTo}
use Rattle.ft_layout.specs.declared.slot.Stored.TheVariants.{Plain}

-- The pass has the lock of the container o, a dict or a set, which it doesn't write, and its words stand for what the
-- pass knows of it. (profile)
pub record KnowsEntries (k : Shape) (o : ℕ) (v : View) : Type 0 where
  pub container : o < container_count k
  pub keyed : IsKeyed (kind_in k.starts o)
  pub locked : has_lock o v.log ≡ true
  pub even : is_writing o v.log ≡ false
  pub stands : Represents k.texts (held_unboxed o v) (known_state o v)

-- The pass may write the container o, a dict or a set: it has its lock, and its words stand for what the pass knows of
-- it; it writes no container, has lowered no count of a class that it hasn't raised again, holds no reference for a box
-- and makes none, and has a call left. (profile)
pub record MayWriteEntries (k : Shape) (o : ℕ) (v : View) : Type 0 where
  pub container : o < container_count k
  pub keyed : IsKeyed (kind_in k.starts o)
  pub locked : has_lock o v.log ≡ true
  pub even : (p : ℕ) → is_writing p v.log ≡ false
  pub stands : Represents k.texts (held_unboxed o v) (known_state o v)
  pub owes : owes v.log ≡ 0
  pub boxes : IsDoneWithBoxes k v.log
  pub left : 0 < v.left

-- It may begin a write of the container o: the same, but that it may hold few references for boxes, and may have made
-- boxes, where what it has to do with them is settled. (profile)
pub record MayBeginEntries (k : Shape) (o : ℕ) (v : View) : Type 0 where
  pub container : o < container_count k
  pub keyed : IsKeyed (kind_in k.starts o)
  pub locked : has_lock o v.log ≡ true
  pub even : (p : ℕ) → is_writing p v.log ≡ false
  pub stands : Represents k.texts (held_unboxed o v) (known_state o v)
  pub owes : owes v.log ≡ 0
  pub settled : IsSettled v.log
  pub few : HoldsFew v
  pub left : 0 < v.left

-- the root of the container names this table
pub record HasTable (k : Shape) (o : ℕ) (table : Table) (v : View) : Type 0 where
  pub table_in : IsTableIn k table
  pub root : root_in (held_unboxed o v) ≡ suc (table_id table)

-- The pass writes the container o, a dict or a set, whose root names the table; what it has to do with its own boxes is
-- settled, and it holds few references. (profile)
pub record WritesEntries (k : Shape) (o : ℕ) (table : Table) (v : View) : Type 0 where
  pub container : o < container_count k
  pub keyed : IsKeyed (kind_in k.starts o)
  pub table_in : IsTableIn k table
  pub locked : has_lock o v.log ≡ true
  pub odd : is_writing o v.log ≡ true
  pub root : root_in (held_unboxed o v) ≡ suc (table_id table)
  pub settled : IsSettled v.log
  pub few : HoldsFew v

-- A call is a write of the container o that takes no table: the plain containers reply so to it, whatever else the bank
-- has that agrees with what the pass knows, and o has this content and this table then; the pass has the locks of the
-- containers that it names, and none passes its greatest length. (Python manual, Mapping Types, Set Types)
pub record Leaves (o : ℕ) (called : Call) (said : Reply) (left : ContainerState) (v : View) : Type 0 where
  pub write : is_write called said ≡ true
  pub changed : changes called ≡ o
  pub words : FitsCall called
  pub locks : HasLocksOf called v.log
  pub replied : IsReplyTo called said v
  pub declared : (stored : StoredWorld) → MayHave v stored → IsDeclared stored.world no_hands called
  pub fits : (stored : StoredWorld) → MayHave v stored → would_pass stored.world called ≡ false
  pub left_is : (stored : StoredWorld) → MayHave v stored → state_at (after_stored stored called) o ≡ left

-- the place is one of an entry of the container's table that is there with this key
pub record IsLiveEntry (k : Shape) (o : ℕ) (table : Table) (place : ℕ) (key : Key) (v : View) : Type 0 where
  pub low : place < rows (kind_in k.starts o) (class_of (table_id table))
  pub live : HasLiveKey (slots (class_of (table_id table))) (held_unboxed o v).table place key
  pub fits : FitsKey key

-- what a dict or a set has once a key is taken out (Python manual, Mapping Types, Set Types)
abbrev pub without_key : Content → Key → Content
without_key (content.Dict dict) key = content.Dict (dict_del dict key)
without_key (content.Set set) key = content.Set (set_discard set key)
without_key (content.List values) key = content.List values
without_key (content.Deque deque) key = content.Deque deque

-- the words of a container once the version of the entry at a place of its table t is raised by one
abbrev pub raised_at : ℕ → ℕ → ContainerWords → ContainerWords
raised_at t place x =
    with_table x (entry_offset (slots (class_of t)) place 0) (entry_field (slots (class_of t)) x.table place 0 + 1)

-- each entry of the table t of the container o, but the one at this place, has the words that it had, as they stand
abbrev pub KeepsOtherEntries : ℕ → ℕ → ℕ → View → View → Type 0
KeepsOtherEntries o t place v w =
    (other word : ℕ) → other ≢ place → word < 8
    → entry_field (slots (class_of t)) (held_words o w).table other word
    ≡ entry_field (slots (class_of t)) (held_words o v).table other word

-- A pass that has put the words of the container o may commit this call, with this reply, and then make the version of
-- the entry at this place even: the call changes o, and leaves it with what the words say but for that version, the
-- only one that is odd. (profile)
pub record MayFinish (o : ℕ) (table : Table) (place : ℕ) (called : Call) (said : Reply) (v : View) : Type 0 where
  pub may : MayCommit v called said
  pub changed : changes called ≡ o
  pub left : ContainerState
  pub left_is : (stored : StoredWorld) → MayHave v stored → state_at (after_stored stored called) o ≡ left
  pub odd : entry_field (slots (class_of (table_id table))) (held_unboxed o v).table place 0 % 2 ≡ 1
  pub close : CarefulAs (kind_in v.shape.starts o) (class_of (table_id table)) (held_unboxed o v).table left.content
      (entry_offset (slots (class_of (table_id table))) place 0)
      (entry_field (slots (class_of (table_id table))) (held_unboxed o v).table place 0 + 1)
  pub stands : Represents v.shape.texts (raised_at (table_id table) place (held_unboxed o v)) left
  pub shut : Shut (version_at (kind_in v.shape.starts o) (class_of (table_id table)))
      (rows (kind_in v.shape.starts o) (class_of (table_id table)))
      (raised_at (table_id table) place (held_unboxed o v)).table

-- What a deletion puts before the commit: it counts one pair or element fewer, makes the version of the entry odd, and
-- then changes the kind of its key to that of a deleted one. (profile)
abbrev pub deletion : ℕ → ℕ → Key → ContainerWords → List Put
deletion t place key x =
    to_block 1 (slice_index x.block 1 - 1) ∷ delete_puts (slots (class_of t)) x.table place key

-- whether these two words of an entry, the kind and the payload of what it stores, are those of the value
abbrev pub are_of_value : ℕ → ℕ → Value → Bool
are_of_value kind payload value = (kind == stored_kind (Plain value)) && (payload == stored_payload (Plain value))

-- what a dict has once a value is at a key (Python manual, Mapping Types); nothing else has values at keys
abbrev pub with_value_at : Content → Key → Value → Content
with_value_at (content.Dict dict) key value = content.Dict (dict_set dict key value)
with_value_at (content.Set set) key value = content.Set set
with_value_at (content.List values) key value = content.List values
with_value_at (content.Deque deque) key value = content.Deque deque
