-- What the steps of a write ask of the pass that makes them, in what it knows.
use Rattle.std.specs.Prelude.{All, map, ◌≡◌, ◌≢◌, ◌⊎◌, ℕ, suc, ◌+◌, ◌<◌, ◌≤◌, true, false, length, [], Option, Some, None, slice_index, slice_set}
use Rattle.ft_model.specs.declared.call.Call.{Call}
use Rattle.ft_model.specs.declared.reply.Reply.{Reply}
use Rattle.ft_model.specs.Answers.{is_write}
use Rattle.ft_model.specs.TablesInOrder.{AreTablesInOrder}
use Rattle.ft_model.specs.Histories.{IsReplied}
use Rattle.ft_model.specs.TableUses.{StoredWorld, after_stored, takes_in, would_pass, table_at}
use Rattle.ft_model.specs.Worlds.{kind_of, no_hands, IsDeclared}
use Rattle.ft_trace.specs.declared.View.{View}
use Rattle.ft_trace.specs.Addresses.{container_count, class_of}
use Rattle.ft_trace.specs.Acts.{has_lock, is_writing, has_committed, has_emptied, owes, stage, used}
use Rattle.ft_trace.specs.ContainerStates.{state_at, kind_in, kinds_in, changes, may_empty, reply_in}
use Rattle.ft_trace.specs.Pictures.{ContainerWords, root_in}
use Rattle.ft_trace.specs.Kinds.{rows, version_at, SoundAs, CarefulAs, ClearAs}
use Rattle.ft_trace.specs.OddVersions.{Shut, Timely}
use Rattle.ft_trace.specs.FitCalls.{FitsCall, FitsContent}
use Rattle.ft_trace.specs.BegunSections.{HasLocksOf}
use Rattle.ft_layout.specs.Starts.{kind_word, payload_word}
use Rattle.ft_trace.specs.Boxes.{named_in_root, references_held, knows_box_word, place_use, use_taken, HasReferences, StoresTaken}
use Rattle.ft_trace.specs.WholeWrites.{IsNoValue}
use Rattle.ft_trace.specs.declared.Act.TheVariants.{PutTable}
use Rattle.ft_trace.specs.Holds.{held_words, held_unboxed, known_state, hand_unboxed, AgreesWith}
use Rattle.ft_bank.specs.declared.table.Table.{Table}
use Rattle.ft_bank.specs.Locks.{KnowsSame}
use Rattle.ft_bank.specs.SameBoxes.{named_in_words, HoldsFew}
use Rattle.ft_bank.specs.TableNames.{table_id, root_for, words_for, unboxed_for}

-- a stored world that the bank may have where a pass knows this: it has every container, those whose locks the pass has
-- as the pass knows them, each is of its kind, its tables are in order and no dict is split, and words can represent
-- what it has
pub record MayHave (v : View) (stored : StoredWorld) : Type 0 where
  pub agrees : AgreesWith v stored
  pub containers : length stored.world ≡ container_count v.shape
  pub kinds : map kind_of stored.world ≡ kinds_in v.shape.starts
  pub order : AreTablesInOrder stored
  pub unsplit : (place : ℕ) → (table_at stored.tables place).keys ≡ []
  pub words : All FitsContent stored.world

-- The call may be written with this reply, whatever the bank has that agrees with what the pass knows. It is a write of
-- a container whose version the pass has made odd, words can represent its keys and values, and the pass has a call
-- left. The reply is that of the plain containers, which have what the call names, and none passes its greatest length.
-- In the table that stays each entry or item with an even version says the same after the call, the call changes what
-- is in each with an odd one, and each that is added is there. Where the pass has lowered a count and not raised it
-- again, the call takes a table of that class; where it has put 0 into the root, the call is one that may. The pass has
-- the lock of each container that the call names. A box that no write of the pass has stored yet is stored by this one.
pub record MayCommit (v : View) (call : Call) (reply : Reply) : Type 0 where
  pub write : is_write call reply ≡ true
  pub container : changes call < container_count v.shape
  pub odd : is_writing (changes call) v.log ≡ true
  pub left : 0 < v.left
  pub words : FitsCall call
  pub reply_is : (stored : StoredWorld) → MayHave v stored → IsReplied call reply (reply_in stored call)
  pub declared : (stored : StoredWorld) → MayHave v stored → IsDeclared stored.world no_hands call
  pub fits : (stored : StoredWorld) → MayHave v stored → would_pass stored.world call ≡ false
  pub clear : (stored : StoredWorld) (t : ℕ) → MayHave v stored → root_in (held_words (changes call) v) ≡ suc t
      → ClearAs (kind_in v.shape.starts (changes call)) v.shape.texts (class_of t) (held_unboxed (changes call) v).table
      (known_state (changes call) v).content (state_at (after_stored stored call) (changes call)).content
  pub takes : (stored : StoredWorld) (class : ℕ) → MayHave v stored → owes v.log ≡ suc class
      → takes_in stored call ≡ Some class
  pub empties : has_emptied (changes call) v.log ≡ true → may_empty call ≡ true
  pub locks : HasLocksOf call v.log
  pub stores : (stored : StoredWorld) → MayHave v stored → StoresTaken v.shape stored.world v.log call

-- What a commit leaves of the stored world that it finds, which is one that the bank may have: that is what the pass
-- knows of every container then.
pub record Committed (v w : View) (call : Call) : Type 0 where
  pub found : StoredWorld
  pub has : MayHave v found
  pub left : (p : ℕ) → known_state p w ≡ state_at (after_stored found call) p

-- no version of an entry or item is odd in the table that the root of o names, as the pass knows it
abbrev pub IsShut : ℕ → View → Type 0
IsShut o v =
    (t : ℕ) → root_in (held_words o v) ≡ suc t
    → Shut (version_at (kind_in v.shape.starts o) (class_of t)) (rows (kind_in v.shape.starts o) (class_of t))
    (held_unboxed o v).table

-- The pass has the references for the boxes that the table of this root names: those that it holds, and those of the
-- container's words as they are. It knows the value of each that the container doesn't name yet, and holds few. The
-- table names no box that no write of the pass has stored yet.
pub record HasRootReferences (v : View) (o : ℕ) (root : Option Table) : Type 0 where
  pub few : HoldsFew v
  pub enough : (b : ℕ) → named_in_root b (kind_in v.shape.starts o) (root_for root) (words_for root v)
      ≤ references_held v.shape b v.log + named_in_words b (kind_in v.shape.starts o) (held_words o v)
  pub known : (b : ℕ) → named_in_words b (kind_in v.shape.starts o) (held_words o v) ≡ 0
      → named_in_root b (kind_in v.shape.starts o) (root_for root) (words_for root v) ≢ 0
      → (knows_box_word v.shape b kind_word v.log ≡ true) × (knows_box_word v.shape b payload_word v.log ≡ true)
  pub stored : (b : ℕ) → place_use b v.log ≡ use_taken
      → named_in_root b (kind_in v.shape.starts o) (root_for root) (words_for root v) ≡ 0

-- The root of o may become this. A table that it names is fresh in hand, as it must be for readers of the content, and
-- its versions are 0, or before the commit at most 1. No version is odd in the table that the root names now, and the
-- pass has taken no other out of a root since its last commit. 0 is put before the commit alone. The pass has the
-- references for the boxes that the table names.
pub record MayPutRoot (v : View) (o : ℕ) (root : Option Table) : Type 0 where
  pub odd : is_writing o v.log ≡ true
  pub fresh : (t : Table) → root ≡ Some t → stage (table_id t) v.log ≡ 1
  pub sound : (t : Table) → root ≡ Some t
      → SoundAs (kind_in v.shape.starts o) v.shape.texts (class_of (table_id t)) (hand_unboxed o (table_id t) v)
      (known_state o v).content
  pub young : (t : Table) (p : ℕ) → root ≡ Some t → p < rows (kind_in v.shape.starts o) (class_of (table_id t))
      → (slice_index (hand_unboxed o (table_id t) v) (version_at (kind_in v.shape.starts o) (class_of (table_id t)) p) ≤ 1)
      × (has_committed o v.log ≡ true
      → slice_index (hand_unboxed o (table_id t) v) (version_at (kind_in v.shape.starts o) (class_of (table_id t)) p) ≡ 0)
  pub shut : IsShut o v
  pub spare : root_in (held_words o v) ≢ 0 → used v.log ≡ false
  pub early : root ≡ None → has_committed o v.log ≡ false
  pub references : HasRootReferences v o root

-- the words of a container with one of its block changed that is not the root
abbrev pub with_block : ContainerWords → ℕ → ℕ → ContainerWords
with_block x i value = record { block = slice_set x.block i value; table = x.table }

-- the words of a container with one of its table changed
abbrev pub with_table : ContainerWords → ℕ → ℕ → ContainerWords
with_table x i value = record { block = x.block; table = slice_set x.table i value }

-- the words of a container with this root, and of the table in hand that it names
abbrev pub with_root : ContainerWords → Option Table → View → ContainerWords
with_root x root v = record { block = slice_set x.block 0 (root_for root); table = words_for root v }

-- and what they read through boxes, for the container o
abbrev pub with_unboxed_root : ContainerWords → ℕ → Option Table → View → ContainerWords
with_unboxed_root x o root v = record { block = slice_set x.block 0 (root_for root); table = unboxed_for o root v }

-- A word may be put with the references that it needs. One that is no value's needs none, where the pass holds few.
abbrev pub HasReferencesFor : View → ℕ → ℕ → ℕ → ℕ → Type 0
HasReferencesFor v o t i value =
    (IsNoValue (kind_in v.shape.starts o) (class_of t) i × HoldsFew v)
    ⊎ HasReferences v.shape v.log (PutTable o t i value) o

-- The word of the table that the root of o names may become this while others read it without the lock. A version of an
-- entry or item becomes odd before the commit of the write, and even after it. The pass has the references that the word
-- needs.
pub record IsCareful (v : View) (o t i value : ℕ) : Type 0 where
  pub care : CarefulAs (kind_in v.shape.starts o) (class_of t) (held_unboxed o v).table (known_state o v).content i value
  pub timely : Timely (version_at (kind_in v.shape.starts o) (class_of t))
      (rows (kind_in v.shape.starts o) (class_of t)) i
      value (has_committed o v.log)
  pub references : HasReferencesFor v o t i value

-- the pass knows the same as before of each container whose lock it has and that it doesn't write
abbrev pub KeepsUnwritten : View → View → Type 0
KeepsUnwritten v w =
    (p : ℕ) → p < container_count v.shape → has_lock p v.log ≡ true → is_writing p v.log ≡ false
    → KnowsSame p v w
