-- A whole write of one container by a pass that has its lock, in pieces: a root that is put, puts before the commit,
-- the commit, and puts after it. Which words it may put is said of the words and the content that the pass knows alone.
-- The words are those that the container reads through boxes; a value that is put stands in place, or in a box.
use Rattle.std.specs.Prelude.{◌≡◌, ◌≢◌, ℕ, zero, suc, ◌-◌, ◌*◌, ◌^◌, ◌%◌, ◌<◌, ◌≤◌, ◌==◌, Bool, true, false, cond, List, [], ◌∷◌, Option, Some, None, slice_index, slice_set}
use Rattle.ft_model.specs.declared.call.Call.{Call}
use Rattle.ft_model.specs.declared.reply.Reply.{Reply}
use Rattle.ft_model.specs.declared.content.Content.{Content}
use Rattle.ft_model.specs.declared.script.Kind.{Kind}
use Rattle.ft_model.specs.Answers.{is_write}
use Rattle.ft_model.specs.Histories.{IsReplied}
use Rattle.ft_model.specs.Worlds.{no_hands, IsDeclared}
use Rattle.ft_model.specs.TableUses.{stored_newest, takes_in, would_pass}
use Rattle.ft_trace.specs.declared.Act.{Act}
use Rattle.ft_trace.specs.declared.Act.TheVariants.{StartWrite, PutRoot, PutBlock, PutTable, Commit, StopWrite, Unlock}
use Rattle.ft_trace.specs.declared.Shape.{Shape}
use Rattle.ft_trace.specs.declared.Snap.{Snap}
use Rattle.ft_trace.specs.declared.View.{View}
use Rattle.ft_trace.specs.Addresses.{container_count, class_of, size, IsTableName}
use Rattle.ft_trace.specs.Acts.{has_lock, is_writing, used, owes, stage, mem, view_after}
use Rattle.ft_trace.specs.ContainerStates.{container_after, kind_in, changes, may_empty, reply_in}
use Rattle.ft_trace.specs.Pictures.{inner, ContainerWords, root_in, Represents}
use Rattle.ft_trace.specs.Kinds.{rows, version_at, SoundAs, CarefulAs, ClearAs}
use Rattle.ft_trace.specs.FitCalls.{FitsCall}
use Rattle.ft_trace.specs.BegunSections.{HasLocksOf}
use Rattle.ft_trace.specs.OddVersions.{Shut, Timely}
use Rattle.ft_trace.specs.Holds.{held_words, held_unboxed, known_state, hand_unboxed, AgreesWith}
use Rattle.ft_trace.specs.BoxWords.{box_kind}
use Rattle.ft_layout.specs.Starts.{kind_word, payload_word}
use Rattle.ft_trace.specs.Boxes.{value_at, known_box_word, knows_box_word, place_use, references_held, use_taken, HasReferences}
use Rattle.ft_trace.specs.Unboxed.{unboxed_table}
use Rattle.ft_trace.specs.Traces.{IsReachable, IsAwake}

-- ---- puts

-- a word of the block, as `PutBlock` names it, or of the table that is no value's, and what it becomes; or the two
-- words of a value in the table, its kind and its payload, and what they become: the value itself, or what names the
-- box in which it stands
pub data Put : Type 0 where
  to_block : ℕ → ℕ → Put
  to_table : ℕ → ℕ → Put
  to_value : Option ℕ → ℕ → ℕ → ℕ → ℕ → Put

-- the log after a put into the container o, whose table is t; of a value the kind is put first, and the payload first
-- where the value stands in a box, so that no word names a box by accident
abbrev pub log_of_put : ℕ → ℕ → Put → List Act → List Act
log_of_put o t (to_block i x) log = PutBlock o i x ∷ log
log_of_put o t (to_table i x) log = PutTable o t i x ∷ log
log_of_put o t (to_value None i j kind payload) log = PutTable o t j payload ∷ PutTable o t i kind ∷ log
log_of_put o t (to_value (Some b) i j kind payload) log = PutTable o t i box_kind ∷ PutTable o t j b ∷ log

-- the log after these puts, the first of them first
abbrev pub log_of : ℕ → ℕ → List Put → List Act → List Act
log_of o t [] log = log
log_of o t (put ∷ puts) log = log_of o t puts (log_of_put o t put log)

-- what they leave of the container's words, as these read
abbrev pub with_put : ContainerWords → Put → ContainerWords
with_put words (to_block i x) = record { block = slice_set words.block i x; table = words.table }
with_put words (to_table i x) = record { block = words.block; table = slice_set words.table i x }
with_put words (to_value box i j kind payload) =
    record { block = words.block; table = slice_set (slice_set words.table i kind) j payload }

abbrev pub with_puts : ContainerWords → List Put → ContainerWords
with_puts words [] = words
with_puts words (put ∷ puts) = with_puts (with_put words put) puts

-- the word of a table is none of the two words of a value
abbrev pub IsNoValue : Kind → ℕ → ℕ → Type 0
IsNoValue kind class i =
    (q : ℕ) → q < rows kind class → (i ≢ value_at kind class q) × (i ≢ suc (value_at kind class q))

-- A put into the block is of another word than the root. One into the table is careful for readers without the lock,
-- and a version is made odd before the commit and even after it. A value is put while the version of its entry or item
-- is odd, in a box before the commit alone; and what is put, or stands in the box, names no box itself.
abbrev pub MayPut : Kind → ℕ → Content → Bool → ContainerWords → Put → Type 0
MayPut kind t content committed words (to_block i x) = (0 < i) × (i < 6)
MayPut kind t content committed words (to_table i x) =
    (root_in words ≡ suc t)
    × (i < size (class_of t))
    × CarefulAs kind (class_of t) words.table content i x
    × Timely (version_at kind (class_of t)) (rows kind (class_of t)) i x committed
    × IsNoValue kind (class_of t) i
MayPut kind t content committed words (to_value box i j put_kind payload) =
    (root_in words ≡ suc t)
    × ((p : ℕ) × (p < rows kind (class_of t))
    × (i ≡ value_at kind (class_of t) p)
    × (j ≡ suc (value_at kind (class_of t) p))
    × (slice_index words.table (version_at kind (class_of t) p) % 2 ≡ 1))
    × (put_kind ≢ box_kind)
    × (committed ≡ true → box ≡ None)

-- each of them, after the ones before it
abbrev pub MayPuts : Kind → ℕ → Content → Bool → ContainerWords → List Put → Type 0
MayPuts kind t content committed words [] = Unit {0}
MayPuts kind t content committed words (put ∷ puts) =
    MayPut kind t content committed words put × MayPuts kind t content committed (with_put words put) puts

-- ---- boxes for the values that are put

-- A value that is put in a box needs a reference for that box, of those that the pass has to spare, and the pass knows
-- that the box has the value.
abbrev pub HasBox : Shape → List Act → (ℕ → ℕ) → Option ℕ → ℕ → ℕ → Type 0
HasBox k log spare None kind payload = Unit {0}
HasBox k log spare (Some b) kind payload =
    (0 < spare b) × (knows_box_word k b kind_word log ≡ true) × (knows_box_word k b payload_word log ≡ true)
    × (known_box_word k b kind_word log ≡ kind) × (known_box_word k b payload_word log ≡ payload)

-- how many references it has to spare after that, for each box
abbrev pub spare_after : Option ℕ → (ℕ → ℕ) → ℕ → ℕ
spare_after None spare c = spare c
spare_after (Some b) spare c = cond (c == b) (spare c - 1) (spare c)

-- for each of these puts
abbrev pub HasBoxes : Shape → List Act → (ℕ → ℕ) → List Put → Type 0
HasBoxes k log spare [] = Unit {0}
HasBoxes k log spare (to_block i x ∷ puts) = HasBoxes k log spare puts
HasBoxes k log spare (to_table i x ∷ puts) = HasBoxes k log spare puts
HasBoxes k log spare (to_value box i j kind payload ∷ puts) =
    HasBox k log spare box kind payload × HasBoxes k log (spare_after box spare) puts

-- ---- writes

-- the root that is put first, if one is; then the puts before the commit, the call and its reply, the puts after it
pub record WholeWrite : Type 0 where
  pub root : Option ℕ
  pub early : List Put
  pub call : Call
  pub reply : Reply
  pub late : List Put

abbrev pub log_of_root : ℕ → ℕ → Option ℕ → List Act → List Act
log_of_root o old None log = log
log_of_root o old (Some root) log = PutRoot o root old ∷ log

-- what the words of o read once this root was put: a table that was fresh in hand is now its own
abbrev pub with_root_put : View → ℕ → Option ℕ → ContainerWords
with_root_put v o None = held_unboxed o v
with_root_put v o (Some root) =
    record {
      block = slice_set (held_words o v).block 0 root;
      table = unboxed_table (λ b i. known_box_word v.shape b i v.log) (kind_in v.shape.starts o) root
          (inner v.shape root (mem v.shape v.log));
    }

-- the references that a pass has to spare for the early puts; those of a write that puts a root are for its table
abbrev pub spare_references : View → Option ℕ → ℕ → ℕ
spare_references v None = λ b. references_held v.shape b v.log
spare_references v (Some root) = λ b. 0

-- the words of o at the commit, and at the end
abbrev pub at_commit : View → ℕ → WholeWrite → ContainerWords
at_commit v o write = with_puts (with_root_put v o write.root) write.early

abbrev pub at_end : View → ℕ → WholeWrite → ContainerWords
at_end v o write = with_puts (at_commit v o write) write.late

-- what a pass knows that has this log in place of its own
abbrev pub with_log : View → List Act → View
with_log v log =
    record {
      number = v.number;
      next = v.next;
      parts = v.parts;
      left = v.left;
      shape = v.shape;
      log = log;
      entries = v.entries;
      lists = v.lists;
      tokens = v.tokens;
      learnt = v.learnt;
      has_floor = v.has_floor;
      floor = [];
      told = v.told;
    }

-- its log at the commit, where it found this version
abbrev pub log_at_commit : View → ℕ → ℕ → WholeWrite → ℕ → List Act
log_at_commit v o t write start =
    log_of o t write.early (log_of_root o (root_in (held_words o v)) write.root (StartWrite o start ∷ v.log))

-- what a pass knows after the whole write, which let go of the lock at its end: numbers that it found, and what stood
-- in the bank at its commit
abbrev pub after_write_of : View → ℕ → ℕ → WholeWrite → ℕ → ℕ → Snap → ℕ → View
after_write_of v o t write start number s stop =
    view_after (Unlock o)
    (view_after (StopWrite o stop)
    (with_log (view_after (Commit write.call write.reply number s) v)
    (log_of o t write.late (Commit write.call write.reply number s ∷ log_at_commit v o t write start))))

-- ---- which may be made

-- a pass that has the lock of o may begin to write it: it writes nothing, has a call left, has taken no table out of a
-- root since its last commit, holds few references, each box that it made was stored by a write, and the bank's calls
-- are few enough for its words
pub record MayBegin (v : View) (o : ℕ) : Type 0 where
  pub live : IsAwake v
  pub possible : IsReachable v
  pub few : v.shape.passes * v.shape.calls < 2 ^ 46
  pub low : o < container_count v.shape
  pub mine : has_lock o v.log ≡ true
  pub quiet : (p : ℕ) → is_writing p v.log ≡ false
  pub spare : used v.log ≡ false
  pub room : 0 < v.left
  pub few_references : (b : ℕ) → references_held v.shape b v.log < 2 ^ 31
  pub stored : (b : ℕ) → place_use b v.log ≢ use_taken

-- A root may be put that is 0, for a call that takes away what there is; or one that names a table which is fresh in
-- the pass's hand, as it must be for readers, with versions that were made odd once at most, and with the references
-- for the boxes that its values name.
abbrev pub MayReplace : View → ℕ → Call → Option ℕ → Type 0
MayReplace v o call None = Unit {0}
MayReplace v o call (Some zero) = may_empty call ≡ true
MayReplace v o call (Some (suc t)) =
    IsTableName v.shape t
    × (stage t v.log ≡ 1)
    × SoundAs (kind_in v.shape.starts o) v.shape.texts (class_of t) (hand_unboxed o t v)
    (known_state o v).content
    × ((p : ℕ) → p < rows (kind_in v.shape.starts o) (class_of t)
    → slice_index (hand_unboxed o t v) (version_at (kind_in v.shape.starts o) (class_of t) p) ≤ 1)
    × HasReferences v.shape v.log (PutRoot o (suc t) (root_in (held_words o v))) o

-- The call may be committed after these writes: its reply is that of the plain containers, no content passes its
-- greatest length, and where a count was lowered it takes a table of that class. What even versions say stays, and what
-- odd ones are of changes. Then the late puts may be made, and at the end the words stand for the content.
pub record MayCommitWrite (v : View) (o t : ℕ) (write : WholeWrite) (calls : List Call) : Type 0 where
  pub replied : IsReplied write.call write.reply (reply_in (stored_newest v.shape.starts calls) write.call)
  pub within : would_pass (stored_newest v.shape.starts calls).world write.call ≡ false
  pub declared : IsDeclared (stored_newest v.shape.starts calls).world no_hands write.call
  pub takes : (class : ℕ) → owes v.log ≡ suc class
      → takes_in (stored_newest v.shape.starts calls) write.call ≡ Some class
  pub clear : (q : ℕ) → root_in (at_commit v o write) ≡ suc q
      → ClearAs (kind_in v.shape.starts o) v.shape.texts (class_of q) (at_commit v o write).table
      (known_state o v).content (container_after v.shape.starts (write.call ∷ calls) o).content
  pub late : MayPuts (kind_in v.shape.starts o) t (container_after v.shape.starts (write.call ∷ calls) o).content true
      (at_commit v o write) write.late
  pub stands : Represents v.shape.texts (at_end v o write) (container_after v.shape.starts (write.call ∷ calls) o)

-- The write is one of o, the pass has the lock of each container that it names, and words can represent its keys and
-- values: what it puts before its commit may be put, it may be committed after whatever writes agree with what the pass
-- knows, and no version of an entry or item is odd at its end.
pub record MayWriteSo (v : View) (o t : ℕ) (write : WholeWrite) : Type 0 where
  pub of : changes write.call ≡ o
  pub wrote : is_write write.call write.reply ≡ true
  pub fits : FitsCall write.call
  pub locks : HasLocksOf write.call v.log
  pub root : MayReplace v o write.call write.root
  pub early : MayPuts (kind_in v.shape.starts o) t (known_state o v).content false
      (with_root_put v o write.root) write.early
  pub boxes : HasBoxes v.shape v.log (spare_references v write.root) write.early
  pub commit : (calls : List Call) → AgreesWith v (stored_newest v.shape.starts calls)
      → MayCommitWrite v o t write calls
  pub shut : (q : ℕ) → root_in (at_end v o write) ≡ suc q
      → Shut (version_at (kind_in v.shape.starts o) (class_of q)) (rows (kind_in v.shape.starts o) (class_of q))
      (at_end v o write).table

-- a write whose words are right may be made whole, in each of its steps, whatever other passes have done
abbrev pub WritesMayBeMade : Type 0
WritesMayBeMade =
    (v : View) (o t : ℕ) (write : WholeWrite) → MayBegin v o → MayWriteSo v o t write
    → (start number : ℕ) × (s : Snap) × (stop : ℕ) × IsReachable (after_write_of v o t write start number s stop)
