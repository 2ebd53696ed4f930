-- A trace is a list of events, newest first. It gives the words and the views, and it is valid where each event's
-- condition held where it stands.
use Rattle.std.specs.Prelude.{◌≡◌, ◌≢◌, ◌⊎◌, ℕ, suc, ◌+◌, ◌*◌, ◌/◌, ◌^◌, ◌%◌, ◌<◌, ◌≤◌, Bool, true, false, List, [], ◌∷◌, ◌++◌, slice_index, slice_set}
use mathlib.Core.Option.{some}
use lib.ListN.{get_elem?}
use Rattle.std.specs.Prelude.{Some, None}
use Rattle.ft_model.specs.declared.call.Call.{Call}
use Rattle.ft_model.specs.declared.content.Content.{Content}
use Rattle.ft_model.specs.declared.script.Kind.{Kind}
use Rattle.ft_model.specs.Answers.{is_write}
use Rattle.ft_model.specs.Calls.{moved_cursor}
use Rattle.ft_model.specs.Histories.{IsReplied}
use Rattle.ft_model.specs.Worlds.{no_hands, IsDeclared}
use Rattle.ft_model.specs.TableUses.{stored_newest, takes_in, would_pass}
use Rattle.ft_model.specs.Classes.{IsClass}
use Rattle.ft_model.specs.Landed.{AreLanded}
use Rattle.ft_trace.specs.declared.Act.{Act}
use Rattle.ft_trace.specs.declared.Act.TheVariants.{Lock, Unlock, StartWrite, PutBlock, PutRoot, PutTable, PutFresh, PutHeader, ReadHeader, Commit, StopWrite, Version, ReadBlock, ReadRoot, ReadTable, ReadCounter, Answer, AnswerCursor, LowerCount, RaiseCount, ReadCount, ReadFree, TakeTable, GiveTable, Retire, Announce, ReadAnnounced, WriteNumber, TakeFloor, TookOver, ReadFreePlaces, TakePlace, PutBox, PublishBox, ReadBox, RaiseLocal, DropLocal, ClearLocal, MergeCounts, RaiseShared, RaiseKept, DropShared, GivePlace}
use Rattle.ft_trace.specs.declared.Shape.{Shape}
use Rattle.ft_trace.specs.declared.Snap.{Snap}
use Rattle.ft_trace.specs.declared.View.{View}
use Rattle.ft_trace.specs.Addresses.{Word, counter, write_number, version_of, container_count, tables_in, class_of, size, IsTableName, IsBoxName, maker_of, at, opening}
use Rattle.ft_trace.specs.Acts.{place, word_after, Reports, has_lock, is_writing, has_committed, has_emptied, stage, goal, announces, clear, used, debt, flight, owes, view_after, starter, maker, made, both, spent, sender, note}
use Rattle.ft_trace.specs.ContainerStates.{container_after, first_writes, kind_in, changes, may_empty, reply_in}
use Rattle.ft_trace.specs.Pictures.{table_words, root_of, Represents}
use Rattle.ft_trace.specs.Kinds.{rows, version_at, SoundAs, CarefulAs, ClearAs, HasVersions}
use Rattle.ft_trace.specs.OddVersions.{Shut, Timely, Low}
use Rattle.ft_trace.specs.Unboxed.{unboxed_words, unboxed_picture}
use Rattle.ft_trace.specs.Boxes.{made_state, local_count, taken_out, place_to_give, references_held, HasPutValue, HasReferences, KeepsBox, NamesStored, StoresTaken, IsDoneWithBoxes, HasMergedBoxes, state_default, state_making}
use Rattle.ft_trace.specs.SeenBoxes.{SawBox}
use Rattle.ft_trace.specs.FitCalls.{FitsCall}
use Rattle.ft_trace.specs.Causes.{Loaded, HasCause}
use Rattle.ft_trace.specs.Hands.{cursor_in, MovesCursor}
use Rattle.ft_trace.specs.BegunSections.{HasLocksOf}
use Rattle.ft_layout.specs.Starts.{box_size, shared_word}
use Rattle.ft_trace.specs.BoxWords.{count_unit, dead_word, merged_bits}

pub record Moment : Type 0 where
  pub words : List ℕ
  pub views : List View

abbrev pub word_in : Shape → Moment → Word → ℕ
word_in k m x = slice_index m.words (at k x)

-- the view with which the event begins stands in it
pub data Event : Type 0 where
  did : ℕ → View → Act → Event
  forked : ℕ → View → Event
  joined : ℕ → View → ℕ → View → Event
  sent : ℕ → View → ℕ → Event

-- What an event leaves: an action changes one word and the view of its pass, a fork splits a view, a join puts two
-- into one, and a note is split off with what its maker has seen and some of its tokens.
abbrev pub happens : Shape → Event → Moment → Moment
happens k (did id v a) m =
    record {
      words = slice_set m.words (at k (place a)) (word_after v.number a (word_in k m (place a)));
      views = slice_set m.views id (view_after a v);
    }
happens k (forked id v) m = record { words = m.words; views = slice_set m.views id (maker v) ++ made v ∷ [] }
happens k (joined id v other w) m =
    record { words = m.words; views = slice_set (slice_set m.views id (both v w)) other spent }
happens k (sent id v given) m =
    record { words = m.words; views = slice_set m.views id (sender given v) ++ note given v ∷ [] }

-- the bank at the start
abbrev pub opened : Shape → Moment
opened k = record { words = opening k; views = starter k ∷ [] }

abbrev pub run : Shape → List Event → Moment
run k [] = opened k
run k (e ∷ es) = happens k e (run k es)

abbrev pub word : Shape → List Event → Word → ℕ
word k es x = slice_index (run k es).words (at k x)

-- the writes, newest first
abbrev pub writes_of : Act → List Call → List Call
writes_of (Commit c r f s) cs = c ∷ cs
writes_of act cs = cs

abbrev pub history : List Event → List Call
history [] = []
history (did id v a ∷ es) = writes_of a (history es)
history (forked id v ∷ es) = history es
history (joined id v other w ∷ es) = history es
history (sent id v given ∷ es) = history es

-- the words of o, read through boxes, stand for what the history makes of it
abbrev pub StandsFor : Shape → Moment → List Call → ℕ → Type 0
StandsFor k m cs o = Represents k.texts (unboxed_picture k o m.words) (container_after k.starts cs o)

abbrev pub snap : Moment → List Call → Snap
snap m cs = record { words = m.words; calls = cs }

-- of the words of the table t as they read, while it is that of the container o or is to be
abbrev pub SoundFor : Shape → List ℕ → ℕ → ℕ → Content → Type 0
SoundFor k ws o t c = SoundAs (kind_in k.starts o) k.texts (class_of t) (unboxed_words k o t ws) c

abbrev pub CarefulFor : Shape → List ℕ → ℕ → ℕ → Content → ℕ → ℕ → Type 0
CarefulFor k ws o t c i x = CarefulAs (kind_in k.starts o) (class_of t) (unboxed_words k o t ws) c i x

abbrev pub ClearFor : Shape → List ℕ → ℕ → ℕ → Content → Content → Type 0
ClearFor k ws o t c d = ClearAs (kind_in k.starts o) k.texts (class_of t) (unboxed_words k o t ws) c d

-- and of its words as they stand
abbrev pub ShutFor : Shape → List ℕ → ℕ → ℕ → Type 0
ShutFor k ws o t =
    Shut (version_at (kind_in k.starts o) (class_of t)) (rows (kind_in k.starts o) (class_of t)) (table_words k t ws)

abbrev pub TimelyFor : Shape → ℕ → ℕ → ℕ → ℕ → Bool → Type 0
TimelyFor k o t i x committed =
    Timely (version_at (kind_in k.starts o) (class_of t)) (rows (kind_in k.starts o) (class_of t)) i x committed

-- Of a table of this class with these words no version is odd, by the kind of container that it was filled for, which
-- is one with versions.
abbrev pub IsAllShut : ℕ → List ℕ → Type 0
IsAllShut class ws = (kind : Kind) × HasVersions kind × Shut (version_at kind class) (rows kind class) ws

abbrev pub LowFor : Shape → List ℕ → ℕ → ℕ → ℕ → Bool → Type 0
LowFor k ws o t count committed =
    Low (version_at (kind_in k.starts o) (class_of t)) (rows (kind_in k.starts o) (class_of t))
    (table_words k t ws) count committed

-- What a pass with the view v may do at the moment m, after the history cs.
abbrev pub May : Shape → Moment → List Call → View → Act → Type 0
-- it doesn't have the lock
May k m cs v (Lock o f s) = (o < container_count k) × (has_lock o v.log ≡ false) × (s ≡ snap m cs)
-- it has the lock, and the version is even
May k m cs v (Unlock o) = (o < container_count k) × (has_lock o v.log ≡ true) × (is_writing o v.log ≡ false)
-- it has the lock, and writes no container: a pass writes one at a time
May k m cs v (StartWrite o f) =
    (o < container_count k) × (has_lock o v.log ≡ true) × ((p : ℕ) → is_writing p v.log ≡ false)
    × (word_in k m (version_of o) + 1 < 2 ^ 64)
-- it has made the version odd
May k m cs v (PutBlock o i x) = (o < container_count k) × (i < 6) × (is_writing o v.log ≡ true) × (i ≢ 0)
-- Besides: the new root names a table that is fresh in its hand and as it must be for readers, whose versions have
-- room and, after the commit, are even; no version in the table that the root names now is odd; and no other table was
-- taken out of a root since the last commit. 0 is put before the commit alone.
May k m cs v (PutRoot o r old) =
    (o < container_count k)
    × (is_writing o v.log ≡ true)
    × (old ≡ root_of k o m.words)
    × ((t : ℕ) → r ≡ suc t → IsTableName k t × (stage t v.log ≡ 1)
    × SoundFor k m.words o t (container_after k.starts cs o).content)
    × ((q : ℕ) → old ≡ suc q → ShutFor k m.words o q)
    × (old ≢ 0 → used v.log ≡ false)
    × ((t : ℕ) → r ≡ suc t → LowFor k m.words o t (word_in k m counter) (has_committed o v.log))
    × (r ≡ 0 → has_committed o v.log ≡ false)
    × HasReferences k v.log (PutRoot o r old) o
    × ((t : ℕ) → r ≡ suc t → has_committed o v.log ≡ true → ShutFor k m.words o t)
    × NamesStored k v.log (PutRoot o r old) o
-- a word of the table that the root names, put with care; a version is made odd before the commit, and even after it
May k m cs v (PutTable o t i x) =
    (o < container_count k)
    × IsTableName k t
    × (i < size (class_of t))
    × (is_writing o v.log ≡ true)
    × (root_of k o m.words ≡ suc t)
    × CarefulFor k m.words o t (container_after k.starts cs o).content i x
    × TimelyFor k o t i x (has_committed o v.log)
    × HasReferences k v.log (PutTable o t i x) o
-- a word of a table that it took and that has stood in no root since
May k m cs v (PutFresh t i x) = IsTableName k t × (i < size (class_of t)) × (stage t v.log ≡ 1)
-- the goal of a table that it retired
May k m cs v (PutHeader t x) = IsTableName k t × (stage t v.log ≡ 4) × (x ≡ goal t v.log)
-- The call is a write of containers of its kind, the version of what it changes is odd by the pass, the reply is that
-- of the plain containers at the counter, the pass has a call left and the counter has room. Each entry with an even
-- version says the same of the content after the call, each with an odd one is of a key under which the call changes
-- what is there, and each key that is added has its entry. Where the pass has lowered a count and not raised it again,
-- the call takes a table of that class. No content passes its greatest length. Where the pass has put 0 into the root,
-- the call is one that may. Words can tell the keys and values of the call. The pass has the lock of each container
-- that the call names.
May k m cs v (Commit c r f s) =
    (is_write c r ≡ true)
    × (is_writing (changes c) v.log ≡ true)
    × (word_in k m counter + 1 < 2 ^ 64)
    × (0 < v.left)
    × IsReplied c r (reply_in (stored_newest k.starts cs) c)
    × ((t : ℕ) → root_of k (changes c) m.words ≡ suc t
    → ClearFor k m.words (changes c) t (container_after k.starts cs (changes c)).content (container_after k.starts (c
    ∷ cs) (changes c)).content)
    × (changes c < container_count k)
    × (s ≡ snap m cs)
    × ((class : ℕ) → owes v.log ≡ suc class → takes_in (stored_newest k.starts cs) c ≡ Some class)
    × (would_pass (stored_newest k.starts cs).world c ≡ false)
    × (has_emptied (changes c) v.log ≡ true → may_empty c ≡ true)
    × IsDeclared (stored_newest k.starts cs).world no_hands c
    × FitsCall c
    × HasLocksOf c v.log
    × StoresTaken k (stored_newest k.starts cs).world v.log c
-- It has made the version odd and has committed since. The words stand for the content at the counter, with its class
-- and fill, and no version of an entry or item of the container is odd.
May k m cs v (StopWrite o f) =
    (o < container_count k)
    × (is_writing o v.log ≡ true)
    × (has_committed o v.log ≡ true)
    × StandsFor k m cs o
    × (word_in k m (version_of o) + 1 < 2 ^ 64)
    × ((t : ℕ) → root_of k o m.words ≡ suc t → ShutFor k m.words o t)
-- loads ask nothing but that the word is there
May k m cs v (Version o f) = o < container_count k
May k m cs v (ReadBlock o i f) = (o < container_count k) × (i < 6)
-- but for a root that is read to search its table without the lock: the pass is online
May k m cs v (ReadRoot o f) = (o < container_count k) × (0 < announces v.log) × (v.number ≤ k.passes)
May k m cs v (ReadTable t i f) = IsTableName k t × (i < size (class_of t))
May k m cs v (ReadHeader t f) = IsTableName k t
May k m cs v (ReadCounter f) = Unit {0}
-- The call is no write, and a load of the counter since the last entry gave its stamp. The reply is that of the plain
-- containers after as many writes, or that of a section, or a MemoryError; the last two have their causes. The pass has
-- a call left.
May k m cs v (Answer c r n) =
    (is_write c r ≡ false)
    × (n ≤ word_in k m counter)
    × IsReplied c r (reply_in (stored_newest k.starts (first_writes n cs)) c)
    × Loaded n v.log
    × HasCause (stored_newest k.starts (first_writes n cs)) v c r n
    × (0 < v.left)
    × (moved_cursor c ≡ None)
-- The call is an `iter` or a `next` of the cursor under this number, and a load of the counter since the last entry
-- gave its stamp. The pass had that cursor, and the plain containers after as many writes give the reply and leave the
-- new one. The pass has a call left.
May k m cs v (AnswerCursor c r n number had left) =
    (moved_cursor c ≡ Some number)
    × (n ≤ word_in k m counter)
    × MovesCursor (stored_newest k.starts (first_writes n cs)).world c number had r left
    × Loaded n v.log
    × (had ≡ cursor_in number v.log)
    × (0 < v.left)
-- from a count above 0, by a pass that is in the midst of no taking or giving and has lowered no count since its last
-- commit that it hasn't raised again
May k m cs v (LowerCount c old f) = IsClass c × (0 < old) × (flight v.log ≡ 0) × (owes v.log ≡ 0)
-- at the end of a giving, or of a taking that found no bit
May k m cs v (RaiseCount c f) = IsClass c × ((flight v.log ≡ 2 * c + 1) ⊎ (flight v.log ≡ 2 * c + 2))
May k m cs v (ReadCount c f) = IsClass c
May k m cs v (ReadFree w f) = w < 224
-- in the midst of a taking of its class
May k m cs v (TakeTable t f s) =
    IsTableName k t × (stage t v.log ≡ 0) × (s ≡ snap m cs) × (flight v.log ≡ 2 * class_of t + 1)
-- a table that has stood in no root since it was taken, and has no odd version; or one that the pass retired, where it
-- has found each pass offline or at least at the goal since then
May k m cs v (GiveTable t) =
    IsTableName k t
    × (((stage t v.log ≡ 1) × IsAllShut (class_of t) (table_words k t m.words))
    ⊎ ((stage t v.log ≡ 4) × ((p : ℕ) → 0 < p → p ≤ k.passes → clear t p v.log ≡ true)))
    × (flight v.log ≡ 0)
-- a table that the pass took out of a root; it has retired fewer than it has taken out
May k m cs v (Retire t f) =
    IsTableName k t × (stage t v.log ≡ 3) × (word_in k m write_number + 1 < 2 ^ 64) × (0 < debt v.log)
-- its own number, and at most the write number
May k m cs v (Announce p x) =
    (p ≡ v.number) × (p ≤ k.passes) × (x ≤ word_in k m write_number) × (0 < p) × (p ≤ 64)
May k m cs v (ReadAnnounced p f) = (p ≤ k.passes) × (0 < p) × (p ≤ 64)
May k m cs v (WriteNumber f) = Unit {0}
-- it has all tokens, so no other pass may do anything
May k m cs v (TakeFloor f s) = (v.tokens ≡ k.passes) × (s ≡ snap m cs)
-- a word of bits of a heap, and a word of a box
May k m cs v (ReadFreePlaces q w f) = (q < k.passes) × (w < k.heap / 64)
May k m cs v (ReadBox b i f) = IsBoxName k b × (i < box_size)
-- a place of its own heap, where it keeps no box that wasn't merged, while it writes no container
May k m cs v (TakePlace b f) =
    IsBoxName k b × (v.number ≡ suc (maker_of b)) × (made_state b v.log ≢ state_making)
    × (made_state b v.log ≢ state_default)
    × ((o : ℕ) → is_writing o v.log ≡ false)
-- a box that it is making
May k m cs v (PutBox b i x) = IsBoxName k b × (i < box_size) × (made_state b v.log ≡ state_making) × (i ≢ shared_word)
-- with local count 1, once it has put a value there
May k m cs v (PublishBox b) =
    IsBoxName k b × (made_state b v.log ≡ state_making) × (local_count b v.log ≡ 1)
    × (references_held k b v.log + 1 < 2 ^ 32) × HasPutValue k b v.log
-- its own box in the default state
May k m cs v (RaiseLocal b x) =
    IsBoxName k b
    × (made_state b v.log ≡ state_default)
    × (x ≡ local_count b v.log + 1)
    × (x ≤ 2 ^ 60)
    × (taken_out b v.log ≡ 0)
    × (references_held k b v.log + 1 < 2 ^ 32)
May k m cs v (DropLocal b x) =
    IsBoxName k b × (made_state b v.log ≡ state_default) × (local_count b v.log ≡ x + 1)
    × (0 < references_held k b v.log)
May k m cs v (ClearLocal b) = IsBoxName k b × (made_state b v.log ≡ state_default) × (taken_out b v.log ≡ 0)
May k m cs v (MergeCounts b d f) =
    IsBoxName k b × (made_state b v.log ≡ state_default) × (local_count b v.log ≡ 0)
    × (d ≡ count_unit * taken_out b v.log + merged_bits)
-- any other box, whose name it has read in a container, from a word that isn't that of a dead one
May k m cs v (RaiseShared b old f) =
    IsBoxName k b × (made_state b v.log ≢ state_default) × (old ≢ dead_word) × (old < 2 ^ 64)
    × (references_held k b v.log + 1 < 2 ^ 32)
    × SawBox k b v.log
-- one that a container names whose lock it has, or for which it holds a reference
May k m cs v (RaiseKept b f) =
    IsBoxName k b × (made_state b v.log ≢ state_default) × KeepsBox k b v.log × (references_held k b v.log + 1 < 2 ^ 32)
May k m cs v (DropShared b f) = IsBoxName k b × (made_state b v.log ≢ state_default) × (0 < references_held k b v.log)
-- of a box that it has brought to its end
May k m cs v (GivePlace b) = IsBoxName k b × (place_to_give b v.log ≡ 1)
-- this is part of a join alone
May k m cs v (TookOver tables had found told) = ⊥

-- There are at most 64 passes, 1,024 tables of a class and 4,096 places of a heap, of which a word has the bits of 64; and
-- no deque and no dict that starts with shared keys yet.
pub record Fits (k : Shape) : Type 0 where
  pub some_pass : 0 < k.passes
  pub passes : k.passes ≤ 64
  pub tables : (c : ℕ) → IsClass c → tables_in k c ≤ 1024
  pub landed : AreLanded k.starts
  pub containers : container_count k ≤ 256
  pub heap : (k.heap ≤ 4096) × (k.heap % 64 ≡ 0)

-- The pass is offline and has no lock. It has no table but such as it retired, which who takes it in takes over, where
-- their goals stand in their headers. It has committed what it began, and is in the midst of no taking or giving.
abbrev pub IsFree : View → Type 0
IsFree v =
    ((o : ℕ) → has_lock o v.log ≡ false)
    × ((t : ℕ) → (stage t v.log ≡ 0) ⊎ (stage t v.log ≡ 4))
    × (used v.log ≡ false)
    × (flight v.log ≡ 0)
    × (owes v.log ≡ 0)
    × (announces v.log ≡ 0)
    × IsDoneWithBoxes v.shape v.log
    × HasMergedBoxes v.log

-- the pass writes no container, has no fresh table in hand, and is in the midst of no taking or giving
abbrev pub IsQuiet : View → Type 0
IsQuiet v =
    ((o : ℕ) → is_writing o v.log ≡ false) × ((t : ℕ) → stage t v.log ≢ 1) × (flight v.log ≡ 0)

-- An event of a view that stands where the event says it does: an action that reports what was there, and that the pass
-- may do, which has a token; a fork by the first pass, which has parts, tokens and calls for another; a join of a pass
-- that is free, or of a note; a note of a pass, with some of its tokens, and who gives the last one is quiet.
abbrev pub Might : Shape → Moment → List Call → Event → Type 0
Might k m cs (did id v a) =
    (get_elem? m.views id ≡ some v) × (v.number ≢ 0) × Reports a (word_in k m (place a)) × May k m cs v a
    × (0 < v.tokens)
Might k m cs (forked id v) =
    (get_elem? m.views id ≡ some v) × (v.number ≢ 0) × (v.next ≢ 0) × (1 < v.parts) × (v.shape.calls ≤ v.left)
    × (v.next ≤ k.passes) × (1 < v.tokens)
Might k m cs (joined id v other w) =
    (get_elem? m.views id ≡ some v) × (other ≢ id) × (get_elem? m.views other ≡ some w) × (v.number ≢ 0)
    × (w.next ≡ 0) × IsFree w
Might k m cs (sent id v given) =
    (get_elem? m.views id ≡ some v) × (v.number ≢ 0) × (given ≤ v.tokens)
    × (given ≡ v.tokens → 0 < v.tokens → IsQuiet v)

abbrev pub Valid : Shape → List Event → Type 0
Valid k [] = Fits k
Valid k (e ∷ es) = Valid k es × Might k (run k es) (history es) e

-- the pass may take steps: it is one of the bank's and has a token
abbrev pub IsAwake : View → Type 0
IsAwake v = (v.number ≢ 0) × (0 < v.tokens)

-- the bank's rule: there is a trace
abbrev pub Traced : Shape → List ℕ → List View → Type 0
Traced k words views = (es : List Event) × Valid k es × ((run k es).words ≡ words) × ((run k es).views ≡ views)

-- the pass with this view is in the trace
abbrev pub Knows : View → List Event → ℕ → Type 0
Knows v es id = Valid v.shape es × (get_elem? (run v.shape es).views id ≡ some v)

-- what a pass may know
abbrev pub IsReachable : View → Type 0
IsReachable v = (es : List Event) × (id : ℕ) × Knows v es id

-- what holds of every trace in which a pass knows this
abbrev pub Sure : View → (List Event → Type 0) → Type 0
Sure v F = (es : List Event) (id : ℕ) → Knows v es id → F es

-- at whatever the bank has, the pass may do this
abbrev pub ReadyAs : View → ℕ → (ℕ → Snap → Act) → Type 0
ReadyAs v i act =
    Sure v (λ es.
    let n = slice_index (run v.shape es).words i in
    let s = snap (run v.shape es) (history es) in
    n < 2 ^ 64 → Reports (act n s) n × May v.shape (run v.shape es) (history es) v (act n s))

abbrev pub Ready : View → ℕ → (ℕ → Act) → Type 0
Ready v i act = ReadyAs v i (λ n _. act n)

abbrev pub DoesAs : View → ℕ → (ℕ → ℕ) → (ℕ → Snap → Act) → Type 0
DoesAs v i f act =
    (n : ℕ) (s : Snap) → (at v.shape (place (act n s)) ≡ i) × ((m : ℕ) → word_after v.number (act n s) m ≡ f m)

-- the actions are on this word, which becomes f of what it was
abbrev pub Does : View → ℕ → (ℕ → ℕ) → (ℕ → Act) → Type 0
Does v i f act = DoesAs v i f (λ n _. act n)

-- the pass may make another
pub record MayFork (v : View) : Type 0 where
  pub live : v.number ≢ 0
  pub next : v.next ≢ 0
  pub parts : 1 < v.parts
  pub left : v.shape.calls ≤ v.left
  pub few : v.next ≤ v.shape.passes
  pub tokens : 1 < v.tokens
