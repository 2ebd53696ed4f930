-- The parts of the bank's rule: what holds of each valid trace, and so between any two steps of any passes.
use Rattle.std.specs.Prelude.{◌≡◌, ◌≢◌, ◌⊎◌, ℕ, suc, ◌+◌, ◌-◌, ◌*◌, ◌^◌, ◌%◌, ◌<◌, ◌≤◌, true, cond, nat_lt, List, [], ◌∷◌, ◌++◌, length, slice_index, false, Option}
use mathlib.Core.Option.{some}
use lib.ListN.{get_elem?}
use Rattle.ft_model.specs.declared.call.Call.{Call}
use Rattle.ft_model.specs.declared.reply.Reply.{Reply}
use Rattle.ft_model.specs.declared.cursor.Cursor.{Cursor}
use Rattle.ft_model.specs.declared.data.Key.{Key}
use Rattle.std.specs.Prelude.{All}
use Rattle.ft_model.specs.declared.content.DictPair.{DictPair}
use Rattle.ft_model.specs.declared.content.Element.{Element}
use Rattle.ft_model.specs.declared.content.Content.TheVariants as content
use Rattle.ft_model.specs.Contents.{DictContent, SetContent}
use Rattle.ft_model.specs.Classes.{IsClass}
use Rattle.ft_model.specs.Worlds.{list_of, serial_of}
use Rattle.ft_model.specs.TableUses.{stored_newest, takes_newest, passes_cap}
use Rattle.ft_model.specs.TablesInOrder.{AreTablesInOrder}
use Rattle.ft_layout.specs.Starts.{HasWord}
use Rattle.ft_layout.specs.Words.{FitsKey}
use Rattle.ft_trace.specs.declared.Act.{Act}
use Rattle.ft_trace.specs.declared.Snap.{Snap}
use Rattle.ft_trace.specs.Causes.{FoundEmpty, least_stamp}
use Rattle.ft_trace.specs.declared.Act.TheVariants.{Commit, Answer, AnswerCursor, ReadCounter, ReadRoot, ReadTable, ReadCount, PutRoot, ReadBox}
use Rattle.ft_layout.specs.Starts.{kind_word, payload_word}
use Rattle.ft_trace.specs.declared.Shape.{Shape}
use Rattle.ft_trace.specs.declared.View.{View}
use Rattle.ft_trace.specs.Bits.{bit}
use Rattle.ft_trace.specs.Counts.{word_bits, taking, giving, owing}
use Rattle.ft_trace.specs.Entries.{total, number_count, AllRight, Numbered}
use Rattle.ft_trace.specs.Addresses.{Word, Inside, at, sizes_of, part_of, counter, write_number, announced_of, count_of_class, bits, lock_of, version_of, block, header, container_count, tables_in, class_of, slots, IsTableName, free_word_of, free_bit_of}
use Rattle.ft_trace.specs.Acts.{has_lock, is_writing, reads, stage, goal, has_goal, clear, announces, owes, all_entries}
use Rattle.ft_trace.specs.Owners.{is_owner_in, had_locks, found_owners, AreOwners}
use Rattle.ft_trace.specs.Ages.{age, all_acts}
use Rattle.ft_trace.specs.ContainerStates.{container_after, first_writes, kind_in, reply_in}
use Rattle.ft_trace.specs.Pictures.{entry_offset, item_offset, walk_of, table_words, picture}
use Rattle.ft_trace.specs.ItemWords.{words_at}
use Rattle.ft_trace.specs.Kinds.{rows, is_key, pair_words, element_words, under, LaterAs, IsKeyed, IsItems, version_at}
use Rattle.ft_trace.specs.Holds.{held_words, known_state, in_hand}
use Rattle.ft_trace.specs.FitCalls.{FitsContent}
use Rattle.ft_trace.specs.LoggedReads.{Among, IsNothing, LookedAtOne, LookedAtBoth}
use Rattle.ft_trace.specs.LoggedLookUps.{Hit, Miss, Full, Bare, ItemHit, ItemPast, IsNew, IsReadInPlace, IsReadAsBox}
use Rattle.ft_trace.specs.Traces.{Event, did, run, word, history, StandsFor, SoundFor, ShutFor, IsAllShut, Valid, Knows}

-- the pass at seat j knows u
abbrev pub HasView : Shape → List Event → ℕ → View → Type 0
HasView k es j u = get_elem? (run k es).views j ≡ some u

-- ---- words

-- each word of a bank lies in its part, and two words at one address are one
abbrev pub WordsLieApart : Type 0
WordsLieApart =
    (k : Shape) (x y : Word) → Inside k x → Inside k y
    → HasWord (sizes_of k) (part_of x) (at k x) × (at k x ≡ at k y → x ≡ y)

-- ---- locks and versions

-- a lock word is the number of the one pass that has the lock, and 0 where none has it
abbrev pub LocksNameHolders : Type 0
LocksNameHolders =
    (k : Shape) (es : List Event) → Valid k es → (o : ℕ) → o < container_count k
    → ((j : ℕ) (u : View) → HasView k es j u → has_lock o u.log ≡ true → word k es (lock_of o) ≡ u.number)
    × (word k es (lock_of o) ≢ 0 → (j : ℕ) × (u : View) × HasView k es j u × (has_lock o u.log ≡ true))
    × ((i j : ℕ) (u w : View) → HasView k es i u → HasView k es j w → has_lock o u.log ≡ true
    → has_lock o w.log ≡ true → i ≡ j)

-- a pass writes one container at a time
abbrev pub WritesAreOneAtATime : Type 0
WritesAreOneAtATime =
    (k : Shape) (es : List Event) → Valid k es → (j : ℕ) (u : View) → HasView k es j u → (o p : ℕ)
    → is_writing o u.log ≡ true → is_writing p u.log ≡ true → o ≡ p

-- whoever was found with the lock of a container had taken it: its pass knows, or the one that has taken it in
abbrev pub FoundOwnersHadLocks : Type 0
FoundOwnersHadLocks =
    (k : Shape) (es : List Event) → Valid k es → (j : ℕ) (u : View) → HasView k es j u → (o q : ℕ)
    → is_owner_in o q (found_owners u.log) ≡ true
    → (i : ℕ) × (w : View) × HasView k es i w × (is_owner_in o q (had_locks w.number w.log) ≡ true)

-- a pass that stands for all passes knows it itself
abbrev pub OneKnowsAllOwners : Type 0
OneKnowsAllOwners =
    (k : Shape) (es : List Event) → Valid k es → (j : ℕ) (u : View) → HasView k es j u → u.parts ≡ k.passes
    → AreOwners (found_owners u.log) (had_locks u.number u.log)

-- the version of a container is odd exactly while a pass writes it, and that pass has its lock
abbrev pub VersionsAreOddInWrites : Type 0
VersionsAreOddInWrites =
    (k : Shape) (es : List Event) → Valid k es → (o : ℕ) → o < container_count k
    → (word k es (version_of o) % 2 ≡ 1 → (j : ℕ) × (u : View) × HasView k es j u × (is_writing o u.log ≡ true))
    × ((j : ℕ) (u : View) → HasView k es j u → is_writing o u.log ≡ true → (has_lock o u.log ≡ true)
    × (word k es (version_of o) % 2 ≢ 0))

-- a version of an entry or item is odd only where that of the container is whose root names its table
abbrev pub EvenTablesAreShut : Type 0
EvenTablesAreShut =
    (k : Shape) (es : List Event) → Valid k es → (o : ℕ) → o < container_count k → word k es (version_of o) % 2 ≡ 0
    → (t : ℕ) → word k es (block o 0) ≡ suc t → ShutFor k (run k es).words o t

-- of no other table a version is odd: where the table isn't fresh in a hand, and no container whose version is odd has
-- it as its own
abbrev pub OddVersionsAreInWrites : Type 0
OddVersionsAreInWrites =
    (k : Shape) (es : List Event) → Valid k es → (t : ℕ) → IsTableName k t
    → ((j : ℕ) (u : View) → HasView k es j u → stage t u.log ≢ 1)
    → ((o : ℕ) → o < container_count k → word k es (block o 0) ≡ suc t → word k es (version_of o) % 2 ≡ 0)
    → IsAllShut (class_of t) (table_words k t (run k es).words)

-- ---- entries

-- each number below the counter is that of one write in one view, and no other number is that of a write
abbrev pub NumbersAreOnce : Type 0
NumbersAreOnce =
    (k : Shape) (es : List Event) → Valid k es → (n : ℕ)
    → total (λ (u : View). total (number_count n) (all_entries u)) (run k es).views
    ≡ cond (nat_lt n (word k es counter)) 1 0

-- each entry has the reply of the plain containers after as many writes as its stamp says
abbrev pub EntriesAreRight : Type 0
EntriesAreRight =
    (k : Shape) (es : List Event) → Valid k es → (j : ℕ) (u : View) → HasView k es j u
    → AllRight k.starts (history es) (all_entries u)

-- stamps of a pass never fall, and rise after a write; and what its loads of the counter gave never falls
abbrev pub StampsRise : Type 0
StampsRise =
    (k : Shape) (es : List Event) → Valid k es → (j : ℕ) (u : View) → HasView k es j u → (newer rest : List Act)
    → ((c : Call) (r : Reply) (f : ℕ) (s : Snap) → u.log ≡ newer ++ Commit c r f s ∷ rest → least_stamp rest ≤ f)
    × ((c : Call) (r : Reply) (n : ℕ) → u.log ≡ newer ++ Answer c r n ∷ rest → least_stamp rest ≤ n)
    × ((c : Call) (r : Reply) (n number : ℕ) (had : Option Cursor) (left : Cursor)
    → u.log ≡ newer ++ AnswerCursor c r n number had left ∷ rest → least_stamp rest ≤ n)
    × ((mid : List Act) (m n : ℕ) → u.log ≡ newer ++ ReadCounter m ∷ (mid ++ ReadCounter n ∷ rest) → n ≤ m)

-- where a pass may answer a MemoryError of a class, writes before its stamp took the tables of the class, but for one
-- for each other pass
abbrev pub MemoryErrorsAreEarned : Type 0
MemoryErrorsAreEarned =
    (k : Shape) (es : List Event) → Valid k es → (j : ℕ) (u : View) → HasView k es j u → (class n : ℕ) → IsClass class
    → FoundEmpty class n u.log
    → tables_in k class ≤ takes_newest k.starts class (first_writes n (history es)) + (k.passes - 1)

-- a pass that stands for all passes has an entry for each write, and each of its entries is right
abbrev pub OneHasAllEntries : Type 0
OneHasAllEntries =
    (k : Shape) (es : List Event) → Valid k es → (j : ℕ) (u : View) → HasView k es j u → u.parts ≡ k.passes
    → Numbered k.starts (history es) (all_entries u)

-- it has one entry for each call that no pass has left
abbrev pub CallsAreCounted : Type 0
CallsAreCounted =
    (k : Shape) (es : List Event) → Valid k es → (j : ℕ) (u : View) → HasView k es j u → u.parts ≡ k.passes
    → length (all_entries u) + u.left ≡ k.passes * k.calls

-- ---- what words stand for

-- while the version is even the words stand for the content at the counter, with its class and fill
abbrev pub EvenWordsStand : Type 0
EvenWordsStand =
    (k : Shape) (es : List Event) → Valid k es → (o : ℕ) → o < container_count k → word k es (version_of o) % 2 ≡ 0
    → StandsFor k (run k es) (history es) o

-- the table of each container is in order: it has room for what is stored, and so no container has more than the
-- largest table holds
abbrev pub StoredTablesAreInOrder : Type 0
StoredTablesAreInOrder =
    (k : Shape) (es : List Event) → Valid k es
    → AreTablesInOrder (stored_newest k.starts (history es))
    × All (λ content. passes_cap content ≡ false) (stored_newest k.starts (history es)).world

-- words can represent each key and value that a container has, or had after the first writes of the history
abbrev pub ContentsFit : Type 0
ContentsFit =
    (k : Shape) (es : List Event) → Valid k es
    → All FitsContent (stored_newest k.starts (history es)).world
    × ((n : ℕ) → All FitsContent (stored_newest k.starts (first_writes n (history es))).world)

-- a root that is 0 while the version is even is that of a container with no table and nothing in it
abbrev pub ZeroRootsHaveNothing : Type 0
ZeroRootsHaveNothing =
    (k : Shape) (es : List Event) → Valid k es → (o : ℕ) → o < container_count k → word k es (version_of o) % 2 ≡ 0
    → word k es (block o 0) ≡ 0 → IsNothing (container_after k.starts (history es) o)

-- a pass knows the words and the content of a container whose lock it has, and the words of a table in its hand that is
-- fresh, or that it took out of a root and hasn't retired
abbrev pub HoldersKnow : Type 0
HoldersKnow =
    (v : View) (es : List Event) (j : ℕ) → Knows v es j
    → ((o : ℕ) → o < container_count v.shape → has_lock o v.log ≡ true
    → (held_words o v ≡ picture v.shape o (run v.shape es).words)
    × (known_state o v ≡ container_after v.shape.starts (history es) o))
    × ((t : ℕ) → IsTableName v.shape t → (stage t v.log ≡ 1) ⊎ (stage t v.log ≡ 3)
    → in_hand t v ≡ table_words v.shape t (run v.shape es).words)

-- ---- tables

-- each table is free, which its bit says, or current, or in a hand, or retired, which its age says
abbrev pub TablesAreSomewhere : Type 0
TablesAreSomewhere =
    (k : Shape) (es : List Event) → Valid k es → (t : ℕ) → IsTableName k t
    → (bit (free_bit_of t) (word k es (bits (free_word_of t))) ≡ 1)
    ⊎ (((o : ℕ) × (o < container_count k) × (word k es (block o 0) ≡ suc t))
    ⊎ (((j : ℕ) × (u : View) × HasView k es j u × (stage t u.log ≢ 0))
    ⊎ (age es t % 5 ≡ 4)))

-- and in no two of these
abbrev pub TablesAreInOnePlace : Type 0
TablesAreInOnePlace =
    (k : Shape) (es : List Event) → Valid k es → (t : ℕ) → IsTableName k t
    → ((o q : ℕ) → o < container_count k → q < container_count k → word k es (block o 0) ≡ suc t
    → word k es (block q 0) ≡ suc t → o ≡ q)
    × ((i j : ℕ) (u w : View) → HasView k es i u → HasView k es j w → stage t u.log ≢ 0 → stage t w.log ≢ 0 → i ≡ j)
    × ((o i : ℕ) (u : View) → o < container_count k → word k es (block o 0) ≡ suc t → HasView k es i u
    → stage t u.log ≡ 0)
    × (bit (free_bit_of t) (word k es (bits (free_word_of t))) ≡ 1
    → ((o : ℕ) → o < container_count k → word k es (block o 0) ≢ suc t)
    × ((i : ℕ) (u : View) → HasView k es i u → stage t u.log ≡ 0))

-- the set bits of a class are as many as its count word says, one more for each taking that has lowered it and has
-- neither a bit nor raised it again, and one more for each giving that has set its bit and not raised it
abbrev pub CountsStand : Type 0
CountsStand =
    (k : Shape) (es : List Event) → Valid k es → (c : ℕ) → IsClass c
    → word_bits k es c ≡ word k es (count_of_class c) + total (taking c) (run k es).views
    + total (giving c) (run k es).views

-- the tables of a class less its count are at most the writes that take one by the rule of tables, and one for each
-- view that has lowered the count since its last commit and not raised it again
abbrev pub TablesAreOwed : Type 0
TablesAreOwed =
    (k : Shape) (es : List Event) → Valid k es → (c : ℕ) → IsClass c
    → tables_in k c ≤ word k es (count_of_class c) + (takes_newest k.starts c (history es)
    + total (owing c) (run k es).views)

-- where a pass that owed none of it found the count of a class 0, writes took its tables, but for one for each other
-- pass
abbrev pub EmptyClassesAreEarned : Type 0
EmptyClassesAreEarned =
    (k : Shape) (es : List Event) → Valid k es → (j : ℕ) (u : View) → HasView k es j u → (c : ℕ) → IsClass c
    → (newer rest : List Act) → u.log ≡ newer ++ ReadCount c 0 ∷ rest → owes rest ≡ 0
    → tables_in k c ≤ takes_newest k.starts c (history es) + (k.passes - 1)

-- ---- announced numbers

-- the announced number of a pass is what it announced last, and at most the write number
abbrev pub AnnouncedNumbersAreLow : Type 0
AnnouncedNumbersAreLow =
    (k : Shape) (es : List Event) → Valid k es → (j : ℕ) (u : View) → HasView k es j u → u.number ≢ 0
    → u.number ≤ k.passes
    → (word k es (announced_of u.number) ≡ announces u.log) × (announces u.log ≤ word k es write_number)

-- A table that a pass has found in a root since it last announced is not free: its age says that it is current, or was
-- taken out of a root, or is retired with a goal above the number that the pass announced. Where its retirer has found
-- since then that the pass was offline or at least at the goal, the pass has not found it since it last announced.
abbrev pub FoundTablesAreKept : Type 0
FoundTablesAreKept =
    (k : Shape) (es : List Event) → Valid k es → (t : ℕ) → IsTableName k t → (j : ℕ) (u : View) → HasView k es j u
    → (reads t u.log ≡ true → bit (free_bit_of t) (word k es (bits (free_word_of t))) ≢ 1)
    × (reads t u.log ≡ true → (2 ≤ age es t % 5) × (age es t % 5 ≡ 4 → announces u.log < goal t (all_acts es)))
    × (age es t % 5 ≡ 4 → clear t u.number (all_acts es) ≡ true → reads t u.log ≡ true → ⊥)

-- a table that was taken out of a root is free before it stands in a root again
abbrev pub TablesAreFreeBeforeRoots : Type 0
TablesAreFreeBeforeRoots =
    (k : Shape) (newer es : List Event) (id : ℕ) (v : View) (o r t : ℕ) → r ≢ suc t
    → Valid k (newer ++ did id v (PutRoot o r (suc t)) ∷ es)
    → (p : ℕ) → p < container_count k → word k (newer ++ did id v (PutRoot o r (suc t)) ∷ es) (block p 0) ≡ suc t
    → (later sooner : List Event) × (newer ≡ later ++ sooner)
    × (bit (free_bit_of t) (word k (sooner ++ did id v (PutRoot o r (suc t)) ∷ es) (bits (free_word_of t))) ≡ 1)

-- where a pass has put the goal of a table into its header, the table is the pass's, retired, and its header says the
-- goal, until the pass gives the table back
abbrev pub GoalsStand : Type 0
GoalsStand =
    (k : Shape) (es : List Event) → Valid k es → (t : ℕ) → IsTableName k t → (j : ℕ) (u : View) → HasView k es j u
    → has_goal t u.log ≡ true → (stage t u.log ≡ 4) × (word k es (header t) ≡ goal t u.log)

-- the words of a table that is free, was taken out of a root or is retired stay as they are
abbrev pub GivenUpTablesRest : Type 0
GivenUpTablesRest =
    (k : Shape) (e : Event) (es : List Event) → Valid k (e ∷ es) → (t : ℕ) → IsTableName k t → age es t % 5 ≢ 1
    → age es t % 5 ≢ 2
    → table_words k t (run k (e ∷ es)).words ≡ table_words k t (run k es).words

-- ---- readers without a lock

-- what holds at every moment of the table that a root names, also while the version is odd
abbrev pub TablesAreSound : Type 0
TablesAreSound =
    (k : Shape) (es : List Event) → Valid k es → (o : ℕ) → o < container_count k → (t : ℕ)
    → word k es (block o 0) ≡ suc t
    → SoundFor k (run k es).words o t (container_after k.starts (history es) o).content

-- what stays of it from then on until it is taken out of the root
abbrev pub TableWordsStay : Type 0
TableWordsStay =
    (k : Shape) (newer older : List Event) → Valid k (newer ++ older) → (o : ℕ) → o < container_count k → (t : ℕ)
    → word k older (block o 0) ≡ suc t → age (newer ++ older) t ≡ age older t
    → LaterAs (kind_in k.starts o) (class_of t) (table_words k t (run k older).words) (table_words k t (run k (newer
    ++ older)).words)

-- A key that was found is there at the stamp, with the words that were read of it: those of a value where it names no
-- box, else those that were read in the box.
abbrev pub HitsAreRight : Type 0
HitsAreRight =
    (k : Shape) (es : List Event) → Valid k es → (o t p : ℕ) (key : Key) (n : ℕ) → o < container_count k
    → IsKeyed (kind_in k.starts o) → p < rows (kind_in k.starts o) (class_of t) → (j : ℕ) (u : View) → HasView k es j u
    → (h : Hit u.log o t p key n)
    → (n ≤ word k es counter)
    × (under (container_after k.starts (first_writes n (history es)) o).content key ≢ [])
    × ((w f : ℕ) → w < 3 → Among (ReadTable t (entry_offset (slots (class_of t)) p (4 + w)) f) h.mid
    → (w ≡ 2) ⊎ IsReadInPlace t (entry_offset (slots (class_of t)) p 4) h.mid
    → slice_index (under (container_after k.starts (first_writes n (history es)) o).content key) w ≡ f)
    × ((b f : ℕ)
    → IsReadAsBox t (entry_offset (slots (class_of t)) p 4) (entry_offset (slots (class_of t)) p 5) b h.mid
    → (Among (ReadBox b kind_word f) h.mid
    → slice_index (under (container_after k.starts (first_writes n (history es)) o).content key) 0 ≡ f)
    × (Among (ReadBox b payload_word f) h.mid
    → slice_index (under (container_after k.starts (first_writes n (history es)) o).content key) 1 ≡ f))

-- a key that fits its words is absent at the stamp that was not found on its probe, up to a slot never used or over all
-- its slots
abbrev pub MissesAreRight : Type 0
MissesAreRight =
    (k : Shape) (es : List Event) → Valid k es → (o t : ℕ) (key : Key) (n : ℕ) → FitsKey key → o < container_count k
    → IsKeyed (kind_in k.starts o) → (j : ℕ) (u : View) → HasView k es j u
    → Miss u.log o t (rows (kind_in k.starts o) (class_of t))
    (walk_of (kind_in k.starts o) k.texts (class_of t) key) key n
    ⊎ Full u.log o t (rows (kind_in k.starts o) (class_of t))
    (walk_of (kind_in k.starts o) k.texts (class_of t) key) key n
    → (n ≤ word k es counter) × (under (container_after k.starts (first_writes n (history es)) o).content key ≡ [])

-- where the root was read 0 there is nothing at the stamp
abbrev pub BareRootsAreRight : Type 0
BareRootsAreRight =
    (k : Shape) (es : List Event) → Valid k es → (o n : ℕ) → o < container_count k → (j : ℕ) (u : View)
    → HasView k es j u
    → Bare u.log o n → (n ≤ word k es counter) × IsNothing (container_after k.starts (first_writes n (history es)) o)

-- an item that was read is the list's at the stamp, in the same way
abbrev pub ItemsAreRight : Type 0
ItemsAreRight =
    (k : Shape) (es : List Event) → Valid k es → (o t p n : ℕ) → o < container_count k → IsItems (kind_in k.starts o)
    → p < slots (class_of t) → (j : ℕ) (u : View) → HasView k es j u → (h : ItemHit u.log o t p n)
    → (n ≤ word k es counter)
    × ((w f : ℕ) → w < 2 → Among (ReadTable t (item_offset p (1 + w)) f) h.mid
    → IsReadInPlace t (item_offset p 1) h.mid
    → slice_index (words_at (list_of (container_after k.starts (first_writes n (history es)) o).content) p) w ≡ f)
    × ((b f : ℕ) → IsReadAsBox t (item_offset p 1) (item_offset p 2) b h.mid
    → (Among (ReadBox b kind_word f) h.mid
    → slice_index (words_at (list_of (container_after k.starts (first_writes n (history es)) o).content) p) 0 ≡ f)
    × (Among (ReadBox b payload_word f) h.mid
    → slice_index (words_at (list_of (container_after k.starts (first_writes n (history es)) o).content) p) 1 ≡ f))

-- at the stamp a list is no longer than the table that its root named
abbrev pub ListsFitTheirTables : Type 0
ListsFitTheirTables =
    (k : Shape) (es : List Event) → Valid k es → (o t n : ℕ) → o < container_count k → IsItems (kind_in k.starts o)
    → (j : ℕ) (u : View) → HasView k es j u → ItemPast u.log o t n
    → (n ≤ word k es counter)
    × (length (list_of (container_after k.starts (first_writes n (history es)) o).content) ≤ slots (class_of t))

-- what was read between two equal even loads of the version is the reply at the stamp
abbrev pub LooksAreRight : Type 0
LooksAreRight =
    (k : Shape) (es : List Event) → Valid k es → (call : Call) (o : ℕ) → o < container_count k → (j : ℕ) (u : View)
    → HasView k es j u
    → (r : Reply) (n : ℕ) → LookedAtOne k call o r n u.log
    → (n ≤ word k es counter) × (reply_in (stored_newest k.starts (first_writes n (history es))) call ≡ r)

-- and of two containers
abbrev pub LooksAtBothAreRight : Type 0
LooksAtBothAreRight =
    (k : Shape) (es : List Event) → Valid k es → (call : Call) (o p : ℕ) → o < container_count k → p < container_count k
    → (j : ℕ) (u : View) → HasView k es j u
    → (r : Reply) (n : ℕ) → LookedAtBoth k call o p r n u.log
    → (n ≤ word k es counter) × (reply_in (stored_newest k.starts (first_writes n (history es))) call ≡ r)

-- a root that has changed since the pass read it names a table that the pass has not found since it last announced
abbrev pub ChangedRootsAreNew : Type 0
ChangedRootsAreNew =
    (k : Shape) (es : List Event) → Valid k es → (j : ℕ) (u : View) → HasView k es j u → (o r : ℕ)
    → o < container_count k
    → (log : List Act) → u.log ≡ ReadRoot o r ∷ log → IsNew o r log

-- ---- room

-- no counter wraps: the counter, the write number, and the versions of containers and entries stay low
abbrev pub NumbersHaveRoom : Type 0
NumbersHaveRoom =
    (k : Shape) (es : List Event) → Valid k es
    → (word k es counter ≤ k.passes * k.calls)
    × (word k es write_number ≤ 1 + k.passes * k.calls + k.passes)
    × ((o : ℕ) → o < container_count k → word k es (version_of o) ≤ 2 * (k.passes * k.calls) + 1)

-- the version of an entry or item in the table that a root names is at most twice the counter where it is even, and one
-- more where it is odd
abbrev pub EntryVersionsAreLow : Type 0
EntryVersionsAreLow =
    (k : Shape) (es : List Event) → Valid k es → (o : ℕ) → o < container_count k → (t : ℕ)
    → word k es (block o 0) ≡ suc t → (p : ℕ) → p < rows (kind_in k.starts o) (class_of t)
    → (slice_index (table_words k t (run k es).words) (version_at (kind_in k.starts o) (class_of t) p)
    ≤ 2 * word k es counter + 1)
    × (slice_index (table_words k t (run k es).words) (version_at (kind_in k.starts o) (class_of t) p) % 2 ≡ 0
    → slice_index (table_words k t (run k es).words) (version_at (kind_in k.starts o) (class_of t) p)
    ≤ 2 * word k es counter)

-- the next serial of a container is at most the slots of the largest table for each write
abbrev pub NextSerialsAreLow : Type 0
NextSerialsAreLow =
    (k : Shape) (es : List Event) → Valid k es → (o : ℕ)
    → serial_of (container_after k.starts (history es) o).content ≤ 2 ^ 16 * word k es counter

-- ---- what contents say

-- a dict has under a key the words of its first pair with that key's words, and nothing where no pair has them; a set
-- likewise
abbrev pub PairsAreUnderTheirKeys : Type 0
PairsAreUnderTheirKeys =
    (dict : DictContent) (key : Key)
    → ((before : List DictPair) (pair : DictPair) (after : List DictPair) → dict.pairs ≡ before ++ pair ∷ after
    → All (λ other. is_key other.key key ≡ false) before → is_key pair.key key ≡ true
    → under (content.Dict dict) key ≡ pair_words pair)
    × (All (λ other. is_key other.key key ≡ false) dict.pairs → under (content.Dict dict) key ≡ [])

abbrev pub ElementsAreUnderTheirKeys : Type 0
ElementsAreUnderTheirKeys =
    (set : SetContent) (key : Key)
    → ((before : List Element) (element : Element) (after : List Element) → set.elements ≡ before ++ element ∷ after
    → All (λ other. is_key other.key key ≡ false) before → is_key element.key key ≡ true
    → under (content.Set set) key ≡ element_words element)
    × (All (λ other. is_key other.key key ≡ false) set.elements → under (content.Set set) key ≡ [])

-- ---- one pass for all

-- while a pass stands for all passes no other may do anything
abbrev pub OnePassIsAlone : Type 0
OnePassIsAlone =
    (k : Shape) (es : List Event) → Valid k es → (j : ℕ) (u : View) → HasView k es j u → u.number ≢ 0
    → u.parts ≡ k.passes
    → (i : ℕ) (w : View) → HasView k es i w → i ≢ j → w.number ≡ 0
