-- The words of a container's table in the bank, and what calls on them did. (profile)
use Rattle.std.specs.Prelude.{◌≡◌, ℕ, suc, ◌<◌, true, List, ◌∷◌}
use Rattle.ft_layout.specs.Containers.{class_mask}
use Rattle.ft_trace.specs.declared.Act.{Act}
use Rattle.ft_trace.specs.declared.Act.TheVariants.{ReadTable, PutTable}
use Rattle.ft_trace.specs.Addresses.{container_count, class_of, size, slots}
use Rattle.ft_trace.specs.Acts.{has_lock, is_writing}
use Rattle.ft_trace.specs.Pictures.{entry_offset, root_in}
use Rattle.ft_trace.specs.ContainerStates.{kind_in}
use Rattle.ft_trace.specs.WholeWrites.{IsNoValue}
use Rattle.ft_trace.specs.Holds.{held_words, held_unboxed, known_state}
use Rattle.ft_keys.specs.declared.words.Access.{Access}
use Rattle.ft_keys.specs.declared.words.Access.TheVariants.{Index, Entry, PutIndex, PutEntry, OldEntry}
use Rattle.ft_keys.specs.Accesses.{Tells, put_by}
use Rattle.ft_bank.specs.Passes.{shape_of, view, IsPassOf, Did}
use Rattle.ft_bank.specs.TableNames.{table_id, IsPlaceOf, IsTableIn}
use Rattle.ft_bank.specs.Whole.{OnlyPut}
use Rattle.ft_bank.specs.WriteSteps.{IsCareful}
use Rattle.ft_search.specs.declared.words.TableWords.{TableWords}

-- the action of a call on the words of table t, which is that of the container o where a word is put
abbrev pub access_act : ℕ → ℕ → Access → Act
access_act o t (Index slot value) = ReadTable t slot value
access_act o t (Entry place word value) = ReadTable t (entry_offset (slots (class_of t)) place word) value
access_act o t (PutIndex slot value) = PutTable o t slot value
access_act o t (PutEntry place word value) = PutTable o t (entry_offset (slots (class_of t)) place word) value
access_act o t (OldEntry place word value) = ReadTable t (entry_offset (slots (class_of t)) place word) value

-- a table of the bank, its last slot and where its words lie, a container and a pass of the bank
pub record CanLoad (s : TableWords) : Type 0 where
  pub pass : IsPassOf s.bank.now s.pass.now
  pub container : s.o < container_count (shape_of s.bank.now)
  pub table : IsTableIn (shape_of s.bank.now) s.table
  pub mask : s.mask ≡ class_mask s.table.class
  pub start : IsPlaceOf (shape_of s.bank.now) s.table s.start

-- the word of a load is one of the table t; there is no old table
abbrev pub IsInside : ℕ → Access → Type 0
IsInside t (Index slot value) = slot < size (class_of t)
IsInside t (Entry place word value) = entry_offset (slots (class_of t)) place word < size (class_of t)
IsInside t (PutIndex slot value) = Unit {0}
IsInside t (PutEntry place word value) = Unit {0}
IsInside t (OldEntry place word value) = ⊥

-- the same bank, pass, container and table
pub record SamePlace (s t : TableWords) : Type 0 where
  pub bank : t.bank ≡ s.bank
  pub pass : t.pass.ghost_name ≡ s.pass.ghost_name
  pub o : t.o ≡ s.o
  pub table : t.table ≡ s.table
  pub mask : t.mask ≡ s.mask
  pub start : t.start ≡ s.start

-- the pass has the lock of the container, whose root names the table
abbrev pub KnowsWords : TableWords → Type 0
KnowsWords s =
    (has_lock s.o (view s.pass.now).log ≡ true) × (root_in (held_words s.o (view s.pass.now)) ≡ suc (table_id s.table))

-- the words of the table that the pass then knows, after a header that says nothing
abbrev pub known_words : TableWords → List ℕ
known_words s = 0 ∷ 0 ∷ (held_words s.o (view s.pass.now)).table

-- and what they read through boxes
abbrev pub read_words : TableWords → List ℕ
read_words s = 0 ∷ 0 ∷ (held_unboxed s.o (view s.pass.now)).table

-- the call puts no word of a value
abbrev pub PutsNoValue : TableWords → Access → Type 0
PutsNoValue s (PutIndex slot value) =
    IsNoValue (kind_in (shape_of s.bank.now).starts s.o) (class_of (table_id s.table)) slot
PutsNoValue s (PutEntry place word value) =
    IsNoValue (kind_in (shape_of s.bank.now).starts s.o) (class_of (table_id s.table))
    (entry_offset (slots (class_of (table_id s.table))) place word)
PutsNoValue s access = Unit {0}

-- words may be put while the pass writes the container
abbrev pub MayPutAny : TableWords → Type 0
MayPutAny s = KnowsWords s × (is_writing s.o (view s.pass.now).log ≡ true)

-- a word may be put that is careful for readers without the lock
abbrev pub MayMake : TableWords → Access → Type 0
MayMake s (PutIndex slot value) = IsCareful (view s.pass.now) s.o (table_id s.table) slot value
MayMake s (PutEntry place word value) =
    IsCareful (view s.pass.now) s.o (table_id s.table)
    (entry_offset (slots (class_of (table_id s.table))) place word) value
MayMake s access = Unit {0}

-- The call was one step of the bank. Where the pass knows the words, they answered it, and have what it put; so did
-- those of each container whose lock the pass has and whose root names the table. A word that is put and is no value's
-- is put in what they read, too.
pub record MadeAccess (s : TableWords) (access : Access) (t : TableWords) : Type 0 where
  pub same : SamePlace s t
  pub inside : IsInside (table_id s.table) access
  pub did : Did (access_act s.o (table_id s.table) access) s.pass.now t.pass.now
  pub others : (c : ℕ) → c < container_count (shape_of s.bank.now) → has_lock c (view s.pass.now).log ≡ true
      → root_in (held_words c (view s.pass.now)) ≡ suc (table_id s.table)
      → Tells s.mask access (0 ∷ 0 ∷ (held_words c (view s.pass.now)).table)
  pub tells : KnowsWords s → Tells s.mask access (known_words s)
  pub left : KnowsWords s → KnowsWords t × (known_words t ≡ put_by s.mask access (known_words s))
      × ((held_words s.o (view t.pass.now)).block ≡ (held_words s.o (view s.pass.now)).block)
      × (known_state s.o (view t.pass.now) ≡ known_state s.o (view s.pass.now))
  pub reads : KnowsWords s → PutsNoValue s access
      → (read_words t ≡ put_by s.mask access (read_words s))
      × ((held_unboxed s.o (view t.pass.now)).block ≡ (held_unboxed s.o (view s.pass.now)).block)
  pub only : OnlyPut s.o (view s.pass.now) (view t.pass.now)
