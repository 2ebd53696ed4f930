-- What a log shows of one key that was looked up without the lock, in a table that a root named before and after.
use Rattle.std.specs.Prelude.{◌≡◌, ◌≢◌, ◌⊎◌, ℕ, suc, ◌%◌, ◌<◌, ◌≤◌, true, false, List, [], ◌∷◌, ◌++◌, length, slice_index}
use Rattle.ft_trace.specs.declared.Act.{Act}
use Rattle.ft_trace.specs.declared.Act.TheVariants.{ReadRoot, ReadTable, ReadCounter, ReadBox, Version, Announce}
use Rattle.ft_trace.specs.Acts.{reads}
use Rattle.ft_layout.specs.Starts.{kind_word, payload_word}
use Rattle.ft_trace.specs.BoxWords.{box_kind}
use Rattle.ft_trace.specs.Addresses.{class_of, slots}
use Rattle.ft_model.specs.declared.data.Key.{Key}
use Rattle.ft_layout.specs.Words.{key_kind, gone_kind, key_payload}
use Rattle.ft_trace.specs.Pictures.{entry_offset, item_offset}
use Rattle.ft_trace.specs.LoggedReads.{Among, Between}

-- no announcement is among these
abbrev pub Online : List Act → Type 0
Online [] = Unit {0}
Online (Announce p x ∷ l) = ⊥
Online (act ∷ l) = Online l

-- the walk was made between two reads of roots that named t, the later one that of o
pub record LookUpWindow (log : List Act) (o t : ℕ) (walk : List Act) : Type 0 where
  pub newer : List Act
  pub rest : List Act
  pub is : log ≡ newer ++ ReadRoot o (suc t) ∷ (walk ++ rest)
  pub online : Online walk
  pub before : reads t rest ≡ true

-- The search read that the entry p has the key, its payload after its kind; later, between two loads of its version
-- that found the same even number, its kind was read as that of the key, and the counter loaded.
pub record Hit (log : List Act) (o t p : ℕ) (key : Key) (n : ℕ) : Type 0 where
  pub walk : List Act
  pub window : LookUpWindow log o t walk
  pub version : ℕ
  pub even : version % 2 ≡ 0
  pub mid : List Act
  pub newer : List Act
  pub rest : List Act
  pub is : walk ≡ newer ++ ReadTable t (entry_offset (slots (class_of t)) p 0) version ∷ (mid
      ++ ReadTable t (entry_offset (slots (class_of t)) p 0) version ∷ rest)
  pub live : Among (ReadTable t (entry_offset (slots (class_of t)) p 2) (key_kind key)) mid
  pub stamp : Among (ReadCounter n) mid
  pub searched : List Act
  pub before : List Act
  pub between : List Act
  pub key_is : rest ≡ searched ++ ReadTable t (entry_offset (slots (class_of t)) p 3) (key_payload key) ∷ (between
      ++ ReadTable t (entry_offset (slots (class_of t)) p 2) (key_kind key) ∷ before)

-- the slot named an entry, whose kind was read after it and is that of another key
pub record OtherKind (walk : List Act) (t slot place : ℕ) (key : Key) : Type 0 where
  pub found : ℕ
  pub live : found ≢ key_kind key
  pub dead : found ≢ gone_kind key
  pub newer : List Act
  pub mid : List Act
  pub rest : List Act
  pub is : walk ≡ newer ++ ReadTable t (entry_offset (slots (class_of t)) place 2) found ∷ (mid
      ++ ReadTable t slot (suc place) ∷ rest)

-- the slot named an entry, whose payload was read after it and is another
pub record OtherPayload (walk : List Act) (t slot place : ℕ) (key : Key) : Type 0 where
  pub found : ℕ
  pub apart : found ≢ key_payload key
  pub newer : List Act
  pub mid : List Act
  pub rest : List Act
  pub is : walk ≡ newer ++ ReadTable t (entry_offset (slots (class_of t)) place 3) found ∷ (mid
      ++ ReadTable t slot (suc place) ∷ rest)

-- the slot named an entry that was read deleted, and after that its version was even
pub record Dead (walk : List Act) (t slot place : ℕ) (key : Key) : Type 0 where
  pub version : ℕ
  pub even : version % 2 ≡ 0
  pub newer : List Act
  pub mid : List Act
  pub rest : List Act
  pub is : walk ≡ newer ++ ReadTable t (entry_offset (slots (class_of t)) place 0) version ∷ (mid
      ++ ReadTable t (entry_offset (slots (class_of t)) place 2) (gone_kind key) ∷ rest)
  pub before : List Act
  pub older : List Act
  pub named : walk ≡ before ++ ReadTable t slot (suc place) ∷ older

pub record Visit (walk : List Act) (t m slot : ℕ) (key : Key) : Type 0 where
  pub place : ℕ
  pub low : place < m
  pub how : OtherKind walk t slot place key ⊎ (OtherPayload walk t slot place key ⊎ Dead walk t slot place key)

-- the slot named none of the m entries of the table
pub record Beyond (walk : List Act) (t m slot : ℕ) : Type 0 where
  pub place : ℕ
  pub high : m ≤ place
  pub newer : List Act
  pub rest : List Act
  pub is : walk ≡ newer ++ ReadTable t slot (suc place) ∷ rest

-- the slot was passed by right
abbrev pub Passed : List Act → ℕ → ℕ → ℕ → Key → Type 0
Passed walk t m slot key = Visit walk t m slot key ⊎ Beyond walk t m slot

-- the slots of the key's probe up to one that was read 0 after the counter was loaded
pub record Miss (log : List Act) (o t m : ℕ) (probe : List ℕ) (key : Key) (n : ℕ) : Type 0 where
  pub walk : List Act
  pub window : LookUpWindow log o t walk
  pub steps : ℕ
  pub small : steps < length probe
  pub newer : List Act
  pub mid : List Act
  pub rest : List Act
  pub is : walk ≡ newer ++ ReadTable t (slice_index probe steps) 0 ∷ (mid ++ ReadCounter n ∷ rest)
  pub visits : (j : ℕ) → j < steps → Passed rest t m (slice_index probe j) key

-- every slot of the key's probe was passed before the counter was loaded
pub record Full (log : List Act) (o t m : ℕ) (probe : List ℕ) (key : Key) (n : ℕ) : Type 0 where
  pub walk : List Act
  pub window : LookUpWindow log o t walk
  pub mid : List Act
  pub rest : List Act
  pub is : walk ≡ mid ++ ReadCounter n ∷ rest
  pub visits : (j : ℕ) → j < length probe → Passed rest t m (slice_index probe j) key

-- between two loads of the version of item p that found the same even number the counter was loaded
pub record ItemHit (log : List Act) (o t p n : ℕ) : Type 0 where
  pub walk : List Act
  pub window : LookUpWindow log o t walk
  pub version : ℕ
  pub even : version % 2 ≡ 0
  pub mid : List Act
  pub newer : List Act
  pub rest : List Act
  pub is : walk ≡ newer ++ ReadTable t (item_offset p 0) version ∷ (mid ++ ReadTable t (item_offset p 0) version ∷ rest)
  pub stamp : Among (ReadCounter n) mid

-- the counter was loaded while the root named a table with no item at this index
pub record ItemPast (log : List Act) (o t n : ℕ) : Type 0 where
  pub walk : List Act
  pub window : LookUpWindow log o t walk
  pub stamp : Among (ReadCounter n) walk

-- the root was read 0 and the counter loaded, between two loads of the container's version that found the same even
-- number
pub record Bare (log : List Act) (o n : ℕ) : Type 0 where
  pub mid : List Act
  pub between : Between log o mid
  pub root : Among (ReadRoot o 0) mid
  pub stamp : Among (ReadCounter n) mid

-- ---- values

-- the kind of the value whose kind lies at this word of the table was read among these, and names no box
abbrev pub IsReadInPlace : ℕ → ℕ → List Act → Type 0
IsReadInPlace t kind_at mid = (kind : ℕ) × (kind ≢ box_kind) × Among (ReadTable t kind_at kind) mid

-- the two words of a value were read among these, at these words of the table, and name this box
abbrev pub IsReadAsBox : ℕ → ℕ → ℕ → ℕ → List Act → Type 0
IsReadAsBox t kind_at payload_at b mid =
    Among (ReadTable t kind_at box_kind) mid × Among (ReadTable t payload_at b) mid

-- the value was read among these, as this kind and payload: as its words stand, or where they name a box, in the box
abbrev pub IsReadAt : ℕ → ℕ → ℕ → ℕ → ℕ → List Act → Type 0
IsReadAt t kind_at payload_at kind payload mid =
    (IsReadInPlace t kind_at mid × Among (ReadTable t kind_at kind) mid × Among (ReadTable t payload_at payload) mid)
    ⊎ ((b : ℕ) × IsReadAsBox t kind_at payload_at b mid × Among (ReadBox b kind_word kind) mid
    × Among (ReadBox b payload_word payload) mid)

-- ---- roots

-- none of these reads a root or announces
abbrev pub ReadsNoRoot : List Act → Type 0
ReadsNoRoot [] = Unit {0}
ReadsNoRoot (ReadRoot o f ∷ l) = ⊥
ReadsNoRoot (Announce p x ∷ l) = ⊥
ReadsNoRoot (act ∷ l) = ReadsNoRoot l

-- these are loads of versions, of words of tables and of boxes, and of the counter
abbrev pub Inner : List Act → Type 0
Inner [] = Unit {0}
Inner (Version o f ∷ l) = Inner l
Inner (ReadTable t i f ∷ l) = Inner l
Inner (ReadCounter f ∷ l) = Inner l
Inner (ReadBox b i f ∷ l) = Inner l
Inner (act ∷ l) = ⊥

-- a root that has changed since the pass read it names a table that the pass hasn't found in a root since it last
-- announced
abbrev pub IsNew : ℕ → ℕ → List Act → Type 0
IsNew o r l =
    (t f : ℕ) (mid rest : List Act) → r ≡ suc t → f ≢ r → l ≡ mid ++ ReadRoot o f ∷ rest → ReadsNoRoot mid
    → reads t l ≡ false
