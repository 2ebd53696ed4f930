-- The words in which keys, stored values, entries and items are reported. (profile, all of it)
use Rattle.std.specs.Prelude.{◌≡◌, ℕ, ◌+◌, ◌*◌, ◌^◌, ◌<◌, Option, Some, None, List, [], ◌∷◌, FitsSigned}
use Rattle.std.specs.Int.{w64, cast_unsigned}
use Rattle.ft_model.specs.declared.data.Sym.{Sym}
use Rattle.ft_model.specs.declared.data.Key.{Key}
use Rattle.ft_model.specs.declared.data.Key.TheVariants as key
use Rattle.ft_model.specs.declared.data.Value.TheVariants as value
use Rattle.ft_model.specs.Classes.{IsClass}
use Rattle.ft_layout.specs.declared.slot.Stored.{Stored}
use Rattle.ft_layout.specs.declared.slot.Stored.TheVariants.{Empty, Plain, Boxed}
use Rattle.ft_layout.specs.declared.slot.Pair.{Pair}
use Rattle.ft_layout.specs.declared.slot.Slot.{Slot}
use Rattle.ft_layout.specs.declared.slot.Slot.TheVariants.{Never, Live, Gone}

-- ---- roots and locks

-- the root of the table with this number among those of its class; 0 is the root of a container without a table
abbrev pub root_word : ℕ → ℕ → ℕ
root_word class number = class * 65536 + number + 1

-- a class has at most 1,024 tables
abbrev pub IsRootOf : ℕ → ℕ → ℕ → Type 0
IsRootOf word class number = IsClass class × (number < 1024) × (word ≡ root_word class number)

-- the passes are numbered below 64
abbrev pub IsHolder : ℕ → Type 0
IsHolder pass = pass < 64

-- the lock of a container: 0, or the number of the pass that holds it plus 1
abbrev pub lock_word : Option ℕ → ℕ
lock_word (Some pass) = pass + 1
lock_word None = 0

abbrev pub IsLockOf : ℕ → ℕ → Type 0
IsLockOf word pass = IsHolder pass × (word ≡ pass + 1)

-- ---- keys

-- a key that words can represent: an integer of 64 bits, or a string with a number of 32 bits
abbrev pub FitsKey : Key → Type 0
FitsKey (key.Int n) = FitsSigned w64 n
FitsKey (key.Text sym) = sym.0 < 2 ^ 32

-- the kind of a key that is there; 0 is the kind of an entry that was never used
abbrev pub key_kind : Key → ℕ
key_kind (key.Int n) = 1
key_kind (key.Text sym) = 2

-- the kind of a key that was deleted
abbrev pub gone_kind : Key → ℕ
gone_kind (key.Int n) = 3
gone_kind (key.Text sym) = 4

-- an integer's two's complement, or a string's number
abbrev pub key_payload : Key → ℕ
key_payload (key.Int n) = cast_unsigned w64 n
key_payload (key.Text sym) = sym.0

-- two words are the kind and the payload of this key, there or deleted
pub record IsKey (kind payload : ℕ) (key : Key) : Type 0 where
  pub fits : FitsKey key
  pub kind_is : kind ≡ key_kind key
  pub payload_is : payload ≡ key_payload key

pub record IsGoneKey (kind payload : ℕ) (key : Key) : Type 0 where
  pub fits : FitsKey key
  pub kind_is : kind ≡ gone_kind key
  pub payload_is : payload ≡ key_payload key

-- the number of a string, where 32 bits can represent it
abbrev pub IsText : ℕ → Sym → Type 0
IsText payload sym = (sym.0 < 2 ^ 32) × (payload ≡ sym.0)

-- ---- stored values

abbrev pub FitsStored : Stored → Type 0
FitsStored Empty = Unit {0}
FitsStored (Plain value.Nothing) = Unit {0}
FitsStored (Plain (value.Int n)) = FitsSigned w64 n
FitsStored (Plain (value.Text sym)) = sym.0 < 2 ^ 32
FitsStored (Boxed box) = (box.pass < 64) × (box.place < 4096)

abbrev pub stored_kind : Stored → ℕ
stored_kind Empty = 0
stored_kind (Plain value.Nothing) = 1
stored_kind (Plain (value.Int n)) = 2
stored_kind (Plain (value.Text sym)) = 3
stored_kind (Boxed box) = 4

-- an integer's two's complement, a string's number, a box's pass and place in one number; 0 for nothing and for `None`
abbrev pub stored_payload : Stored → ℕ
stored_payload Empty = 0
stored_payload (Plain value.Nothing) = 0
stored_payload (Plain (value.Int n)) = cast_unsigned w64 n
stored_payload (Plain (value.Text sym)) = sym.0
stored_payload (Boxed box) = box.pass * 65536 + box.place

-- ---- entries and items, their words by number

-- eight words: 0 is kept for a version, and 7 for nothing
abbrev pub entry_words : Pair → List ℕ
entry_words pair =
    0 ∷ pair.hash ∷ key_kind pair.key ∷ key_payload pair.key ∷ stored_kind pair.value ∷ stored_payload pair.value
    ∷ pair.serial ∷ 0 ∷ []

-- a pair that words can represent
abbrev pub FitsPair : Pair → Type 0
FitsPair pair = FitsKey pair.key × FitsStored pair.value

-- four words: 0 is kept for a version, and 3 for nothing
abbrev pub item_words : Stored → List ℕ
item_words stored = 0 ∷ stored_kind stored ∷ stored_payload stored ∷ 0 ∷ []

-- two words are the kind and the payload of this stored value
pub record IsStored (kind payload : ℕ) (stored : Stored) : Type 0 where
  pub fits : FitsStored stored
  pub kind_is : kind ≡ stored_kind stored
  pub payload_is : payload ≡ stored_payload stored

-- words of an entry with these parts, whatever they say together
pub record HasParts (word : ℕ → ℕ) (hash kind payload : ℕ) (stored : Stored) (serial : ℕ) : Type 0 where
  pub hash_is : word 1 ≡ hash
  pub kind_is : word 2 ≡ kind
  pub payload_is : word 3 ≡ payload
  pub stored_is : IsStored (word 4) (word 5) stored
  pub serial_is : word 6 ≡ serial

-- an entry that has this pair
pub record IsLive (word : ℕ → ℕ) (pair : Pair) : Type 0 where
  pub hash : word 1 ≡ pair.hash
  pub key : IsKey (word 2) (word 3) pair.key
  pub value : IsStored (word 4) (word 5) pair.value
  pub serial : word 6 ≡ pair.serial

-- an entry whose key was deleted; the hash stays, and some value may be left
pub record IsGone (word : ℕ → ℕ) (key : Key) (serial : ℕ) : Type 0 where
  pub key_is : IsGoneKey (word 2) (word 3) key
  pub left : Stored
  pub value : IsStored (word 4) (word 5) left
  pub serial_is : word 6 ≡ serial

-- an entry that was never used: no key and nothing stored
pub record IsNever (word : ℕ → ℕ) : Type 0 where
  pub kind : word 2 ≡ 0
  pub payload : word 3 ≡ 0
  pub value : IsStored (word 4) (word 5) Empty

-- the words say this of an entry; words 0 and 7 say nothing of it
abbrev pub IsEntry : (ℕ → ℕ) → Slot → Type 0
IsEntry word Never = IsNever word
IsEntry word (Live pair) = IsLive word pair
IsEntry word (Gone key serial) = IsGone word key serial

-- the words say this of an item; words 0 and 3 say nothing of it
abbrev pub IsItem : (ℕ → ℕ) → Stored → Type 0
IsItem word stored = IsStored (word 1) (word 2) stored
