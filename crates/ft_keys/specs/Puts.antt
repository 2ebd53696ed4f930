-- What calls put into a table's words, and in which order those of a new entry are put.
use Rattle.std.specs.Prelude.{◌≡◌, ◌≢◌, ℕ, ◌+◌, ◌<◌, ◌≤◌, List, [], ◌∷◌}
use Rattle.ft_layout.specs.Tables.{index_word, entry_word}
use Rattle.ft_layout.specs.Fields.{Field}
use Rattle.ft_layout.specs.Fields as fields
use Rattle.ft_keys.specs.declared.words.Access.{Access}
use Rattle.ft_keys.specs.declared.words.Access.TheVariants.{PutIndex, PutEntry}
use Rattle.ft_keys.specs.Accesses.{after}

-- the call puts this number into this word of the table
abbrev pub IsPutOf : Access → Field → ℕ → Type 0
IsPutOf (PutIndex slot value) field number = (field ≡ fields.Index slot) × (number ≡ value)
IsPutOf (PutEntry place word value) field number = (field ≡ fields.Entry place word) × (number ≡ value)
IsPutOf access field number = ⊥

-- the call puts an index word of the table, or a word of an entry below this place that isn't kept for a version
abbrev pub PutsBelow : ℕ → ℕ → Access → Type 0
PutsBelow mask limit (PutIndex slot value) = slot ≤ mask
PutsBelow mask limit (PutEntry place word value) = (place < limit) × (1 ≤ word) × (word < 8)
PutsBelow mask limit access = Unit {0}

-- each of them does, or puts nothing
abbrev pub PutBelow : ℕ → ℕ → List Access → Type 0
PutBelow mask limit [] = Unit {0}
PutBelow mask limit (access ∷ earlier) = PutsBelow mask limit access × PutBelow mask limit earlier

-- On these words the put is one after which a search still finds what it found: an index word where there is none, to
-- an entry that is there by then; a word of an entry only before the entry has a kind.
abbrev pub IsInOrder : ℕ → List ℕ → Access → Type 0
IsInOrder mask words (PutIndex slot value) =
    (index_word words slot ≡ 0) × (place : ℕ) × (value ≡ place + 1) × (entry_word mask words place 2 ≢ 0)
IsInOrder mask words (PutEntry place word value) = entry_word mask words place 2 ≡ 0
IsInOrder mask words access = Unit {0}

-- each of them is so on the words that the earlier ones left
abbrev pub ArePutsInOrder : ℕ → List Access → List ℕ → Type 0
ArePutsInOrder mask [] words = Unit {0}
ArePutsInOrder mask (access ∷ earlier) words =
    ArePutsInOrder mask earlier words × IsInOrder mask (after mask earlier words) access
