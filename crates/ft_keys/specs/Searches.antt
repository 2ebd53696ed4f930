-- What a search for a key has come to.
use Rattle.std.specs.Prelude.{◌≡◌, ◌≢◌, ℕ, ◌+◌, ◌^◌, ◌<◌, ◌≤◌, List, [], ◌∷◌, ◌++◌, length, filter, All, IsTrue, false, slice_index_or}
use Rattle.ft_model.specs.declared.data.Key.{Key}
use Rattle.ft_layout.specs.Words.{key_kind, gone_kind, key_payload}
use Rattle.ft_layout.specs.Tables.{UsedEntry, is_live, hash_of, dict_room, index_word, entry_word}
use Rattle.ft_keys.specs.declared.walk.Way.{Way}
use Rattle.ft_keys.specs.declared.words.Access.{Access}
use Rattle.ft_keys.specs.declared.search.Found.{Found}
use Rattle.ft_keys.specs.declared.search.Found.TheVariants.{At, Was, Free, Spent}
use Rattle.ft_keys.specs.Ways.{walk_slots, IsTableOf}
use Rattle.ft_keys.specs.Accesses.{Runs, AreLoads, Follows, index_loads, AreAnswered}

-- slot and place are those of a table
abbrev pub IsWithin : ℕ → Found → Type 0
IsWithin mask (At slot place) = (slot ≤ mask) × (place < dict_room mask)
IsWithin mask (Was slot place) = (slot ≤ mask) × (place < dict_room mask)
IsWithin mask (Free slot) = slot ≤ mask
IsWithin mask Spent = Unit {0}

-- the entry at the place is there, with this key
abbrev pub HasKey : ℕ → List ℕ → ℕ → Key → Type 0
HasKey mask words place key =
    (entry_word mask words place 2 ≡ key_kind key) × (entry_word mask words place 3 ≡ key_payload key)

-- the entry at the place was deleted, and had this key
abbrev pub HadKey : ℕ → List ℕ → ℕ → Key → Type 0
HadKey mask words place key =
    (entry_word mask words place 2 ≡ gone_kind key) × (entry_word mask words place 3 ≡ key_payload key)

-- the index word names the entry that is there with this key
abbrev pub NamesKey : ℕ → List ℕ → ℕ → Key → Type 0
NamesKey mask words word key = (place : ℕ) × (place < dict_room mask) × (word ≡ place + 1) × HasKey mask words place key

-- the slot was used, and names no entry that is there with this key
pub record Passes (mask : ℕ) (words : List ℕ) (key : Key) (slot : ℕ) : Type 0 where
  pub was_used : index_word words slot ≢ 0
  pub other : ¬ NamesKey mask words (index_word words slot) key

-- On these words a search that had the first slots to try, and has left these, ended so. It passed the slots before the
-- one where it ended.
abbrev pub EndsAt : ℕ → List ℕ → Key → List ℕ → List ℕ → Found → Type 0
EndsAt mask words key first left (At slot place) =
    (passed : List ℕ) × (first ≡ passed ++ slot ∷ left) × All (Passes mask words key) passed
    × (index_word words slot ≡ place + 1) × HasKey mask words place key
EndsAt mask words key first left (Was slot place) =
    (passed : List ℕ) × (first ≡ passed ++ slot ∷ left) × All (Passes mask words key) passed
    × (index_word words slot ≡ place + 1) × HadKey mask words place key
EndsAt mask words key first left (Free slot) =
    (passed rest : List ℕ) × (first ≡ passed ++ left) × (left ≡ slot ∷ rest) × All (Passes mask words key) passed
    × (index_word words slot ≡ 0)
EndsAt mask words key first left Spent = (left ≡ []) × All (Passes mask words key) first

-- In a table with these used entries the key is at the place, or was there and was deleted, or is nowhere. No search is
-- spent.
abbrev pub Finds : List UsedEntry → Key → Found → Type 0
Finds used key (At slot place) =
    (place < length used)
    × ((any : UsedEntry) → ((slice_index_or used place any).key ≡ key)
    × IsTrue (is_live (slice_index_or used place any)))
Finds used key (Was slot place) =
    (place < length used)
    × ((any : UsedEntry) → ((slice_index_or used place any).key ≡ key)
    × (is_live (slice_index_or used place any) ≡ false))
Finds used key (Free slot) = All (λ entry. entry.key ≢ key) (filter is_live used)
Finds used key Spent = ⊥

-- A search on these words, which had the first slots to try and has left these: it ended rightly, and if the words are
-- a table's and the slots were all those of the key's hash, it found the key exactly where it is.
pub record Searched (mask : ℕ) (words : List ℕ) (key : Key) (first left : List ℕ) (found : Found) : Type 0 where
  pub ends : EndsAt mask words key first left found
  pub finds : (way : Way) (texts : List ℕ) (used : List UsedEntry) → IsTableOf way texts mask used words
      → hash_of texts key < 2 ^ 64 → first ≡ walk_slots way (hash_of texts key) mask → Finds used key found

-- Calls led from one state of the words to the other, and none of them put a word. They loaded the index words of the
-- first slots in order, have left these, and are counted. Each list of words that answers so is one of which the fact
-- is true.
pub record Shows {S : Type 0} (gave : S → Access → S → Type 0) (mask : ℕ) (first left : List ℕ) (start end : S)
    (before after : ℕ) (fact : List ℕ → Type 0) : Type 0 where
  pub calls : List Access
  pub runs : Runs gave start calls end
  pub loads : AreLoads calls
  pub follows : Follows first calls left
  pub steps : after ≡ before + index_loads calls
  pub shown : (words : List ℕ) → AreAnswered mask calls words → fact words
