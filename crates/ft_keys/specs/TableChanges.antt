-- What calls that put words make of a table.
use Rattle.std.specs.Prelude.{◌≡◌, ◌≢◌, ◌↔◌, ℕ, zero, suc, ◌+◌, ◌<◌, ◌≤◌, Bool, IsTrue, List, [], ◌∷◌, ◌++◌, length, filter, All, Option, Some, None, slice_index}
use Rattle.ft_layout.specs.declared.slot.Pair.{Pair}
use Rattle.ft_layout.specs.declared.slot.Slot.TheVariants.{Live}
use Rattle.ft_layout.specs.Words.{IsEntry, entry_words}
use Rattle.ft_layout.specs.Tables.{UsedEntry, is_live, hash_of, slot_of, dict_room, index_word, entry_word}
use Rattle.ft_keys.specs.declared.walk.Way.{Way}
use Rattle.ft_keys.specs.declared.words.Access.{Access}
use Rattle.ft_keys.specs.declared.words.Access.TheVariants.{Index, PutIndex, PutEntry}
use Rattle.ft_keys.specs.Ways.{walk_slots, room, IsTableOf}
use Rattle.ft_keys.specs.Puts.{PutBelow}
use Rattle.ft_keys.specs.Accesses.{Runs, AreAnswered, FitsOld, after, AreLoads, Allows}

-- how many calls there are beside loads of index words
abbrev pub other_calls : List Access → ℕ
other_calls [] = 0
other_calls (Index slot value ∷ earlier) = other_calls earlier
other_calls (access ∷ earlier) = other_calls earlier + 1

-- Calls led from one state of the words to the other, and put words of entries below the limit alone, no version. Of
-- each list of words that answers so, and of what they leave of it, the fact is true.
pub record Puts {S : Type 0} (gave : S → Access → S → Type 0) (mask : ℕ) (start end : S) (most limit : ℕ)
    (fact : List ℕ → List ℕ → Type 0) : Type 0 where
  pub calls : List Access
  pub runs : Runs gave start calls end
  pub few : other_calls calls ≤ most
  pub below : PutBelow mask limit calls
  pub done : (words : List ℕ) → AreAnswered mask calls words → fact words (after mask calls words)

-- On this walk this slot is the first that was never used, or there is none.
abbrev pub FirstFree : List ℕ → List ℕ → Option ℕ → Type 0
FirstFree words slots (Some slot) =
    (passed rest : List ℕ) × (slots ≡ passed ++ slot ∷ rest) × All (λ other. index_word words other ≢ 0) passed
    × (index_word words slot ≡ 0)
FirstFree words slots None = All (λ slot. index_word words slot ≢ 0) slots

-- a word that stays 0, as it is in an entry never used, isn't put
abbrev pub unless_zero : ℕ → ℕ → ℕ → List Access
unless_zero place word zero = []
unless_zero place word (suc value) = PutEntry place word (suc value) ∷ []

-- The puts of a new entry, the newest first: hash, key payload, value kind, value payload, serial, and then the key's
-- kind, from which on the entry is there.
abbrev pub entry_puts : ℕ → List ℕ → List Access
entry_puts place entry =
    let word : ℕ → ℕ = slice_index entry in
    PutEntry place 2 (word 2)
    ∷ (PutEntry place 6 (word 6) ∷ (unless_zero place 5 (word 5) ++ (unless_zero place 4 (word 4)
    ++ (unless_zero place 3 (word 3) ++ (PutEntry place 1 (word 1) ∷ [])))))

-- and last the index word that names it
abbrev pub place_puts : ℕ → ℕ → List ℕ → List Access
place_puts slot place entry = PutIndex slot (place + 1) ∷ entry_puts place entry

-- Once loads were made, the last of which found a slot never used, the entry may be put and named there, each put after
-- those before it.
abbrev pub MayPlace : {S : Type 0} → (S → Access → S → Type 0) → (S → Access → Type 0) → (S → Type 0) → ℕ → S → ℕ
    → List ℕ → Type 0
MayPlace {S} gave may ready mask start place entry =
    (loads : List Access) (slot : ℕ) (between : S) → AreLoads loads → slot ≤ mask →
    Runs gave start (Index slot 0 ∷ loads) between → ready between
    → Allows gave may between (place_puts slot place entry)

-- So may any pair at any place from the fill on, once calls put words of entries below that place alone.
abbrev pub MayRebuild : {S : Type 0} → (S → Access → S → Type 0) → (S → Access → Type 0) → (S → Type 0) → ℕ → S → ℕ
    → Type 0
MayRebuild {S} gave may ready mask start fill = (calls : List Access) (slot place : ℕ) (pair : Pair) (between : S) →
    PutBelow mask place calls → slot ≤ mask → fill ≤ place → place < dict_room mask →
    Runs gave start (Index slot 0 ∷ calls) between → ready between
    → Allows gave may between (place_puts slot place (entry_words pair))

-- Loads led from one state of the words to the other, and the last of them found this slot never used, if there is one.
-- On each list of words that answers so it is the first such slot of the walk.
pub record FindsFree {S : Type 0} (gave : S → Access → S → Type 0) (mask : ℕ) (slots : List ℕ) (start end : S)
    (free : Option ℕ) : Type 0 where
  pub calls : List Access
  pub runs : Runs gave start calls end
  pub loads : AreLoads calls
  pub few : other_calls calls ≡ 0
  pub last : (slot : ℕ) → free ≡ Some slot → (earlier : List Access) × AreLoads earlier
      × (calls ≡ Index slot 0 ∷ earlier)
  pub shown : (words : List ℕ) → AreAnswered mask calls words → FirstFree words slots free

-- The entry is put at the place, and named in the first slot of its hash that was never used. Where each was used, as
-- in no table, nothing is put.
abbrev pub placed_in : ℕ → ℕ → List ℕ → List ℕ → Option ℕ → List ℕ
placed_in mask place entry words (Some slot) = after mask (place_puts slot place entry) words
placed_in mask place entry words None = words

abbrev pub Placed : Way → ℕ → ℕ → List ℕ → List ℕ → List ℕ → Type 0
Placed way mask place entry before later =
    (free : Option ℕ) × FirstFree before (walk_slots way (slice_index entry 1) mask) free
    × (later ≡ placed_in mask place entry before free)

-- the entry of a pair that is there
abbrev pub entry_of_pair : Pair → UsedEntry
entry_of_pair pair = record { key = pair.key; serial = pair.serial; stored = Some pair.value }

-- Where the words were those of a table with that many used entries, the pair's hash is its key's, its key wasn't there
-- and its serial is greater than every serial there, the words are those of the table with the pair after the others.
abbrev pub AddsPair : Way → ℕ → ℕ → Pair → List ℕ → List ℕ → Type 0
AddsPair way mask fill pair before after =
    (texts : List ℕ) (used : List UsedEntry) → IsTableOf way texts mask used before → length used ≡ fill
    → pair.hash ≡ hash_of texts pair.key →
    All (λ entry. entry.key ≢ pair.key) (filter is_live used) → All (λ entry. entry.serial < pair.serial) used →
    IsTableOf way texts mask (used ++ entry_of_pair pair ∷ []) after

-- Calls led from one state of the words to the other, put words of entries below the limit alone, no version, and
-- loaded words of an old table, which nobody changes. Of each list of words and of old words that answers so, and of
-- what they leave of the first, the fact is true.
pub record Moves {S : Type 0} (gave : S → Access → S → Type 0) (mask : ℕ) (start end : S) (most limit : ℕ)
    (fact : ℕ → List ℕ → List ℕ → List ℕ → Type 0) : Type 0 where
  pub calls : List Access
  pub runs : Runs gave start calls end
  pub few : other_calls calls ≤ most
  pub below : PutBelow mask limit calls
  pub done : (words old : List ℕ) (old_mask : ℕ) → AreAnswered mask calls words → FitsOld old_mask calls old
      → fact old_mask old words (after mask calls words)

-- The words of the old entry have this pair, or none that is there.
abbrev pub SaysOld : ℕ → Option Pair → ℕ → List ℕ → List ℕ → List ℕ → Type 0
SaysOld place result old_mask old before after =
    (after ≡ before) × ((pair : Pair) → IsEntry (entry_word old_mask old place) (Live pair) ↔ (result ≡ Some pair))

-- An old entry that is there is after the others of the new table, if there is room for it, no other has its key, and
-- its serial is greater than theirs. One that was deleted is not.
abbrev pub MovesEntry : Way → ℕ → ℕ → ℕ → Bool → ℕ → List ℕ → List ℕ → List ℕ → Type 0
MovesEntry way mask place fill result old_mask old before after =
    (texts : List ℕ) (moved : List UsedEntry) (entry : UsedEntry) →
    IsTableOf way texts mask moved before → length moved ≡ fill
    → IsEntry (entry_word old_mask old place) (slot_of texts entry) →
    (IsTrue (is_live entry) → (fill < room way mask) × All (λ other. other.key ≢ entry.key) (filter is_live moved)
    × All (λ other. other.serial < entry.serial) moved) →
    IsTableOf way texts mask (moved ++ filter is_live (entry ∷ [])) after × (result ≡ is_live entry)

-- An empty table with room for them has got the entries of the old one that are there, in their order, and these alone;
-- the answer is how many.
abbrev pub Rebuilds : Way → ℕ → ℕ → ℕ → ℕ → List ℕ → List ℕ → List ℕ → Type 0
Rebuilds way mask old_fill result old_mask old before after = (texts : List ℕ) (used : List UsedEntry) →
    IsTableOf way texts mask [] before → IsTableOf way texts old_mask used old → length used ≡ old_fill
    → length (filter is_live used) ≤ room way mask →
    IsTableOf way texts mask (filter is_live used) after × (result ≡ length (filter is_live used))
