-- Which entry of a table follows a serial, and how many loads it takes to find it.
use Rattle.std.specs.Prelude.{◌≡◌, ◌⊎◌, ℕ, ◌+◌, ◌^◌, ◌<◌, ◌≤◌, ◌==◌, ◌&&◌, ◌||◌, Bool, true, false, not, List, [], ◌∷◌, length, filter, Option, Some, None, slice_index, slice_index_or, option_map, ◌↔◌, if◌then◌else◌}
use Rattle.std.specs.List.{find}
use Rattle.ft_model.specs.Cursors.{is_after}
use Rattle.ft_layout.specs.declared.slot.Pair.{Pair}
use Rattle.ft_layout.specs.declared.slot.Slot.{Slot}
use Rattle.ft_layout.specs.declared.slot.Slot.TheVariants.{Live}
use Rattle.ft_layout.specs.Tables.{UsedEntry, is_live, entry_word}
use Rattle.ft_layout.specs.Words.{IsEntry}
use Rattle.ft_trace.specs.declared.View.{View}
use Rattle.ft_bank.specs.BoxSteps.{kind_read, payload_read}
use Rattle.ft_keys.specs.declared.walk.Way.{Way}
use Rattle.ft_keys.specs.declared.words.Access.{Access}
use Rattle.ft_keys.specs.declared.words.Access.TheVariants.{Index, Entry, PutIndex, PutEntry, OldEntry}
use Rattle.ft_keys.specs.Accesses.{Runs, AreLoads, AreAnswered}
use Rattle.ft_keys.specs.Ways.{IsTableOf}
use Rattle.ft_keys.specs.TableChanges.{entry_of_pair}
use Rattle.ft_iter.specs.declared.pairs.PairWords.{PairWords}

-- ---- loads

-- whether the kind is that of a key that is there, an integer's or a string's; a deleted key's is another, and 0 that
-- of an entry never used
abbrev pub is_there : ℕ → Bool
is_there kind = (kind == 1) || (kind == 2)

-- 1 where the load found an entry that isn't there, and else 0
abbrev pub gone_load : Access → ℕ
gone_load (Entry place word value) = if (word == 2) && not (is_there value) then 1 else 0
gone_load (Index slot value) = 0
gone_load (PutIndex slot value) = 0
gone_load (PutEntry place word value) = 0
gone_load (OldEntry place word value) = 0

-- how many of the loads found an entry that isn't there
abbrev pub gone_loads : List Access → ℕ
gone_loads [] = 0
gone_loads (access ∷ earlier) = gone_load access + gone_loads earlier

-- Loads led from one state of the words to the other, and each is a step. This holds of the loads, and that of each
-- list of words that answers so.
pub record Probed {S : Type 0} (gave : S → Access → S → Type 0) (mask : ℕ) (start end : S) (before after : ℕ)
    (few : List Access → Type 0) (fact : List ℕ → Type 0) : Type 0 where
  pub calls : List Access
  pub runs : Runs gave start calls end
  pub loads : AreLoads calls
  pub steps : after ≡ before + length calls
  pub cost : few calls
  pub shown : (words : List ℕ) → AreAnswered mask calls words → fact words

-- at most as many as the number of entries has binary digits
abbrev pub FewHalvings : ℕ → List Access → Type 0
FewHalvings fill calls = (digits : ℕ) → fill < 2 ^ digits → length calls ≤ digits

-- one, and one for each entry that isn't there
abbrev pub FewPassed : List Access → Type 0
FewPassed calls = length calls ≤ gone_loads calls + 1

-- both together
abbrev pub FewProbes : ℕ → List Access → Type 0
FewProbes fill calls = (digits : ℕ) → fill < 2 ^ digits → length calls ≤ digits + 1 + gone_loads calls

-- ---- what is found

-- the entry before this place has a serial of at most `last`, and the one at the place a greater one
abbrev pub IsFirstAfter : ℕ → List ℕ → ℕ → ℕ → ℕ → Type 0
IsFirstAfter mask words fill last place =
    ((before : ℕ) → before + 1 ≡ place → entry_word mask words before 6 ≤ last)
    × (place < fill → last < entry_word mask words place 6)

-- the entry at the place is there, and none from this one on before it; or none is
abbrev pub IsFirstThere : ℕ → List ℕ → ℕ → ℕ → Option ℕ → Type 0
IsFirstThere mask words from fill (Some place) =
    (from ≤ place) × (place < fill) × (is_there (entry_word mask words place 2) ≡ true)
    × ((other : ℕ) → from ≤ other → other < place → is_there (entry_word mask words other 2) ≡ false)
IsFirstThere mask words from fill None =
    (other : ℕ) → from ≤ other → other < fill → is_there (entry_word mask words other 2) ≡ false

-- of the live ones among these used entries, the one at the place is the first whose serial is greater than the last
-- one given, as serials rise; or none is (profile)
abbrev pub FindsNext : List UsedEntry → Option ℕ → Option ℕ → Type 0
FindsNext used last (Some place) =
    (place < length used)
    × ((any : UsedEntry) → find (λ entry. is_after last entry.serial) (filter is_live used)
    ≡ Some (slice_index_or used place any))
FindsNext used last None = find (λ entry. is_after last entry.serial) (filter is_live used) ≡ None

-- the words by which an entry is found, the kinds of the keys and the serials, are the same in both
abbrev pub SameMarks : ℕ → List ℕ → List ℕ → Type 0
SameMarks mask words read =
    (place word : ℕ) → (word ≡ 2) ⊎ (word ≡ 6) → entry_word mask read place word ≡ entry_word mask words place word

-- in a table with this many used entries, whichever they are; its values may be read elsewhere than in these words
abbrev pub Seeks : ℕ → List ℕ → ℕ → Option ℕ → Option ℕ → Type 0
Seeks mask words fill last place =
    (read : List ℕ) → SameMarks mask words read
    → (way : Way) (texts : List ℕ) (used : List UsedEntry) → IsTableOf way texts mask used read → length used ≡ fill
    → FindsNext used last place

-- the words that say the pair of the entry at the place, as they stand there
abbrev pub HasEntry : ℕ → List ℕ → ℕ → PairWords → Type 0
HasEntry mask words place found =
    (found.hash ≡ entry_word mask words place 1) × (found.key_kind ≡ entry_word mask words place 2)
    × (found.key ≡ entry_word mask words place 3) × (found.value_kind ≡ entry_word mask words place 4)
    × (found.value ≡ entry_word mask words place 5) × (found.serial ≡ entry_word mask words place 6)

-- they are those of the entry that is sought, if there is one
abbrev pub FindsWords : ℕ → List ℕ → ℕ → Option ℕ → Option PairWords → Type 0
FindsWords mask words fill last (Some found) =
    (place : ℕ) × (place < fill) × Seeks mask words fill last (Some place) × HasEntry mask words place found
FindsWords mask words fill last None = Seeks mask words fill last None

-- ---- the pair that is given

-- the words of the entry at the place have this pair, or none that is there
abbrev pub SaysPair : ℕ → List ℕ → ℕ → Option Pair → Type 0
SaysPair mask words place result =
    (pair : Pair) → IsEntry (entry_word mask words place) (Live pair) ↔ (result ≡ Some pair)

-- of the live ones among the used entries of a table, this is the first whose serial is greater than the last one
-- given; or none is (profile)
abbrev pub GivesPair : ℕ → List ℕ → ℕ → Option ℕ → Option Pair → Type 0
GivesPair mask words fill last given =
    (way : Way) (texts : List ℕ) (used : List UsedEntry) → IsTableOf way texts mask used words → length used ≡ fill
    → find (λ entry. is_after last entry.serial) (filter is_live used) ≡ option_map entry_of_pair given

-- these words of an entry say the slot, the value through its box where it has one
abbrev pub SaysEntry : View → PairWords → Slot → Type 0
SaysEntry v found slot =
    IsEntry
    (slice_index
    (0
    ∷ (found.hash
    ∷ (found.key_kind
    ∷ (found.key
    ∷ (kind_read v found.value_kind found.value
    ∷ (payload_read v found.value_kind found.value
    ∷ (found.serial
    ∷ (0
    ∷ [])))))))))
    slot
