-- The words of a table while the entry of a new key is put into it.
use Rattle.std.specs.Prelude.{◌≡◌, ℕ, ◌+◌, ◌*◌, ◌%◌, ◌<◌, ◌≤◌, List, [], ◌∷◌, length, slice_set}
use Rattle.ft_layout.specs.declared.slot.Pair.{Pair}
use Rattle.ft_layout.specs.declared.slot.Ref.{Ref}
use Rattle.ft_layout.specs.Words.{entry_words}
use Rattle.ft_keys.specs.declared.words.Access.{Access}
use Rattle.ft_keys.specs.declared.words.Access.TheVariants.{PutIndex, PutEntry}
use Rattle.ft_keys.specs.TableChanges.{place_puts}
use Rattle.ft_trace.specs.Addresses.{class_of, slots}
use Rattle.ft_trace.specs.declared.View.{View}
use Rattle.ft_trace.specs.BoxWords.{box_kind}
use Rattle.ft_trace.specs.Holds.{held_unboxed}
use Rattle.ft_bank.specs.BoxSteps.{box_id, kind_read, payload_read, HasReferenceFor, IsBoxIn}
use Rattle.ft_trace.specs.Pictures.{ContainerWords, index_field, entry_offset, entry_field}
use Rattle.ft_new_keys.specs.declared.counts.Counts.{Counts}
use Rattle.ft_new_keys.specs.Placing.{counted}
use Rattle.ft_search.specs.OneEntryWrites.{raised_at}

-- the words of a table with n index slots, counted after its header, once a call has put one
abbrev pub put_in : ℕ → Access → List ℕ → List ℕ
put_in n (PutIndex slot value) words = slice_set words slot value
put_in n (PutEntry place word value) words = slice_set words (entry_offset n place word) value
put_in n access words = words

-- and once calls have put some, the newest first
abbrev pub laid : ℕ → List Access → List ℕ → List ℕ
laid n [] words = words
laid n (access ∷ earlier) words = put_in n access (laid n earlier words)

-- a table's words once the entry at a place has this pair, with its version odd, and a slot names it
abbrev pub with_pair : ℕ → ℕ → ℕ → Pair → ContainerWords → List ℕ
with_pair t slot place pair x =
    laid (slots (class_of t)) (place_puts slot place (entry_words pair)) (raised_at t place x).table

-- the words of a container with a new pair after the entries that were used
abbrev pub with_entry : ℕ → ℕ → Counts → Pair → ContainerWords → ContainerWords
with_entry t slot counts pair x =
    record {
      block = counted x.block (counts.count + 1) (counts.fill + 1) (pair.serial + 1);
      table = with_pair t slot counts.fill pair x;
    }

-- In these words of a table with n index slots and m entries neither the slot nor the entry at the place was ever used,
-- the entry's version is even, and it stores nothing. (profile)
pub record IsUnused (n m : ℕ) (words : List ℕ) (slot place : ℕ) : Type 0 where
  pub low : place < m
  pub in_index : slot < n
  pub long : n + 8 * m ≤ length words
  pub even : entry_field n words place 0 % 2 ≡ 0
  pub none : entry_field n words place 2 ≡ 0
  pub stores : entry_field n words place 4 ≡ 0
  pub free : index_field words slot ≡ 0

-- The pass holds a reference for the box, and knows that what stands there reads as the value of the entry at this place
-- of the table t of the container o. (profile)
pub record ReadsAsEntry (o t place : ℕ) (b : Ref) (v : View) : Type 0 where
  pub name : IsBoxIn v.shape b
  pub own : HasReferenceFor v box_kind (box_id b)
  pub kind : kind_read v box_kind (box_id b) ≡ entry_field (slots (class_of t)) (held_unboxed o v).table place 4
  pub payload : payload_read v box_kind (box_id b) ≡ entry_field (slots (class_of t)) (held_unboxed o v).table place 5
