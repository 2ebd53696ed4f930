-- What a log shows of a value that was read in a box after the look-up, under a reference that the pass has held since
-- before it loaded the counter.
use Rattle.std.specs.Prelude.{◌≡◌, ◌⊎◌, ℕ, suc, ◌-◌, ◌<◌, List, [], ◌∷◌, ◌++◌, slice_index}
use Rattle.ft_model.specs.declared.data.Key.{Key}
use Rattle.ft_model.specs.Worlds.{list_of}
use Rattle.ft_layout.specs.Starts.{kind_word, payload_word}
use Rattle.ft_trace.specs.declared.Shape.{Shape}
use Rattle.ft_trace.specs.declared.View.{View}
use Rattle.ft_trace.specs.declared.Act.{Act}
use Rattle.ft_trace.specs.declared.Act.TheVariants.{ReadRoot, ReadTable, ReadCounter, ReadBox}
use Rattle.ft_trace.specs.Addresses.{container_count, class_of, slots}
use Rattle.ft_trace.specs.ContainerStates.{container_after, first_writes, kind_in}
use Rattle.ft_trace.specs.Pictures.{entry_offset, item_offset}
use Rattle.ft_trace.specs.ItemWords.{words_at}
use Rattle.ft_trace.specs.Kinds.{rows, under, IsKeyed, IsItems}
use Rattle.ft_trace.specs.LoggedReads.{Among}
use Rattle.ft_trace.specs.LoggedLookUps.{LookUpWindow, Hit, ItemHit, IsReadAsBox}
use Rattle.ft_trace.specs.HeldBoxes.{HeldSince}
use Rattle.ft_trace.specs.Traces.{Event, history, Valid}
use Rattle.ft_trace.specs.TraceLaws.{HasView}

-- The word i of the box b was read after the look-up's last read of the root, and found to be f. The pass has held a
-- reference for the box at each moment since it loaded the counter, between the two loads of the version.
pub record IsReadHeld (k : Shape) (log : List Act) (o t : ℕ) (walk : List Act) (window : LookUpWindow log o t walk)
    (newer : List Act) (load : Act) (mid rest : List Act) (n : ℕ) (stamp : Among (ReadCounter n) mid)
    (b i f : ℕ) : Type 0 where
  pub later : List Act
  pub after : List Act
  pub is : window.newer ≡ later ++ ReadBox b i f ∷ after
  pub held : HeldSince k b
      ((after ++ ReadRoot o (suc t) ∷ []) ++ ((newer ++ load ∷ []) ++ (stamp.newer ++ ReadCounter n ∷ [])))
      ((stamp.rest ++ load ∷ rest) ++ window.rest)

-- the same of an entry that was found, and of an item
abbrev pub IsEntryHeld : Shape → (log : List Act) (o t p : ℕ) (key : Key) (n : ℕ) → Hit log o t p key n → ℕ → ℕ → ℕ
    → Type 0
IsEntryHeld k log o t p key n h b i f =
    IsReadHeld k log o t h.walk h.window h.newer (ReadTable t (entry_offset (slots (class_of t)) p 0) h.version) h.mid
    h.rest n h.stamp b i f

abbrev pub IsItemHeld : Shape → (log : List Act) (o t p n : ℕ) → ItemHit log o t p n → ℕ → ℕ → ℕ → Type 0
IsItemHeld k log o t p n h b i f =
    IsReadHeld k log o t h.walk h.window h.newer (ReadTable t (item_offset p 0) h.version) h.mid h.rest n h.stamp b i f

-- the entry, or the item, named a box, and its value was read so there, as this kind and payload
abbrev pub IsEntryReadHeld : Shape → (log : List Act) (o t p : ℕ) (key : Key) (n : ℕ) → Hit log o t p key n → ℕ → ℕ
    → Type 0
IsEntryReadHeld k log o t p key n h kind payload =
    (b : ℕ)
    × IsReadAsBox t (entry_offset (slots (class_of t)) p 4) (entry_offset (slots (class_of t)) p 5) b h.mid
    × IsEntryHeld k log o t p key n h b kind_word kind
    × IsEntryHeld k log o t p key n h b payload_word payload

abbrev pub IsItemReadHeld : Shape → (log : List Act) (o t p n : ℕ) → ItemHit log o t p n → ℕ → ℕ → Type 0
IsItemReadHeld k log o t p n h kind payload =
    (b : ℕ)
    × IsReadAsBox t (item_offset p 1) (item_offset p 2) b h.mid
    × IsItemHeld k log o t p n h b kind_word kind
    × IsItemHeld k log o t p n h b payload_word payload

-- a word of the value of a key that was found is the content's at the stamp, where it was read so in the box that the
-- entry named
abbrev pub HeldHitsAreRight : Type 0
HeldHitsAreRight =
    (k : Shape) (es : List Event) → Valid k es → (o t p : ℕ) (key : Key) (n : ℕ) → o < container_count k
    → IsKeyed (kind_in k.starts o) → p < rows (kind_in k.starts o) (class_of t) → (j : ℕ) (u : View) → HasView k es j u
    → (h : Hit u.log o t p key n) (b i f : ℕ)
    → IsReadAsBox t (entry_offset (slots (class_of t)) p 4) (entry_offset (slots (class_of t)) p 5) b h.mid
    → (i ≡ kind_word) ⊎ (i ≡ payload_word) → IsEntryHeld k u.log o t p key n h b i f
    → slice_index (under (container_after k.starts (first_writes n (history es)) o).content key) (i - 1) ≡ f

-- and a word of an item's value
abbrev pub HeldItemsAreRight : Type 0
HeldItemsAreRight =
    (k : Shape) (es : List Event) → Valid k es → (o t p n : ℕ) → o < container_count k → IsItems (kind_in k.starts o)
    → p < slots (class_of t) → (j : ℕ) (u : View) → HasView k es j u → (h : ItemHit u.log o t p n) (b i f : ℕ)
    → IsReadAsBox t (item_offset p 1) (item_offset p 2) b h.mid → (i ≡ kind_word) ⊎ (i ≡ payload_word)
    → IsItemHeld k u.log o t p n h b i f
    → slice_index (words_at (list_of (container_after k.starts (first_writes n (history es)) o).content) p) (i - 1) ≡ f
