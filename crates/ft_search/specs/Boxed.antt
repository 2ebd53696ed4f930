-- Values that stand in boxes: what a pass knows of them, and what it does with a reference that no word has any longer.
use Rattle.std.specs.Prelude.{◌≡◌, ◌≢◌, ℕ, suc, ◌+◌, ◌<◌, Bool, true, false, List, [], ◌∷◌, slice_index}
use Rattle.ft_layout.specs.Starts.{kind_word, payload_word}
use Rattle.ft_trace.specs.declared.Act.{Act}
use Rattle.ft_trace.specs.declared.Act.TheVariants.{ReadBox}
use Rattle.ft_trace.specs.declared.Shape.{Shape}
use Rattle.ft_trace.specs.declared.View.{View}
use Rattle.ft_trace.specs.Acts.{has_lock, is_writing}
use Rattle.ft_trace.specs.Addresses.{container_count, class_of, IsBoxName}
use Rattle.ft_trace.specs.Boxes.{value_at, known_box_word, knows_box_word, IsSettled}
use Rattle.ft_trace.specs.BoxWords.{box_kind}
use Rattle.ft_trace.specs.ContainerStates.{kind_in}
use Rattle.ft_trace.specs.Holds.{held_words}
use Rattle.ft_trace.specs.Kinds.{rows}
use Rattle.ft_trace.specs.Pictures.{root_in}
use Rattle.ft_bank.specs.declared.table.Table.{Table}
use Rattle.ft_bank.specs.BoxSteps.{kind_read, payload_read, HasReferenceFor}
use Rattle.ft_bank.specs.SameBoxes.{HoldsFew}
use Rattle.ft_bank.specs.TableNames.{table_id, IsTableIn}
use Rattle.ft_search.specs.declared.boxed.SeenValue.{SeenValue}

-- the bank has the box, and the pass knows the value in it
abbrev pub IsKnownBox : View → ℕ → Type 0
IsKnownBox v b =
    IsBoxName v.shape b × (knows_box_word v.shape b kind_word v.log ≡ true)
    × (knows_box_word v.shape b payload_word v.log ≡ true)

-- Whoever has the lock of a container knows the value in each box that its table names.
abbrev pub NamedAreKnown : View → Type 0
NamedAreKnown v =
    (o t row : ℕ) → o < container_count v.shape → has_lock o v.log ≡ true → root_in (held_words o v) ≡ suc t
    → row < rows (kind_in v.shape.starts o) (class_of t)
    → slice_index (held_words o v).table (value_at (kind_in v.shape.starts o) (class_of t) row) ≡ 4
    → IsKnownBox v (slice_index (held_words o v).table (suc (value_at (kind_in v.shape.starts o) (class_of t) row)))

-- The pass writes the container o, whose root names the table; what it has to do with its own boxes is settled, and it
-- holds few references.
pub record WritesTable (k : Shape) (o : ℕ) (table : Table) (v : View) : Type 0 where
  pub container : o < container_count k
  pub table_in : IsTableIn k table
  pub locked : has_lock o v.log ≡ true
  pub odd : is_writing o v.log ≡ true
  pub root : root_in (held_words o v) ≡ suc (table_id table)
  pub settled : IsSettled v.log
  pub few : HoldsFew v

-- the words of the table of the container o stand as they stood, but for this one and the next
abbrev pub StandsBut : ℕ → ℕ → View → View → Type 0
StandsBut o word v w =
    (at : ℕ) → at ≢ word → at ≢ word + 1
    → slice_index (held_words o w).table at ≡ slice_index (held_words o v).table at

-- the loads of the box that a value names, newest first, where it names one
abbrev pub box_acts : Bool → ℕ → ℕ → ℕ → List Act
box_acts true b kind value = ReadBox b payload_word value ∷ (ReadBox b kind_word kind ∷ [])
box_acts false b kind value = []

-- A value that has these words was read so: in its box, or in place where it names none of the bank.
abbrev pub SeesValue : Shape → ℕ → ℕ → SeenValue → Type 0
SeesValue k found payload seen =
    (seen.boxed ≡ true → found ≡ box_kind)
    × (seen.boxed ≡ false → (seen.kind ≡ found) × (seen.value ≡ payload) × (found ≡ box_kind → ¬ IsBoxName k payload))

-- a pass that knows the box has read what it knows
abbrev pub SeesKnown : View → ℕ → SeenValue → Type 0
SeesKnown v payload seen =
    seen.boxed ≡ true → IsKnownBox v payload
    → (seen.kind ≡ known_box_word v.shape payload kind_word v.log)
    × (seen.value ≡ known_box_word v.shape payload payload_word v.log)

-- A value for which the pass holds a reference where it names a box, and whose value the pass knows then, is so still, and
-- reads the same.
abbrev pub KeepsOwn : View → View → Type 0
KeepsOwn v w =
    (kind payload : ℕ) → HasReferenceFor v kind payload
    → HasReferenceFor w kind payload × (kind_read w kind payload ≡ kind_read v kind payload)
    × (payload_read w kind payload ≡ payload_read v kind payload)
