-- Boxes by the names that traces have for them, and what their steps ask of the pass that makes them.
use Rattle.std.specs.Prelude.{◌≡◌, ◌≢◌, ℕ, ◌+◌, ◌*◌, ◌==◌, ◌<◌, ◌%◌, cond, List, [], ◌∷◌, ◌++◌, slice_index}
use Rattle.ft_layout.specs.declared.slot.Ref.{Ref}
use Rattle.ft_trace.specs.declared.Act.{Act}
use Rattle.ft_trace.specs.declared.Act.TheVariants.{ReadFreePlaces, PutTable}
use Rattle.ft_trace.specs.declared.Shape.{Shape}
use Rattle.ft_trace.specs.declared.View.{View}
use Rattle.ft_trace.specs.Addresses.{class_of, maker_of, place_word_of, place_bit_of}
use Rattle.ft_trace.specs.Bits.{bit}
use Rattle.ft_trace.specs.Boxes.{made_state, known_box_word, value_at, state_default, state_making}
use Rattle.ft_trace.specs.BoxPuts.{HasOwnReference}
use Rattle.ft_trace.specs.BoxWords.{box_kind}
use Rattle.ft_trace.specs.ContainerStates.{kind_in}
use Rattle.ft_trace.specs.HeapPlaces.{NotTaken}
use Rattle.ft_trace.specs.Holds.{held_unboxed}
use Rattle.ft_trace.specs.Kinds.{rows, version_at}
use Rattle.ft_trace.specs.Unboxed.{unboxed_kind, unboxed_payload}

-- ---- names

-- the payload of a value that stands in the box
abbrev pub box_id : Ref → ℕ
box_id b = b.pass * 65536 + b.place

-- the bank has the place of this box
abbrev pub IsBoxIn : Shape → Ref → Type 0
IsBoxIn k b = (b.pass < k.passes) × (b.place < k.heap)

-- ---- what the pass is to its box

-- it is making the box
abbrev pub IsMaking : Ref → View → Type 0
IsMaking b v = made_state (box_id b) v.log ≡ state_making

-- it made the box, which is in the default state
abbrev pub IsOwn : Ref → View → Type 0
IsOwn b v = made_state (box_id b) v.log ≡ state_default

-- it shares the box with others: it didn't make it, or has merged it
abbrev pub IsShared : Ref → View → Type 0
IsShared b v = made_state (box_id b) v.log ≢ state_default

-- A load of the pass found the place of the box b free, and the pass hasn't taken the place since.
pub record HasFoundFree (b : ℕ) (log : List Act) : Type 0 where
  pub newer : List Act
  pub rest : List Act
  pub found : ℕ
  pub is : log ≡ newer ++ ReadFreePlaces (maker_of b) (place_word_of b) found ∷ rest
  pub set : bit (place_bit_of b) found ≡ 1
  pub none : NotTaken b newer

-- ---- the value of an entry or item

-- The word is that of the kind of a value in a table of o that its root names t, and the version of its entry or item
-- is odd.
pub record IsOpenValue (v : View) (o t word : ℕ) : Type 0 where
  pub row : ℕ
  pub low : row < rows (kind_in v.shape.starts o) (class_of t)
  pub is : word ≡ value_at (kind_in v.shape.starts o) (class_of t) row
  pub odd : slice_index (held_unboxed o v).table (version_at (kind_in v.shape.starts o) (class_of t) row) % 2 ≡ 1

-- a value that names a box is one for which the pass holds a reference, and whose value it knows
abbrev pub HasReferenceFor : View → ℕ → ℕ → Type 0
HasReferenceFor v kind payload = kind ≡ box_kind → HasOwnReference v.shape v.log payload

-- The two puts of a value, the newer first: the kind is put first, and the payload first where the value stands in a
-- box, so that no words name a box by accident.
abbrev pub value_acts : ℕ → ℕ → ℕ → ℕ → ℕ → List Act
value_acts o t word kind payload =
    cond (kind == box_kind)
    (PutTable o t word kind ∷ PutTable o t (word + 1) payload ∷ [])
    (PutTable o t (word + 1) payload ∷ PutTable o t word kind ∷ [])

-- the kind and the payload that a value reads which has these words, as the pass knows the boxes
abbrev pub kind_read : View → ℕ → ℕ → ℕ
kind_read v kind payload = unboxed_kind (λ b i. known_box_word v.shape b i v.log) kind payload

abbrev pub payload_read : View → ℕ → ℕ → ℕ
payload_read v kind payload = unboxed_payload (λ b i. known_box_word v.shape b i v.log) kind payload
