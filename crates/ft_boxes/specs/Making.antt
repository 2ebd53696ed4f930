-- What it comes to to make a box.
use Rattle.std.specs.Prelude.{◌≡◌, ◌⊎◌, ℕ, zero, suc, ◌+◌, ◌-◌, ◌/◌, ◌==◌, cond, List, [], ◌∷◌, ◌++◌}
use Rattle.ft_layout.specs.declared.slot.Ref.{Ref}
use Rattle.ft_model.specs.declared.data.Value.{Value}
use Rattle.ft_trace.specs.declared.Act.{Act}
use Rattle.ft_trace.specs.declared.Act.TheVariants.{ReadFreePlaces}
use Rattle.ft_trace.specs.declared.View.{View}
use Rattle.ft_trace.specs.Acts.{view_after}
use Rattle.ft_trace.specs.Boxes.{local_count, place_use, references_held, use_stored, use_taken}
use Rattle.ft_bank.specs.BoxSteps.{box_id, IsBoxIn, IsOwn}
use Rattle.ft_bank.specs.SameBoxes.{SameBoxes}
use Rattle.ft_boxes.specs.declared.held.Made.{Made}
use Rattle.ft_boxes.specs.declared.held.Made.TheVariants as made
use Rattle.ft_boxes.specs.References.{box_of, HoldsOneMore, KnowsValue, LeavesOthers}

-- The box lies in the pass's own heap, at a place where it had none; it has this value, which the pass knows, and is in
-- the default state with local count 1, for the one reference, which the pass holds. The place is taken, where no write of
-- the pass had stored a box there before. All other boxes are as they were.
pub record HasMade (b : Ref) (value : Value) (v w : View) : Type 0 where
  pub name : IsBoxIn v.shape b
  pub maker : v.number ≡ b.pass + 1
  pub was : (IsOwn b v → ⊥) × (references_held v.shape (box_id b) v.log ≡ 0)
  pub own : IsOwn b w
  pub counted : local_count (box_id b) w.log ≡ 1
  pub uses : place_use (box_id b) w.log ≡ cond (place_use (box_id b) v.log == use_stored) use_stored use_taken
  pub knows : KnowsValue b value w
  pub more : HoldsOneMore b v w
  pub others : LeavesOthers b v w

-- loads of the first words of bits of a heap, the newest first, each of which found no free place
abbrev pub full_loads : ℕ → ℕ → List Act
full_loads q zero = []
full_loads q (suc word) = ReadFreePlaces q word 0 ∷ full_loads q word

-- the pass loaded each of so many words of bits of its own heap once, found no free place there, and did nothing else
abbrev pub FoundFull : ℕ → View → View → Type 0
FoundFull words v w = w.log ≡ full_loads (v.number - 1) words ++ v.log

-- it had loaded one of these words before, and found no free place there either
abbrev pub FoundOneFull : View → View → Type 0
FoundOneFull v w = (word : ℕ) × (w ≡ view_after (ReadFreePlaces (v.number - 1) word 0) v)

-- each word of its heap; before that it may have looked at one of them
abbrev pub FoundHeapFull : View → View → Type 0
FoundHeapFull v w = (x : View) × ((x ≡ v) ⊎ FoundOneFull v x) × FoundFull (v.shape.heap / 64) x w

-- what making a box of the value answers, from the view v to w
abbrev pub Makes : Value → View → View → Made → Type 0
Makes value v w (made.Up held) = HasMade (box_of held) value v w
Makes value v w made.HeapFull = FoundHeapFull v w × SameBoxes v w
