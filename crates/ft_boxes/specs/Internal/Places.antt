-- A box in the midst of its making.
use Rattle.std.specs.Prelude.{◌≡◌, ℕ, ◌+◌, ◌-◌, ◌==◌, cond}
use Rattle.ft_layout.specs.declared.slot.Ref.{Ref}
use Rattle.ft_trace.specs.declared.View.{View}
use Rattle.ft_model.specs.declared.data.Value.{Value}
use Rattle.ft_trace.specs.declared.Act.TheVariants.{ReadFreePlaces}
use Rattle.ft_trace.specs.Acts.{view_after}
use Rattle.ft_trace.specs.Boxes.{local_count, taken_out, place_to_give, place_use, references_held, use_stored, use_taken}
use Rattle.ft_bank.specs.BoxSteps.{box_id, IsBoxIn, IsMaking, IsOwn}
use Rattle.ft_bank.specs.SameBoxes.{SameReferences}
use Rattle.ft_boxes.specs.References.{HoldsOneMore, KeepsValues, KnowsValue, LeavesOthers}

-- the pass has taken a place of its own heap, where it had no box, and makes one there; it has changed nothing else
pub record HasTakenPlace (b : Ref) (v w : View) : Type 0 where
  pub name : IsBoxIn v.shape b
  pub maker : v.number ≡ b.pass + 1
  pub was : (IsOwn b v → ⊥) × (references_held v.shape (box_id b) v.log ≡ 0)
  pub making : IsMaking b w
  pub given : place_to_give (box_id b) w.log ≡ place_to_give (box_id b) v.log
  pub uses : place_use (box_id b) w.log ≡ cond (place_use (box_id b) v.log == use_stored) use_stored use_taken
  pub others : LeavesOthers b v w
  pub same : SameReferences v w

-- it loaded this word of bits of its own heap, which had no free place, and did nothing else
abbrev pub FoundWordFull : ℕ → View → View → Type 0
FoundWordFull word v w = w ≡ view_after (ReadFreePlaces (v.number - 1) word 0) v

-- the box that the pass was making has this value and is in the default state with one reference, which the pass holds
pub record HasFilled (b : Ref) (value : Value) (v w : View) : Type 0 where
  pub own : IsOwn b w
  pub counted : local_count (box_id b) w.log ≡ 1
  pub whole : taken_out (box_id b) w.log ≡ 0
  pub given : place_to_give (box_id b) w.log ≡ place_to_give (box_id b) v.log
  pub uses : place_use (box_id b) w.log ≡ place_use (box_id b) v.log
  pub knows : KnowsValue b value w
  pub more : HoldsOneMore b v w
  pub others : LeavesOthers b v w
  pub values : references_held v.shape (box_id b) v.log ≡ 0 → KeepsValues v w
