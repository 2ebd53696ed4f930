-- The references that a pass holds for boxes, and how calls change them. (PEP 703, "Biased Reference Counting")
use Rattle.std.specs.Prelude.{◌≡◌, ◌≢◌, ℕ, ◌+◌, ◌<◌, ◌==◌, true, false, cond}
use Rattle.ft_layout.specs.declared.slot.Ref.{Ref}
use Rattle.ft_layout.specs.declared.slot.Stored.TheVariants.{Plain}
use Rattle.ft_layout.specs.Starts.{kind_word, payload_word}
use Rattle.ft_layout.specs.Words.{IsStored}
use Rattle.ft_model.specs.declared.data.Value.{Value}
use Rattle.ft_trace.specs.declared.View.{View}
use Rattle.ft_trace.specs.Acts.{is_writing}
use Rattle.ft_trace.specs.Boxes.{made_state, local_count, taken_out, place_to_give, place_use, references_held, use_taken, known_box_word, knows_box_word}
use Rattle.ft_bank.specs.BoxSteps.{box_id, IsBoxIn}
use Rattle.ft_boxes.specs.declared.held.Held.{Held}

-- the box of a reference
abbrev pub box_of : Held → Ref
box_of held = held.at

-- the pass holds a reference for the box, which is one of the bank
abbrev pub HoldsBox : Ref → View → Type 0
HoldsBox b v = IsBoxIn v.shape b × (0 < references_held v.shape (box_id b) v.log)

-- the pass holds one reference more for the box, and as many for each other one
abbrev pub HoldsOneMore : Ref → View → View → Type 0
HoldsOneMore b v w =
    (c : ℕ) → references_held w.shape c w.log ≡ references_held v.shape c v.log + cond (c == box_id b) 1 0

-- one less for the box, and as many for each other one
abbrev pub HoldsOneLess : Ref → View → View → Type 0
HoldsOneLess b v w =
    (c : ℕ) → references_held v.shape c v.log ≡ references_held w.shape c w.log + cond (c == box_id b) 1 0

-- each other box that the pass made is in the same state, with the same counts; it has the same other places to give back,
-- and has taken and stored the same other ones
pub record LeavesOthers (b : Ref) (v w : View) : Type 0 where
  pub state : (c : ℕ) → c ≢ box_id b → made_state c w.log ≡ made_state c v.log
  pub local : (c : ℕ) → c ≢ box_id b → local_count c w.log ≡ local_count c v.log
  pub taken : (c : ℕ) → c ≢ box_id b → taken_out c w.log ≡ taken_out c v.log
  pub places : (c : ℕ) → c ≢ box_id b → place_to_give c w.log ≡ place_to_give c v.log
  pub uses : (c : ℕ) → c ≢ box_id b → place_use c w.log ≡ place_use c v.log

-- Where the pass held the last reference for a box whose place it had taken, and writes no container, the place is given
-- back, or the box was stored by a write before.
abbrev pub LeavesNoTaken : Ref → View → View → Type 0
LeavesNoTaken b v w =
    ((o : ℕ) → is_writing o v.log ≡ false) → references_held w.shape (box_id b) w.log ≡ 0
    → place_use (box_id b) w.log ≢ use_taken

-- the pass knows the value in the box
pub record KnowsValue (b : Ref) (value : Value) (v : View) : Type 0 where
  pub kind : knows_box_word v.shape (box_id b) kind_word v.log ≡ true
  pub payload : knows_box_word v.shape (box_id b) payload_word v.log ≡ true
  pub words : IsStored (known_box_word v.shape (box_id b) kind_word v.log)
      (known_box_word v.shape (box_id b) payload_word v.log) (Plain value)

-- what the pass knew of the value in a box for which it holds a reference before and after, it knows still
abbrev pub KeepsValues : View → View → Type 0
KeepsValues v w =
    (b : Ref) (value : Value) → HoldsBox b v → HoldsBox b w → KnowsValue b value v → KnowsValue b value w
