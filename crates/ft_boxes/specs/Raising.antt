-- What it comes to to raise the count of a box.
use Rattle.std.specs.Prelude.{◌≡◌, ◌≢◌, ℕ, List, ◌∷◌}
use Rattle.ft_layout.specs.declared.slot.Ref.{Ref}
use Rattle.ft_layout.specs.Starts.{shared_word}
use Rattle.ft_trace.specs.declared.Act.{Act}
use Rattle.ft_trace.specs.declared.Act.TheVariants.{ReadBox, RaiseShared}
use Rattle.ft_trace.specs.declared.View.{View}
use Rattle.ft_trace.specs.BoxWords.{dead_word}
use Rattle.ft_bank.specs.declared.pass.Pass.{Pass}
use Rattle.ft_bank.specs.BoxSteps.{box_id}
use Rattle.ft_bank.specs.Logs.{WasLog}
use Rattle.ft_bank.specs.SameBoxes.{SameReferences}
use Rattle.ft_bank.specs.Series.{DidAll}
use Rattle.ft_boxes.specs.declared.held.Raised.{Raised}
use Rattle.ft_boxes.specs.declared.held.Raised.TheVariants as raised
use Rattle.ft_boxes.specs.Counting.{AreBoxSteps}
use Rattle.ft_boxes.specs.References.{box_of, HoldsOneMore}

-- the last step of the call loaded the shared word of the box, which was that of a dead one
abbrev pub FoundDead : Ref → View → View → Type 0
FoundDead b v w =
    (before : List Act) × WasLog v.log before × (w.log ≡ ReadBox (box_id b) shared_word dead_word ∷ before)

-- the last two steps of the call loaded the shared word of the box, and found it to be another when it should be raised
abbrev pub FoundMoved : Ref → ℕ → ℕ → View → View → Type 0
FoundMoved b first found v w =
    (found ≢ first)
    × ((before : List Act) × WasLog v.log before
    × (w.log ≡ RaiseShared (box_id b) first found ∷ ReadBox (box_id b) shared_word first ∷ before))

-- what raising the count of the box answers, from the view v to w
abbrev pub Raises : Ref → View → View → Raised → Type 0
Raises b v w (raised.Up held) = (box_of held ≡ b) × HoldsOneMore b v w
Raises b v w raised.Dead = FoundDead b v w × SameReferences v w
Raises b v w (raised.Moved first found) = FoundMoved b first found v w × SameReferences v w

-- The newest of the steps of a raise that left the count show why it did: the shared word of the box was loaded as that of
-- a dead one, or it was loaded as the first number and found to be the second when it should be raised.
abbrev pub ShowsCause : Ref → Raised → List Act → Type 0
ShowsCause b (raised.Up held) part = Unit {0}
ShowsCause b raised.Dead part = (older : List Act) × (part ≡ ReadBox (box_id b) shared_word dead_word ∷ older)
ShowsCause b (raised.Moved first found) part =
    (found ≢ first)
    × ((older : List Act)
    × (part ≡ RaiseShared (box_id b) first found ∷ ReadBox (box_id b) shared_word first ∷ older))

-- the pass took steps to raise the count of the box, and did nothing else; they show what came of it
abbrev pub RaisesBySteps : Ref → Pass → Pass → Raised → Type 0
RaisesBySteps b p q result = (part : List Act) × AreBoxSteps part × DidAll part p q × ShowsCause b result part
