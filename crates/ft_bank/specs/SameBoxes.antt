-- What steps leave of what a pass has to do with boxes.
use Rattle.std.specs.Prelude.{◌≡◌, ◌⊎◌, ℕ, ◌+◌, ◌^◌, ◌<◌, ◌≤◌, ◌==◌, true, cond, List, [], ◌∷◌}
use Rattle.ft_model.specs.declared.script.Kind.{Kind}
use Rattle.ft_trace.specs.declared.Act.{Act}
use Rattle.ft_trace.specs.declared.Act.TheVariants.{RaiseLocal, RaiseShared, RaiseKept}
use Rattle.ft_layout.specs.Starts.{kind_word, payload_word}
use Rattle.ft_trace.specs.declared.View.{View}
use Rattle.ft_trace.specs.Addresses.{IsBoxName}
use Rattle.ft_trace.specs.Boxes.{named_in_root, made_state, local_count, taken_out, place_to_give, place_use, use_taken, references_held, known_box_word, knows_box_word, IsSettled}
use Rattle.ft_trace.specs.ContainerStates.{kind_in}
use Rattle.ft_trace.specs.Holds.{held_words}
use Rattle.ft_trace.specs.Pictures.{ContainerWords, root_in}

-- How often the pass has raised the count of the box.
abbrev pub times_raised_next : ℕ → Act → ℕ → ℕ
times_raised_next b (RaiseLocal c x) n = cond (c == b) (n + 1) n
times_raised_next b (RaiseShared c old f) n = cond (c == b) (cond (f == old) (n + 1) n) n
times_raised_next b (RaiseKept c f) n = cond (c == b) (n + 1) n
times_raised_next b act n = n

abbrev pub times_raised : ℕ → List Act → ℕ
times_raised b [] = 0
times_raised b (a ∷ l) = times_raised_next b a (times_raised b l)

-- the pass holds as many references for each box
abbrev pub SameReferences : View → View → Type 0
SameReferences v w = (b : ℕ) → references_held w.shape b w.log ≡ references_held v.shape b v.log

-- the boxes that the pass made are in the same states, with the same counts; it has the same places to give back, has
-- taken and stored the same, and has raised the count of no box
pub record SameMade (v w : View) : Type 0 where
  pub state : (b : ℕ) → made_state b w.log ≡ made_state b v.log
  pub local : (b : ℕ) → local_count b w.log ≡ local_count b v.log
  pub taken : (b : ℕ) → taken_out b w.log ≡ taken_out b v.log
  pub places : (b : ℕ) → place_to_give b w.log ≡ place_to_give b v.log
  pub uses : (b : ℕ) → place_use b w.log ≡ place_use b v.log
  pub raised : (b : ℕ) → times_raised b w.log ≡ times_raised b v.log

-- it has taken no place for a box
abbrev pub TakesNoPlace : View → View → Type 0
TakesNoPlace v w = (b : ℕ) → place_use b w.log ≡ use_taken → place_use b v.log ≡ use_taken

-- What the pass has to do with its own boxes is settled where it was before: references that it dropped may have merged
-- some of them. It has taken no place for a box. (PEP 703, "Biased Reference Counting")
pub record StaysSettled (v w : View) : Type 0 where
  pub settled : IsSettled v.log → IsSettled w.log
  pub places : TakesNoPlace v w

-- what the pass knew of the value in a box it knows still
abbrev pub KnowsBoxes : View → View → Type 0
KnowsBoxes v w =
    (b i : ℕ) → IsBoxName v.shape b → (i ≡ kind_word) ⊎ (i ≡ payload_word)
    → knows_box_word v.shape b i v.log ≡ true
    → (knows_box_word w.shape b i w.log ≡ true)
    × (known_box_word w.shape b i w.log ≡ known_box_word v.shape b i v.log)

-- all that the pass has to do with boxes is as it was
pub record SameBoxes (v w : View) : Type 0 where
  pub references : SameReferences v w
  pub made : SameMade v w
  pub knows : KnowsBoxes v w

-- how many values of a container with these words name the box
abbrev pub named_in_words : ℕ → Kind → ContainerWords → ℕ
named_in_words b kind x = named_in_root b kind (root_in x) x.table

-- The references that the words of the container o have no longer are those that the pass holds more, and the other way
-- round.
abbrev pub MovesReferences : ℕ → View → View → Type 0
MovesReferences o v w =
    (b : ℕ) → references_held w.shape b w.log + named_in_words b (kind_in w.shape.starts o) (held_words o w)
    ≡ references_held v.shape b v.log + named_in_words b (kind_in v.shape.starts o) (held_words o v)

-- The pass holds no more references than before, but those by which it raised the counts of boxes; some of them it may
-- have dropped.
abbrev pub GainsRaised : View → View → Type 0
GainsRaised v w =
    (b : ℕ) → references_held w.shape b w.log + times_raised b v.log
    ≤ references_held v.shape b v.log + times_raised b w.log

-- The pass holds no more references than before, but those that the words of the container o have no longer, and those
-- by which it raised the counts of boxes; some of them it may have dropped.
abbrev pub LosesReferences : ℕ → View → View → Type 0
LosesReferences o v w =
    (b : ℕ) → references_held w.shape b w.log + named_in_words b (kind_in w.shape.starts o) (held_words o w)
    + times_raised b v.log
    ≤ references_held v.shape b v.log + named_in_words b (kind_in v.shape.starts o) (held_words o v)
    + times_raised b w.log

-- the pass holds so few references for each box that more can be counted
abbrev pub HoldsFew : View → Type 0
HoldsFew v = (b : ℕ) → references_held v.shape b v.log < 2 ^ 31
