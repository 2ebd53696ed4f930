-- What the bits of heaps tell.
use Rattle.std.specs.Prelude.{◌≡◌, ◌≢◌, ℕ, suc, List, [], ◌∷◌, ◌++◌}
use mathlib.Core.Option.{some}
use lib.ListN.{get_elem?}
use Rattle.ft_trace.specs.declared.Shape.{Shape}
use Rattle.ft_trace.specs.declared.View.{View}
use Rattle.ft_trace.specs.declared.Act.{Act}
use Rattle.ft_trace.specs.declared.Act.TheVariants.{ReadFreePlaces, TakePlace}
use Rattle.ft_trace.specs.Bits.{bit}
use Rattle.ft_trace.specs.Addresses.{IsBoxName, maker_of, place_word_of, place_bit_of}
use Rattle.ft_trace.specs.BoxTraces.{box_state}
use Rattle.ft_trace.specs.Traces.{Event, did, run, Valid}
use Rattle.ft_trace.specs.Boxes.{state_none}

-- a word of bits that is found 0 has no free place
abbrev pub FullWordsHaveNoFreePlace : Type 0
FullWordsHaveNoFreePlace =
    (k : Shape) (es : List Event) (id : ℕ) (v : View) (b : ℕ) → IsBoxName k b
    → Valid k (did id v (ReadFreePlaces (maker_of b) (place_word_of b) 0) ∷ es) → box_state b es ≢ state_none

-- the action takes no place of this box
abbrev pub IsNotTake : ℕ → Act → Type 0
IsNotTake b (TakePlace c f) = c ≢ b
IsNotTake b act = Unit {0}

abbrev pub NotTaken : ℕ → List Act → Type 0
NotTaken b [] = Unit {0}
NotTaken b (a ∷ l) = IsNotTake b a × NotTaken b l

-- A place of its own heap that a pass found free stays free until it takes the place: so the taking that comes next
-- takes it.
abbrev pub OwnFreePlacesStay : Type 0
OwnFreePlacesStay =
    (k : Shape) (b : ℕ) → IsBoxName k b → (es : List Event) → Valid k es → (j : ℕ) (u : View)
    → get_elem? (run k es).views j ≡ some u → u.number ≡ suc (maker_of b) → (newer rest : List Act) (f : ℕ)
    → u.log ≡ newer ++ ReadFreePlaces (maker_of b) (place_word_of b) f ∷ rest → bit (place_bit_of b) f ≡ 1
    → NotTaken b newer → box_state b es ≡ state_none
