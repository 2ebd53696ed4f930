-- What is told of all entries of a pass stays so where more is told.
use Rattle.std.proofs.Common.{◌≡◌, ℕ, List, ◌++◌}
use Rattle.std.specs.Prelude.{Some, slice_get}
use Rattle.ft_trace.specs.declared.Entry.{Entry}
use Rattle.ft_trace.specs.declared.Told.{Told}
use Rattle.ft_trace.proofs.AwaitsTold.{get_before, get_after}
use Rattle.ft_bank_history.specs.Numbering.{AreAllTold}

-- each of the first ones is among the others
abbrev pub AreAlsoTold : List Told → List Told → Type 0
AreAlsoTold told more =
    (place : ℕ) (one : Told) → slice_get told place ≡ Some one → (other : ℕ) × (slice_get more other ≡ Some one)

pub told_first : (told more : List Told) → AreAlsoTold told (told ++ more)
told_first told more place one is = (place, get_before told more place one is)

pub told_last : (more told : List Told) → AreAlsoTold told (more ++ told)
told_last more told place one is = get_after more told place one is

pub told_then : (a b c : List Told) → AreAlsoTold a b → AreAlsoTold b c → AreAlsoTold a c
told_then a b c first then_ place one is = let there = first place one is in then_ there.0 one there.1

pub all_told_more : (thread : ℕ) (entries : List Entry) (told more : List Told) → AreAlsoTold told more → AreAllTold thread entries told → AreAllTold thread entries more
all_told_more thread entries told more also (place, one, at, pass, all) = let there = also place one at in (there.0, one, there.1, pass, all)
