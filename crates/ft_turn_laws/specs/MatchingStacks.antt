-- The open sections and the locks of a thread of the machine of turns, beside those that a pass keeps.
use Rattle.std.specs.Prelude.{◌≡◌, ℕ, List, [], ◌∷◌, reverse}
use Rattle.ft_bank.specs.declared.sections.OpenSection.{OpenSection}
use Rattle.ft_bank.specs.PassSections.{Stack, taken_in}
use Rattle.ft_turns.specs.Orders.{OpenSection as TurnSection, ThreadState, lower_first}
use Rattle.ft_turn_laws.specs.Placings.{times, pair_of}

-- a section of the machine is one of the pass: it has the same containers, and has taken the same locks itself
pub record IsAsSection (section : TurnSection) (kept : OpenSection) : Type 0 where
  pub containers : lower_first section.containers ≡ pair_of kept.locks.lower kept.locks.upper
  pub taken : (o : ℕ) → times o section.taken ≡ taken_in o kept.locks

-- each is, innermost first
abbrev pub AreAsSections : List TurnSection → List OpenSection → Type 0
AreAsSections [] [] = Unit {0}
AreAsSections [] (kept ∷ more) = ⊥
AreAsSections (section ∷ sections) [] = ⊥
AreAsSections (section ∷ sections) (kept ∷ more) = IsAsSection section kept × AreAsSections sections more

-- A thread of the machine has the sections that the pass keeps; its next call has taken the same locks itself, and has
-- waited first for the same thread.
pub record IsAsStack (state : ThreadState) (stack : Stack) : Type 0 where
  pub sections : AreAsSections state.sections (reverse stack.sections)
  pub own : (o : ℕ) → times o state.own ≡ taken_in o stack.own
  pub mark : state.mark ≡ stack.mark
