-- A bank that has two dicts, and passes that look at them.
use Rattle.std.specs.Prelude.{◌≡◌, [], ◌∷◌}
use Rattle.ft_model.specs.declared.script.Kind.TheVariants as kind
use Rattle.ft_model.specs.Worlds.{start_as}
use Rattle.ft_bank.specs.declared.bank.Bank.{Bank}
use Rattle.ft_trace.specs.Boxes.{IsSettled}
use Rattle.ft_bank.specs.declared.pass.Pass.{Pass}
use Rattle.ft_bank.specs.Passes.{shape_of, view, IsPassOf}
use Rattle.ft_bank.specs.SameBoxes.{HoldsFew}

-- the bank has two dicts, and nothing else
abbrev pub HasTwoDicts : Bank → Type 0
HasTwoDicts b = (shape_of b).starts ≡ start_as kind.Dict ∷ start_as kind.Dict ∷ []

-- the pass may look: it has nothing left to do with boxes that it made, and holds few references
pub record MayLook (b : Bank) (p : Pass) : Type 0 where
  pub pass : IsPassOf b p
  pub settled : IsSettled (view p).log
  pub few : HoldsFew (view p)
