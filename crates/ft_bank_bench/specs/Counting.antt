-- Passes that count references.
use Rattle.std.specs.Prelude.{◌≡◌, ℕ, false}
use Rattle.ft_bank.specs.declared.bank.Bank.{Bank}
use Rattle.ft_bank.specs.declared.pass.Pass.{Pass}
use Rattle.ft_bank.specs.Passes.{view, IsPassOf}
use Rattle.ft_bank.specs.SameBoxes.{HoldsFew}
use Rattle.ft_trace.specs.Acts.{is_writing}
use Rattle.ft_trace.specs.Boxes.{IsSettled}

-- the pass is one of the bank's, and may make a box, raise one and drop it
pub record MayCount (b : Bank) (p : Pass) : Type 0 where
  pub pass : IsPassOf b p
  pub settled : IsSettled (view p).log
  pub few : HoldsFew (view p)
  pub idle : (o : ℕ) → is_writing o (view p).log ≡ false
