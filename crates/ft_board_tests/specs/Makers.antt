-- Whose notes the boards of tests have.
use Rattle.std.specs.Prelude.{◌≡◌, ◌≤◌, length}
use Rattle.ft_bank.specs.declared.bank.Bank.{Bank}
use Rattle.ft_bank.specs.declared.pass.Pass.{Pass}
use Rattle.ft_bank.specs.Passes.{view, IsPassOf}

-- the pass is the bank's first one, and has made a call
pub record IsMaker (b : Bank) (p : Pass) : Type 0 where
  pub pass : IsPassOf b p
  pub number : (view p).number ≡ 1
  pub made : 1 ≤ length (view p).entries
