-- What a thread needs that takes tables out for a list.
use Rattle.std.specs.Prelude.{◌+◌, ℕ}
use Rattle.ft_bank.specs.declared.bank.Bank.{Bank}
use Rattle.ft_bank.specs.declared.pass.Pass.{Pass}
use Rattle.ft_list.specs.ListWrites.{MayCallList}

-- two passes may, the one on this list and the other on the next
pub record MayCallBoth (b : Bank) (p : Pass × Pass) (l : ℕ) : Type 0 where
  pub one : MayCallList b p.0 l
  pub other : MayCallList b p.1 (l + 1)
