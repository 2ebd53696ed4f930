use Rattle.ft_trace.specs.declared.Act.TheVariants.{RaiseKept}
use Rattle.ft_bank.proofs.bank.Bank.raise_kept.Given as goal

abbrev pub ghosts-raise_as : goal.ghosts-raise_as
ghosts-raise_as a = record { act = λ n. RaiseKept a.b n }
