use Rattle.ft_trace.specs.declared.Act.TheVariants.{RaiseLocal}
use Rattle.ft_bank.proofs.bank.Bank.raise_local.Given as goal

abbrev pub ghosts-store_as : goal.ghosts-store_as
ghosts-store_as a = record { act = λ n. RaiseLocal a.o a.value }
