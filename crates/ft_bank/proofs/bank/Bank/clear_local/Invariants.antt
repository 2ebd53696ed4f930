use Rattle.ft_trace.specs.declared.Act.TheVariants.{ClearLocal}
use Rattle.ft_bank.proofs.bank.Bank.clear_local.Given as goal

abbrev pub ghosts-store_as : goal.ghosts-store_as
ghosts-store_as a = record { act = λ n. ClearLocal a.o }
