use Rattle.ft_trace.specs.declared.Act.TheVariants.{Unlock}
use Rattle.ft_bank.proofs.bank.Bank.unlock.Given as goal

abbrev pub ghosts-store_as : goal.ghosts-store_as
ghosts-store_as a = record { act = λ n. Unlock a.o }
