use Rattle.ft_trace.specs.declared.Act.TheVariants.{DropLocal}
use Rattle.ft_bank.proofs.bank.Bank.drop_local.Given as goal

abbrev pub ghosts-store_as : goal.ghosts-store_as
ghosts-store_as a = record { act = λ n. DropLocal a.o a.value }
