use Rattle.ft_trace.specs.declared.Act.TheVariants.{PutBox}
use Rattle.ft_bank.proofs.bank.Bank.put_box.Given as goal

abbrev pub ghosts-store_as : goal.ghosts-store_as
ghosts-store_as a = record { act = λ n. PutBox a.o a.i a.value }
