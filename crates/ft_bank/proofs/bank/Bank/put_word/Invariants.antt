use Rattle.ft_trace.specs.declared.Act.TheVariants.{PutTable}
use Rattle.ft_bank.proofs.bank.Bank.put_word.Given as goal

abbrev pub ghosts-store_as : goal.ghosts-store_as
ghosts-store_as a = record { act = λ n. PutTable a.o a.t a.i a.value }
