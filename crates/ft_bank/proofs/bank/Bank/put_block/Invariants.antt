use Rattle.ft_trace.specs.declared.Act.TheVariants.{PutBlock}
use Rattle.ft_bank.proofs.bank.Bank.put_block.Given as goal

abbrev pub ghosts-store_as : goal.ghosts-store_as
ghosts-store_as a = record { act = λ n. PutBlock a.o a.i a.value }
