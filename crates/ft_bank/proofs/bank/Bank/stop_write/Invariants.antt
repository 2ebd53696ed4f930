use Rattle.ft_trace.specs.declared.Act.TheVariants.{StopWrite}
use Rattle.ft_bank.proofs.bank.Bank.stop_write.Given as goal

abbrev pub ghosts-add_as : goal.ghosts-add_as
ghosts-add_as a = record { act = λ n. StopWrite a.o n }
