use Rattle.ft_trace.specs.declared.Act.TheVariants.{Lock}
use Rattle.ft_bank.proofs.bank.Bank.try_lock.Given as goal

abbrev pub ghosts-look_as : goal.ghosts-look_as
ghosts-look_as a = record { act = λ n s. Lock a.o n s }

abbrev pub ghosts-lock_as : goal.ghosts-lock_as
ghosts-lock_as a = record { act = λ n s. Lock a.o n s }
