use Rattle.ft_trace.specs.declared.Act.TheVariants.{Retire}
use Rattle.ft_bank.proofs.bank.Bank.retire.Given as goal

abbrev pub ghosts-add_as : goal.ghosts-add_as
ghosts-add_as a = record { act = λ n. Retire a.o n }
