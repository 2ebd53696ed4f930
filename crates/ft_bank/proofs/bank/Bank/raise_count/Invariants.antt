use Rattle.ft_trace.specs.declared.Act.TheVariants.{RaiseCount}
use Rattle.ft_bank.proofs.bank.Bank.raise_count.Given as goal

abbrev pub ghosts-add_as : goal.ghosts-add_as
ghosts-add_as a = record { act = λ n. RaiseCount a.o n }
