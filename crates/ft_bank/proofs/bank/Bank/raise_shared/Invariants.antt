use Rattle.ft_trace.specs.declared.Act.TheVariants.{RaiseShared}
use Rattle.ft_bank.proofs.bank.Bank.raise_shared.Given as goal

abbrev pub ghosts-exchange_as : goal.ghosts-exchange_as
ghosts-exchange_as a = record { act = λ n. RaiseShared a.o a.old n }
