use Rattle.ft_trace.specs.declared.Act.TheVariants.{LowerCount}
use Rattle.ft_bank.proofs.bank.Bank.lower_count.Given as goal

abbrev pub ghosts-exchange_as : goal.ghosts-exchange_as
ghosts-exchange_as a = record { act = λ n. LowerCount a.o a.old n }
