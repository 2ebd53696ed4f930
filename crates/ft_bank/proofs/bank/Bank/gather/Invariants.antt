use Rattle.ft_trace.specs.declared.Act.TheVariants.{ReadCounter}
use Rattle.ft_bank.proofs.bank.Bank.gather.Given as goal

abbrev pub ghosts-settle_as : goal.ghosts-settle_as
ghosts-settle_as a = record { act = λ n. ReadCounter n }
