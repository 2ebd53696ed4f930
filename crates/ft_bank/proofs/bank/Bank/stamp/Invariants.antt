use Rattle.ft_trace.specs.declared.Act.TheVariants.{ReadCounter}
use Rattle.ft_bank.proofs.bank.Bank.stamp.Given as goal

abbrev pub ghosts-load_as : goal.ghosts-load_as
ghosts-load_as a = record { act = λ n. ReadCounter n }
