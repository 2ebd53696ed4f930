use Rattle.ft_trace.specs.declared.Act.TheVariants.{ReadHeader}
use Rattle.ft_bank.proofs.bank.Bank.goal.Given as goal

abbrev pub ghosts-load_as : goal.ghosts-load_as
ghosts-load_as a = record { act = λ n. ReadHeader a.t n }
