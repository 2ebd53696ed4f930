use Rattle.ft_trace.specs.declared.Act.TheVariants.{ReadFree}
use Rattle.ft_bank.proofs.bank.Bank.read_free.Given as goal

abbrev pub ghosts-load_as : goal.ghosts-load_as
ghosts-load_as a = record { act = λ n. ReadFree a.t n }
