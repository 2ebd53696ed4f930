use Rattle.ft_trace.specs.declared.Act.TheVariants.{ReadTable}
use Rattle.ft_bank.proofs.bank.Bank.read_word.Given as goal

abbrev pub ghosts-load_as : goal.ghosts-load_as
ghosts-load_as a = record { act = λ n. ReadTable a.t a.i n }
