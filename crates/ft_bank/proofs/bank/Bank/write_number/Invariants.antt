use Rattle.ft_trace.specs.declared.Act.TheVariants.{WriteNumber}
use Rattle.ft_bank.proofs.bank.Bank.write_number.Given as goal

abbrev pub ghosts-load_as : goal.ghosts-load_as
ghosts-load_as a = record { act = λ n. WriteNumber n }
