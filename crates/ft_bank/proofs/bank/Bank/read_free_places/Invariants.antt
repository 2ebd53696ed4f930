use Rattle.ft_trace.specs.declared.Act.TheVariants.{ReadFreePlaces}
use Rattle.ft_bank.proofs.bank.Bank.read_free_places.Given as goal

abbrev pub ghosts-load_as : goal.ghosts-load_as
ghosts-load_as a = record { act = λ n. ReadFreePlaces a.o a.i n }
