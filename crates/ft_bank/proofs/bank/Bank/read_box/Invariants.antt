use Rattle.ft_trace.specs.declared.Act.TheVariants.{ReadBox}
use Rattle.ft_bank.proofs.bank.Bank.read_box.Given as goal

abbrev pub ghosts-load_as : goal.ghosts-load_as
ghosts-load_as a = record { act = λ n. ReadBox a.o a.i n }
