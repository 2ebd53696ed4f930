use Rattle.ft_trace.specs.declared.Act.TheVariants.{Version}
use Rattle.ft_bank.proofs.bank.Bank.seq.Given as goal

abbrev pub ghosts-load_as : goal.ghosts-load_as
ghosts-load_as a = record { act = λ n. Version a.o n }
