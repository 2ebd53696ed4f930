use Rattle.ft_trace.specs.declared.Act.TheVariants.{ReadAnnounced}
use Rattle.ft_bank.proofs.bank.Bank.announced.Given as goal

abbrev pub ghosts-load_as : goal.ghosts-load_as
ghosts-load_as a = record { act = λ n. ReadAnnounced a.t n }
