use Rattle.ft_trace.specs.declared.Act.TheVariants.{Announce}
use Rattle.ft_bank.proofs.bank.Bank.announce.Given as goal

abbrev pub ghosts-store_as : goal.ghosts-store_as
ghosts-store_as a = record { act = λ n. Announce a.t a.value }
