use Rattle.ft_trace.specs.declared.Act.TheVariants.{GivePlace}
use Rattle.ft_bank.proofs.bank.Bank.give_place.Given as goal

abbrev pub ghosts-set_as : goal.ghosts-set_as
ghosts-set_as a = record { act = λ n. GivePlace a.b }
