use Rattle.ft_trace.specs.declared.Act.TheVariants.{TakePlace}
use Rattle.ft_bank.proofs.bank.Bank.take_place.Given as goal

abbrev pub ghosts-mask_as : goal.ghosts-mask_as
ghosts-mask_as a = record { act = λ n s. TakePlace a.t n }
