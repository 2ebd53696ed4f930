use Rattle.ft_trace.specs.declared.Act.TheVariants.{TakeTable}
use Rattle.ft_bank.proofs.bank.Bank.clear_bit.Given as goal

abbrev pub ghosts-mask_as : goal.ghosts-mask_as
ghosts-mask_as a = record { act = λ n s. TakeTable a.t n s }
