use Rattle.ft_trace.specs.declared.Act.TheVariants.{DropShared}
use Rattle.ft_bank.proofs.bank.Bank.drop_shared.Given as goal

abbrev pub ghosts-lower_as : goal.ghosts-lower_as
ghosts-lower_as a = record { act = λ n. DropShared a.b n }
